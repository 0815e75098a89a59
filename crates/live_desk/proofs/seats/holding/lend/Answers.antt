use Rattle.std.proofs.Common.{refl}
use Rattle.live_desk.proofs.seats.holding.lend.Goals as goal

pub returns : goal.returns
returns g c = record {
  shown = _;
  room = _;
  one = _;
  other = _;
  shows = refl;
  lends = (refl, refl);
  left = _;
  met = c.answer.ensures;
  leaves = (refl, refl);
}
