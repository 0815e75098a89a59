use Rattle.std.proofs.Common.{◌≡◌, ◌∙◌, [], Some, sym, ap, subst}
use Rattle.link_ports.specs.Told.{IfTold}
use Rattle.serve_runs.proofs.doors.open_one.Goals as goal

pub returns-in-Ok-clause-opened : goal.returns-in-Ok-clause-opened
returns-in-Ok-clause-opened g c = (
  c.at.result,
  c.put.ensures.items,
  record {
    station_is = c.at.ensures.station;
    fresh = ap g.N.Door.Door.faults c.at.ensures.door ∙ c.in-Ok.ensures.fresh;
    unused = subst (λ door. IfTold (g.N.Door.Door.given_back door) (λ links. links ≡ [])) (sym c.at.ensures.door) c.in-Ok.ensures.unused;
    is_theirs = ap g.N.Door.Door.kind c.at.ensures.door ∙ (c.in-Ok.ensures.of_kind ∙ ap Some c.kind.ensures);
  },
)
