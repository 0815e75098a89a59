-- States that are published one behind the other, and what a side is then.
use Rattle.std.proofs.Common.{◌≡◌, ◌<◌, ◌∙◌, ◌++◌, ◌∷◌, [], ℕ, cond, List, refl, ap, sym}
use Rattle.std.proofs.lemmas.Bool.{lt-ltb}
use Rattle.desk_state.specs.DeskState.{DeskState}
use Rattle.live_desk.specs.History.{last_commit}
use Rattle.server_hall.specs.Tally.{Tally, after_hang}
use Rattle.admin_door.specs.Side.{AdminSide, with_shown}
use Rattle.admin_door.specs.Settling.{with_last_shown}

-- the last one is the newest
pub last-behind : (low : ℕ) (published : List DeskState) (desk : DeskState) → last_commit low (published ++ desk ∷ []) ≡ desk.commit
last-behind low [] desk = refl
last-behind low (first ∷ more) desk = last-behind first.commit more desk

-- two sides are one
pub same-side : (one other : AdminSide) → one.desk ≡ other.desk → one.decided ≡ other.decided → one.published ≡ other.published
    → one.tally ≡ other.tally → one.calls ≡ other.calls → one.faults ≡ other.faults → one ≡ other
same-side one other desk decided published tally calls faults i = record {
  desk = desk i;
  decided = decided i;
  published = published i;
  tally = tally i;
  calls = calls i;
  faults = faults i;
}

-- what is newer is shown
pub shown-newer : (side : AdminSide) → last_commit 0 side.published < side.desk.commit → with_shown side.desk side ≡ with_last_shown side
shown-newer side newer =
    ap (λ newer. cond newer (with_shown side.desk side) side) (sym (lt-ltb (last_commit 0 side.published) side.desk.commit newer))

-- the hall is told the commit of what was published last
pub hung-last : (published : List DeskState) (desk : DeskState) (old now : Tally)
    → now ≡ after_hang (last_commit 0 (published ++ desk ∷ [])) old → now ≡ after_hang desk.commit old
hung-last published desk old now hung = hung ∙ ap (λ commit. after_hang commit old) (last-behind 0 published desk)
