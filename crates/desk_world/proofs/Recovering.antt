-- The state that a stop leaves is the acknowledged one, or one that was under way.
use Rattle.std.proofs.Common.{◌≡◌, ℕ, ◌≤◌, ◌<◌, ◌+◌, ◌==◌, ◌⊎◌, inl, inr, Bool, true, false, cond, List, [], ◌∷◌, Option, Some, None, refl, sym, ap, subst, ◌∙◌, arith}
use Rattle.std.proofs.lemmas.Bool.{eqb-true, eqb-false, cond_both}
use Rattle.std.proofs.lemmas.Option.{none-some, same_Some}
use Rattle.desk_state.specs.DeskState.{DeskState}
use Rattle.desk_state.specs.Next.{next}
use Rattle.desk_state.specs.declared.commands.Command.{Command}
use Rattle.desk_world.specs.World.{World, fresh, history, latest_of, latest, last, desk_at}
use Rattle.desk_world.specs.Commits.{committed, restarted, under_way, may_stop}
use Rattle.desk_world.specs.Kept.{Follows, IsChain, IsKept}
use Rattle.desk_world.specs.Stops.{IsAcknowledged, IsUnderWay, Recovery}
use Rattle.desk_world.proofs.Options.{when-tells}
use Rattle.desk_world.proofs.Committing.{latest-push}
use Rattle.desk_world.proofs.Runs.{fresh_is, run-steps}

-- ---- the last state is found by its commit

follows-commit : (desk after : DeskState) → Follows desk after → after.commit ≡ desk.commit + 1
follows-commit desk after follows = ap (λ (desk : DeskState). desk.commit) follows.next

latest-low : (desk : DeskState) (later : List DeskState) → IsChain desk later → desk.commit ≤ (latest_of desk later).commit
latest-low desk [] chain = omega arith
latest-low desk (after ∷ later) chain =
    omega (arith, follows-commit desk after chain.0, latest-low after later chain.1)

find-first : (desk : DeskState) (later : List DeskState) → desk_at desk.commit (desk ∷ later) ≡ Some desk
find-first desk later =
    cond_both (desk.commit == desk.commit) (Some desk) (desk_at desk.commit later) (λ found. found ≡ Some desk) (λ e. refl)
    (λ e. absurd (eqb-false desk.commit desk.commit e refl))

find-later : (commit : ℕ) (desk : DeskState) (later : List DeskState) → desk.commit < commit
    → desk_at commit (desk ∷ later) ≡ desk_at commit later
find-later commit desk later low =
    cond_both (desk.commit == commit) (Some desk) (desk_at commit later) (λ found. found ≡ desk_at commit later)
    (λ e. let same = eqb-true desk.commit commit e in absurd (omega (arith, low, same))) (λ e. refl)

latest-found : (desk : DeskState) (later : List DeskState) → IsChain desk later
    → desk_at (latest_of desk later).commit (desk ∷ later) ≡ Some (latest_of desk later)
latest-found desk [] chain = find-first desk []
latest-found desk (after ∷ later) chain =
    find-later (latest_of after later).commit desk (after ∷ later)
    (omega (arith, follows-commit desk after chain.0, latest-low after later chain.1))
    ∙ latest-found after later chain.1

-- ---- what is left

-- nothing that was under way is kept: the last state is acknowledged, or stored and not yet acknowledged
unchanged-left : (w : World) (command : Option Command) → IsKept w
    → IsAcknowledged w (latest w) ⊎ IsUnderWay w command (latest w)
unchanged-left w command kept =
    let found = latest-found w.first w.later kept.chain in
    let order = kept.ordered in
    cond_both (last w == w.acknowledged) true false
    (λ (test : Bool). IsAcknowledged w (latest w) ⊎ IsUnderWay w command (latest w))
    (λ e. inl (subst (λ commit. desk_at commit (history w) ≡ Some (latest w)) (eqb-true (last w) w.acknowledged e) found))
    (λ e.
    let other = eqb-false (last w) w.acknowledged e in
    let next_one : last w ≡ w.acknowledged + 1 =
    omega (arith, other, order.acknowledged, order.note, order.published, order.under_way) in
    inr (inl (subst (λ commit. desk_at commit (history w) ≡ Some (latest w)) next_one found)))

committed-left : (w : World) (command : Option Command) (state : Option DeskState) → IsKept w
    → ((desk : DeskState) → state ≡ Some desk → IsUnderWay w command desk)
    → IsAcknowledged w (latest (committed state w)) ⊎ IsUnderWay w command (latest (committed state w))
committed-left w command None kept each = unchanged-left w command kept
committed-left w command (Some desk) kept each =
    subst (λ now. IsAcknowledged w now ⊎ IsUnderWay w command now) (sym (latest-push w.first w.later desk))
    (inr (each desk refl))

under_way-is : (w : World) (command : Option Command) (desk : DeskState) → under_way command w ≡ Some desk
    → IsUnderWay w command desk
under_way-is w None desk e = inr (inl e)
under_way-is w (Some command) desk e = inr (inr (command, refl, sym (same_Some (next (latest w) command) desk e)))

kept-is : (w : World) (command : Option Command) (kept_it : Bool) (desk : DeskState)
    → cond kept_it (under_way command w) None ≡ Some desk → IsUnderWay w command desk
kept-is w command true desk e = under_way-is w command desk e
kept-is w command false desk e = absurd (none-some desk e)

pub recovery : Recovery
recovery desk events command kept_it before after first second =
    let kept = (run-steps events (fresh desk) before (fresh_is desk) first).kept in
    when-tells (λ (next : World). IsAcknowledged before (latest next) ⊎ IsUnderWay before command (latest next))
    (may_stop command before) (restarted (committed (cond kept_it (under_way command before) None) before)) after second
    (λ may. committed-left before command (cond kept_it (under_way command before) None) kept
    (kept-is before command kept_it))
