-- Old links are hung up; the service stops and starts again.
use Rattle.std.proofs.Common.{◌≡◌, ℕ, ◌+◌, Bool, true, false, not, ◌&&◌, cond, [], get_or, map, Option, Some, None, refl, sym, ap, subst, arith}
use Rattle.std.proofs.lemmas.Bool.{and_parts, true≢false, false≢true, not-true}
use Rattle.std.proofs.lemmas.List.Elements.{All-map, All-weaker}
use Rattle.std.proofs.lemmas.Option.{none-some, same_Some}
use Rattle.desk_state.specs.DeskState.{DeskState}
use Rattle.desk_world.specs.World.{World, latest, last, with_commit}
use Rattle.desk_world.specs.Clients.{kept}
use Rattle.desk_world.specs.Grows.{LinkGrows, Grows}
use Rattle.desk_world.specs.Kept.{Follows, IsCurrent, IsLink, IsKept}
use Rattle.desk_world.specs.declared.agent_entries.EntryState.{EntryState}
use Rattle.desk_world.specs.declared.agent_entries.EntryState.TheVariants.{Open, Gone, Answered}
use Rattle.desk_world.specs.declared.links.Link.{Link}
use Rattle.desk_world.proofs.Options.{when-tells}
use Rattle.desk_world.proofs.Lists.{begins_same}
use Rattle.desk_world.proofs.Growing.{links_map, entries_same, entries_map}
use Rattle.desk_world.proofs.Keeping.{Step}
use Rattle.std.proofs.lemmas.Bool.{ltb-false}
use Rattle.desk_state.specs.Next.{next as next_state}
use Rattle.desk_state.specs.declared.commands.Command.{Command}
use Rattle.desk_world.specs.Commits.{committed, entered_before, hung_up, hang, closed, restarted, under_way, may_stop, stop}
use Rattle.desk_world.specs.Agents.{is_open, gone_if_open, once_stopped}
use Rattle.desk_world.proofs.Committing.{step_trans, moving, moves}
use Rattle.desk_world.proofs.Monotone.{links_still}
use Rattle.desk_world.proofs.Numbering.{numbered_map}
use Rattle.desk_world.proofs.steps.Storing.{commit-step, drop-step, accepted_follows}

-- ---- what a closing of links and a stop leave of links and entries

pub shut_grows : (link : Link) (up : Bool) → (link.up ≡ false → up ≡ false) → LinkGrows link (record link { up = up })
shut_grows link up down =
    record { client = refl; run = refl; entered = λ commit e. e; seen = λ commit e. omega arith; closed = down }

shut_is : (w : World) (link : Link) (up : Bool) → IsLink w link → IsLink w (record link { up = up })
shut_is w link up is = record {
  first = is.first;
  seen = is.seen;
  question = is.question;
  reading = is.reading;
  reply = is.reply;
  unasked = is.unasked;
  not_entered = is.not_entered;
}

pub down_stays : (up test : Bool) → up ≡ false → (up && test) ≡ false
down_stays up test e = ap (λ up. up && test) e

gone_stays : (state : EntryState) → is_open state ≡ false → gone_if_open state ≡ state
gone_stays Open e = absurd (true≢false e)
gone_stays Gone e = refl
gone_stays (Answered allowed) e = refl

-- ---- hanging up

module _ (w : World) (kept : IsKept w) where
  abbrev hung : World
  hung = hang w

  hang_grows : Grows w hung
  hang_grows =
      moving w kept w.later w.acknowledged w.candidate w.published w.published w.run (map (hung_up w.published) w.links)
      w.agents w.entries (begins_same w.later) (omega arith) kept.ordered.note (omega arith) (omega arith) (omega arith)
      (links_map (hung_up w.published) w.links
      (λ link. shut_grows link (link.up && not (entered_before w.published link.entered))
      (down_stays link.up (not (entered_before w.published link.entered)))))
      (entries_same w.entries)

  -- a link that is still up had not entered before the published commit
  still_current : (link : Link) → IsCurrent w.published (hung_up w.published link)
  still_current link up entered e =
      let both = and_parts link.up (not (entered_before w.published link.entered)) up in
      let late = not-true (entered_before w.published link.entered) both.1 in
      let P : Option ℕ → Type 0 = λ at. entered_before w.published at ≡ false in
      ltb-false entered w.published (subst P e late)

  pub hang-step : Step w hung
  hang-step =
      moves w kept w.later w.acknowledged w.candidate w.published w.published w.run (map (hung_up w.published) w.links)
      w.agents w.entries hang_grows
      (record {
        first = kept.ordered.first;
        acknowledged = omega (arith, kept.ordered.acknowledged, kept.ordered.note);
        note = omega arith;
        published = kept.ordered.published;
        under_way = kept.ordered.under_way;
        candidate = kept.ordered.candidate;
      })
      kept.chain kept.candidate
      (All-map (IsCurrent w.published) (hung_up w.published) w.links (λ k d low. still_current (get_or w.links k d)))
      (All-map (IsLink hung) (hung_up w.published) w.links
      (All-weaker (IsLink hung) (λ link. IsLink hung (hung_up w.published link))
      (λ link. shut_is hung link (link.up && not (entered_before w.published link.entered))) w.links
      (links_still w hung hang_grows w.links kept.links)))
      kept.numbered

-- ---- a stop

module _ (w : World) (kept : IsKept w) where
  abbrev again : World
  again = restarted w

  restart_grows : Grows w again
  restart_grows =
      moving w kept w.later (last w) None (last w) (last w) (w.run + 1) (map closed w.links) [] (map once_stopped w.entries)
      (begins_same w.later)
      (omega (arith, kept.ordered.acknowledged, kept.ordered.note, kept.ordered.published))
      (omega (arith, kept.ordered.note, kept.ordered.published)) kept.ordered.published (omega arith) (omega arith)
      (links_map closed w.links (λ link. shut_grows link false (λ e. refl)))
      (entries_map once_stopped w.entries (λ entry. refl) (λ entry. refl)
      (λ run number entry e.
      record { ask = refl; question = refl; kind = refl; commit = refl; settled = gone_stays entry.state }))

  pub restart-step : Step w again
  restart-step =
      moves w kept w.later (last w) None (last w) (last w) (w.run + 1) (map closed w.links) [] (map once_stopped w.entries)
      restart_grows
      (record {
        first =
            omega (arith, kept.ordered.first, kept.ordered.acknowledged, kept.ordered.note, kept.ordered.published);
        acknowledged = omega arith;
        note = omega arith;
        published = omega arith;
        under_way = omega arith;
        candidate = λ desk e. absurd (none-some desk e);
      })
      kept.chain (λ desk e. absurd (none-some desk e))
      (All-map (IsCurrent (last w)) closed w.links (λ k d low up. absurd (false≢true up)))
      (All-map (IsLink again) closed w.links
      (All-weaker (IsLink again) (λ link. IsLink again (closed link)) (λ link. shut_is again link false) w.links
      (links_still w again restart_grows w.links kept.links)))
      (numbered_map once_stopped w.entries (λ entry. refl) (λ entry. refl) kept.numbered)

-- what was under way is committed, or nothing is
settle-step : (w : World) → IsKept w → (state : Option DeskState)
    → ((desk : DeskState) → state ≡ Some desk → Follows (latest w) desk × (w.acknowledged ≡ last w))
    → Step w (record (committed state w) { candidate = None })
settle-step w kept None follows = drop-step w kept
settle-step w kept (Some desk) follows = commit-step w kept desk (follows desk refl).0 (follows desk refl).1

under_way_follows : (w : World) → IsKept w → (command : Option Command) → may_stop command w ≡ true → (desk : DeskState)
    → under_way command w ≡ Some desk → Follows (latest w) desk × (w.acknowledged ≡ last w)
under_way_follows w kept None may desk e = (kept.candidate desk e, sym (kept.ordered.candidate desk e))
under_way_follows w kept (Some command) may desk e =
    let accepted = accepted_follows w command may in
    (subst (Follows (latest w)) (same_Some (next_state (latest w) command) desk e) accepted.2, accepted.0)

kept_follows : (w : World) → IsKept w → (command : Option Command) → may_stop command w ≡ true → (kept_it : Bool)
    → (desk : DeskState) → cond kept_it (under_way command w) None ≡ Some desk
    → Follows (latest w) desk × (w.acknowledged ≡ last w)
kept_follows w kept command may true desk e = under_way_follows w kept command may desk e
kept_follows w kept command may false desk e = absurd (none-some desk e)

stop-from : (w : World) → IsKept w → (state : Option DeskState)
    → ((desk : DeskState) → state ≡ Some desk → Follows (latest w) desk × (w.acknowledged ≡ last w))
    → Step w (restarted (committed state w))
stop-from w kept None follows =
    let first = settle-step w kept None follows in
    step_trans w (record w { candidate = None }) (restarted w) first
    (restart-step (record w { candidate = None }) first.kept)
stop-from w kept (Some desk) follows =
    let first = settle-step w kept (Some desk) follows in
    step_trans w (record (with_commit desk w) { candidate = None }) (restarted (with_commit desk w)) first
    (restart-step (record (with_commit desk w) { candidate = None }) first.kept)

pub stop-steps : (w next : World) → IsKept w → (command : Option Command) (kept_it : Bool)
    → stop command kept_it w ≡ Some next → Step w next
stop-steps w next kept command kept_it e =
    when-tells (Step w) (may_stop command w) (restarted (committed (cond kept_it (under_way command w) None) w)) next e
    (λ may. stop-from w kept (cond kept_it (under_way command w) None) (kept_follows w kept command may kept_it))
