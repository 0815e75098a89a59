-- A state is stored, or is a candidate until it is decided; it is published and acknowledged.
use Rattle.std.proofs.Common.{◌≡◌, ◌<◌, ◌+◌, ◌==◌, Bool, true, false, ◌&&◌, [], ◌∷◌, ◌++◌, Option, Some, None, refl, sym, ap, subst, ◌∙◌, arith}
use Rattle.std.specs.Prelude.{is_none, nat_lt}
use Rattle.std.proofs.lemmas.Bool.{and_parts, ltb-true, eqb-true}
use Rattle.std.proofs.lemmas.Option.{none-some, same_Some}
use Rattle.desk_state.specs.DeskState.{DeskState}
use Rattle.desk_world.specs.World.{World, latest, last, with_commit}
use Rattle.desk_world.specs.Clients.{kept}
use Rattle.desk_world.specs.Grows.{Grows}
use Rattle.desk_world.specs.Kept.{Follows, IsKept}
use Rattle.desk_world.proofs.Options.{with_some-tells, when-tells, some-tells, none_there}
use Rattle.desk_world.proofs.Lists.{begins_same, begins_push}
use Rattle.desk_world.proofs.Growing.{links_same, entries_same}
use Rattle.desk_world.proofs.Keeping.{Step}
use Rattle.desk_state.specs.Next.{next as next_state}
use Rattle.desk_state.specs.Rules.{fault}
use Rattle.desk_state.specs.declared.commands.Command.{Command}
use Rattle.desk_world.specs.Commits.{may_store, stored, undecided, decided, decide, publish, acknowledge}
use Rattle.desk_world.proofs.Committing.{latest-push, chain_push, moving, moves}
use Rattle.desk_world.proofs.Monotone.{links_still}

-- ---- a state is committed

module _ (w : World) (kept : IsKept w) (desk : DeskState) (follows : Follows (latest w) desk)
    (settled : w.acknowledged ≡ last w) where
  abbrev committed_world : World
  committed_world = record w { later = w.later ++ desk ∷ []; candidate = None }

  latest_is : latest committed_world ≡ desk
  latest_is = latest-push w.first w.later desk

  last_is : last committed_world ≡ last w + 1
  last_is = ap (λ (desk : DeskState). desk.commit) (latest_is ∙ follows.next)

  abbrev commit_grows : Grows w committed_world
  commit_grows =
      moving w kept (w.later ++ desk ∷ []) w.acknowledged None w.published w.note w.run w.links w.agents w.entries
      (begins_push w.later desk) (omega arith) (omega arith) (omega arith) (omega (arith, last_is)) (omega arith)
      (links_same w.links) (entries_same w.entries)

  pub commit-step : Step w committed_world
  commit-step =
      moves w kept (w.later ++ desk ∷ []) w.acknowledged None w.published w.note w.run w.links w.agents w.entries commit_grows
      (record {
        first = kept.ordered.first;
        acknowledged = kept.ordered.acknowledged;
        note = kept.ordered.note;
        published = omega (arith, kept.ordered.published, last_is);
        under_way = omega (arith, last_is, settled);
        candidate = λ desk e. absurd (none-some desk e);
      })
      (chain_push w.first w.later desk kept.chain follows) (λ desk e. absurd (none-some desk e)) kept.current
      (links_still w committed_world commit_grows w.links kept.links) kept.numbered

-- ---- the candidate is set, or given up

module _ (w : World) (kept : IsKept w) (candidate : Option DeskState)
    (follows : (desk : DeskState) → candidate ≡ Some desk → Follows (latest w) desk)
    (settled : (desk : DeskState) → candidate ≡ Some desk → last w ≡ w.acknowledged) where
  abbrev proposed : World
  proposed = record w { candidate = candidate }

  abbrev propose_grows : Grows w proposed
  propose_grows =
      moving w kept w.later w.acknowledged candidate w.published w.note w.run w.links w.agents w.entries
      (begins_same w.later) (omega arith) (omega arith) (omega arith) (omega arith) (omega arith)
      (links_same w.links) (entries_same w.entries)

  pub propose-step : Step w proposed
  propose-step =
      moves w kept w.later w.acknowledged candidate w.published w.note w.run w.links w.agents w.entries propose_grows
      (record {
        first = kept.ordered.first;
        acknowledged = kept.ordered.acknowledged;
        note = kept.ordered.note;
        published = kept.ordered.published;
        under_way = kept.ordered.under_way;
        candidate = settled;
      })
      kept.chain follows kept.current (links_still w proposed propose_grows w.links kept.links) kept.numbered

pub drop-step : (w : World) → IsKept w → Step w (record w { candidate = None })
drop-step w kept =
    propose-step w kept None (λ desk e. absurd (none-some desk e)) (λ desk e. absurd (none-some desk e))

-- what an accepted command leads to
pub accepted_follows : (w : World) (command : Command) → may_store command w ≡ true
    → (w.acknowledged ≡ last w) × (w.candidate ≡ None) × Follows (latest w) (next_state (latest w) command)
accepted_follows w command e =
    let both = and_parts (w.acknowledged == last w) (is_none w.candidate && is_none (fault (latest w) command)) e in
    let rest = and_parts (is_none w.candidate) (is_none (fault (latest w) command)) both.1 in (
      eqb-true w.acknowledged (last w) both.0,
      none_there w.candidate rest.0,
      record { command = command; accepted = none_there (fault (latest w) command) rest.1; next = refl },
    )

pub stored-steps : (w next : World) → IsKept w → (command : Command) → stored command w ≡ Some next → Step w next
stored-steps w next kept command e =
    when-tells (Step w) (may_store command w) (with_commit (next_state (latest w) command) w) next e
    (λ test.
    let accepted = accepted_follows w command test in
    let P : Option DeskState → Type 0 =
    λ candidate. Step w (record w { later = w.later ++ next_state (latest w) command ∷ []; candidate = candidate }) in
    subst P (sym accepted.1) (commit-step w kept (next_state (latest w) command) accepted.2 accepted.0))

pub undecided-steps : (w next : World) → IsKept w → (command : Command) → undecided command w ≡ Some next → Step w next
undecided-steps w next kept command e =
    when-tells (Step w) (may_store command w) (record w { candidate = Some (next_state (latest w) command) }) next e
    (λ test.
    let accepted = accepted_follows w command test in
    propose-step w kept (Some (next_state (latest w) command))
    (λ desk e. subst (Follows (latest w)) (same_Some (next_state (latest w) command) desk e) accepted.2)
    (λ desk e. sym accepted.0))

pub decided-step : (w : World) → IsKept w → (kept_it : Bool) (desk : DeskState) → w.candidate ≡ Some desk
    → Step w (decided kept_it desk w)
decided-step w kept true desk is =
    commit-step w kept desk (kept.candidate desk is) (sym (kept.ordered.candidate desk is))
decided-step w kept false desk is = drop-step w kept

pub decide-steps : (w next : World) → IsKept w → (kept_it : Bool) → decide kept_it w ≡ Some next → Step w next
decide-steps w next kept kept_it e =
    with_some-tells w.candidate _ next e (λ desk is e.
    some-tells (Step w) (decided kept_it desk w) next e (decided-step w kept kept_it desk is))

-- ---- publishing and acknowledging

module _ (w : World) (kept : IsKept w) where
  abbrev published_world : World
  published_world = record w { published = last w }

  abbrev publish_grows : Grows w published_world
  publish_grows =
      moving w kept w.later w.acknowledged w.candidate (last w) w.note w.run w.links w.agents w.entries
      (begins_same w.later) (omega arith) (omega arith) kept.ordered.published (omega arith) (omega arith)
      (links_same w.links) (entries_same w.entries)

  pub publish-step : Step w published_world
  publish-step =
      moves w kept w.later w.acknowledged w.candidate (last w) w.note w.run w.links w.agents w.entries publish_grows
      (record {
        first = kept.ordered.first;
        acknowledged = kept.ordered.acknowledged;
        note = omega (arith, kept.ordered.note, kept.ordered.published);
        published = omega arith;
        under_way = kept.ordered.under_way;
        candidate = kept.ordered.candidate;
      })
      kept.chain kept.candidate kept.current (links_still w published_world publish_grows w.links kept.links) kept.numbered

pub publish-steps : (w next : World) → IsKept w → publish w ≡ Some next → Step w next
publish-steps w next kept e =
    when-tells (Step w) (is_none w.candidate && nat_lt w.published (last w)) (record w { published = last w }) next e
    (λ tests. publish-step w kept)

module _ (w : World) (kept : IsKept w) (behind : w.acknowledged < w.note) where
  abbrev acknowledged_world : World
  acknowledged_world = record w { acknowledged = w.note }

  abbrev acknowledge_grows : Grows w acknowledged_world
  acknowledge_grows =
      moving w kept w.later w.note w.candidate w.published w.note w.run w.links w.agents w.entries
      (begins_same w.later) kept.ordered.acknowledged (omega arith) (omega arith) (omega arith) (omega arith)
      (links_same w.links) (entries_same w.entries)

  pub acknowledge-step : Step w acknowledged_world
  acknowledge-step =
      moves w kept w.later w.note w.candidate w.published w.note w.run w.links w.agents w.entries acknowledge_grows
      (record {
        first = omega (arith, kept.ordered.first, kept.ordered.acknowledged);
        acknowledged = omega arith;
        note = kept.ordered.note;
        published = kept.ordered.published;
        under_way = omega (arith, kept.ordered.under_way, kept.ordered.acknowledged);
        candidate = λ desk e.
            omega (arith, kept.ordered.candidate desk e, behind, kept.ordered.note, kept.ordered.published);
      })
      kept.chain kept.candidate kept.current (links_still w acknowledged_world acknowledge_grows w.links kept.links)
      kept.numbered

pub acknowledge-steps : (w next : World) → IsKept w → acknowledge w ≡ Some next → Step w next
acknowledge-steps w next kept e =
    when-tells (Step w) (nat_lt w.acknowledged w.note) (record w { acknowledged = w.note }) next e
    (λ behind. acknowledge-step w kept (ltb-true w.acknowledged w.note behind))
