-- No more kinds have an agent than may.
use Rattle.std.proofs.Common.{arith, ◌≡◌, ◌≤◌, ◌<◌, ℕ, suc, ◌==◌, Bool, true, false, cond, nat_le, List, [], ◌∷◌, length, Option, Some, None, Result, Ok, Err, is_none, refl, sym}
use Rattle.std.proofs.lemmas.Bool.{leb-false}
use Rattle.std.specs.declared.cmp.Ordering.TheVariants.{Less, Equal, Greater}
use Rattle.std.specs.BTreeSet.{insert_key}
use Rattle.std.specs.Set.{remove_key}
use Rattle.std.specs.Ordering.{nat_cmp, match_ordering}
use mathlib.Core.Bool.{true≢false}
use Rattle.cynara_keys.specs.declared.results.Kind.{Kind}
use Rattle.agent_table.specs.Limits.{most_agents}
use Rattle.agent_table.specs.declared.refusals.RegisterRefusal.TheVariants.{Stopped, Taken, Full}
use Rattle.agent_table.specs.declared.refusals.TakeRefusal.{TakeRefusal}
use Rattle.agent_table.specs.declared.refusals.TakeRefusal.TheVariants.{UnknownNumber, AgentGone, Stopped as NoneTaken, NotYet}
use Rattle.agent_table.specs.declared.table.Taken as taken_type
use Rattle.agent_table.specs.declared.open_questions.OpenQuestion.{OpenQuestion}
use Rattle.agent_table.specs.OpenQuestion.{numbered, first_waiting, is_owed_by}
use Rattle.agent_table.specs.Table.{Table, has_agent, after_register, after_put, after_answer, after_next}
use Rattle.agent_table.specs.Refusals.{register_fault, put_fault, take_reply, after_take}
use Rattle.agent_table.specs.Runs.{Call, register, put, next, answer, take, withdraw, drop_agent, stop, table_after}

-- ---- the kinds of a table

inserted : (keys : List ℕ) (kind : ℕ) → length (insert_key nat_cmp keys kind) ≤ suc (length keys)
inserted [] kind = omega arith
inserted (key ∷ keys) kind =
    let more = inserted keys kind in
    elim (nat_cmp kind key)
    as (λ o. length (match_ordering o (kind ∷ key ∷ keys) (key ∷ keys) (key ∷ insert_key nat_cmp keys kind))
    ≤ suc (suc (length keys)))
    [ Less ↦ omega arith | Equal ↦ omega arith | Greater ↦ omega arith ]

removed : (keys : List ℕ) (kind : ℕ) → length (remove_key (λ other. other == kind) keys) ≤ length keys
removed [] kind = omega arith
removed (key ∷ keys) kind =
    let more = removed keys kind in
    elim (key == kind)
    as (λ b. length (cond b keys (key ∷ remove_key (λ other. other == kind) keys)) ≤ suc (length keys))
    [ true ↦ omega arith | false ↦ omega arith ]

-- ---- an agent that comes

room-left : (kind : Kind) (count : ℕ) (stopped has full : Bool) → nat_le most_agents count ≡ full
    → is_none (cond stopped (Some Stopped) (cond has (Some (Taken kind)) (cond full (Some Full) None))) ≡ true
    → count < most_agents
room-left kind count true has full is none = absurd (true≢false (sym none))
room-left kind count false true full is none = absurd (true≢false (sym none))
room-left kind count false false true is none = absurd (true≢false (sym none))
room-left kind count false false false is none = leb-false most_agents count is

registered : (kind : Kind) (table : Table) (comes : Bool) → is_none (register_fault kind table) ≡ comes
    → length table.agents ≤ most_agents
    → length (cond comes (after_register kind.0 table) table).agents ≤ most_agents
registered kind table true is few =
    let room : length table.agents < most_agents =
    room-left kind (length table.agents) table.stopped (has_agent kind.0 table) (nat_le most_agents (length table.agents)) refl is in
    let more = inserted table.agents kind.0 in
    omega arith
registered kind table false is few = few

-- ---- the other calls, which leave the kinds as they are

abbrev FewIn : Table → Type 0
FewIn table = length table.agents ≤ most_agents

when : (b : Bool) (new old : Table) → FewIn new → FewIn old → FewIn (cond b new old)
when true new old one other = one
when false new old one other = other

given : (question : Option OpenQuestion) (table : Table) → FewIn table → FewIn (after_next question table)
given None table few = few
given (Some question) table few = few

taken : (reply : Result taken_type.Taken TakeRefusal) (number : ℕ) (table : Table) → FewIn table → FewIn (after_take reply number table)
taken (Ok given_so) number table few = few
taken (Err (UnknownNumber other)) number table few = few
taken (Err (AgentGone other)) number table few = few
taken (Err NoneTaken) number table few = few
taken (Err NotYet) number table few = few

-- ---- a run

pub all-few : (run : List Call) → length (table_after run).agents ≤ most_agents
all-few [] = omega arith
all-few (register kind ∷ run) = registered kind (table_after run) (is_none (register_fault kind (table_after run))) refl (all-few run)
all-few (put kind question metadata ∷ run) =
    when (is_none (put_fault kind (table_after run))) (after_put kind question metadata (table_after run)) (table_after run)
    (all-few run) (all-few run)
all-few (next kind ∷ run) = given (first_waiting kind (table_after run).questions) (table_after run) (all-few run)
all-few (answer kind number allowed ∷ run) =
    when (is_owed_by kind (numbered number (table_after run).questions)) (after_answer number allowed (table_after run)) (table_after run)
    (all-few run) (all-few run)
all-few (take number ∷ run) = taken (take_reply number (table_after run)) number (table_after run) (all-few run)
all-few (withdraw number ∷ run) = all-few run
all-few (drop_agent kind ∷ run) =
    let less = removed (table_after run).agents kind in
    let few = all-few run in
    omega arith
all-few (stop ∷ run) = all-few run
