-- From what the reader's pass knows to what is said of recorders.
use Rattle.std.proofs.Common.{◌≡◌, ℕ, zero, suc, List, [], ◌∷◌, ◌++◌, map, refl, sym, ap, ◌∙◌, subst, arith}
use Rattle.std.specs.List.{AllByRecursion}
use mathlib.Core.Option.{some}
use lib.ListN.{get_elem?}
use Rattle.crossbeam_queue.specs.Fifo.{Held}
use Rattle.crossbeam_queue.proofs.Lists.{at_map}
use Rattle.monitor_rule.specs.declared.entries.Entry.{Entry}
use Rattle.monitor_rule.specs.declared.knowing.Account.{Account}
use Rattle.monitor_rule.specs.declared.knowing.View.{View}
use Rattle.monitor_rule.specs.Entries.{of_worker}
use Rattle.monitor_rule.specs.Steps.{AreAllJoined, AreKnown, AreSettled, TellsLeft}
use Rattle.check_monitor.specs.Monitor.{RecorderState, AreWhole, Cover, account_in, with_joined_all}

-- where all recorders were taken in, each worker has an account
pub all_joined : (recorders : List RecorderState) (v : View) → v.joined ≡ [] → Cover v.made recorders → AreAllJoined (with_joined_all recorders v)
all_joined recorders v none cover worker low =
    let (place, recorder, at, is) = cover worker low in
    (place, account_in recorder, subst (λ (joined : List Account). get_elem? (joined ++ map account_in recorders) place ≡ some (account_in recorder)) (sym none) (at_map account_in recorders place recorder at), is)

each-account : (P : Account → Type 0) (recorders : List RecorderState)
    → ((place : ℕ) (account : Account) → get_elem? (map account_in recorders) place ≡ some account → P account)
    → AllByRecursion (λ recorder. P (account_in recorder)) recorders
each-account P [] each = tt
each-account P (recorder ∷ more) each = (each zero (account_in recorder) refl, each-account P more (λ (place : ℕ) (account : Account) e. each (suc place) account e))

-- where what is left is known, the recorders put what was handed out and what is left
pub all_whole : (recorders : List RecorderState) (v : View) (left : List Entry) → v.joined ≡ [] → AreSettled (with_joined_all recorders v) left
    → AreWhole (v.handed ++ left) recorders
all_whole recorders v left none settled =
    each-account (λ (account : Account). account.put ≡ of_worker account.worker (v.handed ++ left)) recorders
    (λ (place : ℕ) (account : Account) e. settled place account
    (subst (λ (joined : List Account). get_elem? (joined ++ map account_in recorders) place ≡ some account) (sym none) e))

-- an entry came, and what is left behind it
pub whole_some : (recorders : List RecorderState) (v joined w : View) (entry : Entry) (handed rest : List Entry) → v.joined ≡ [] → v.handed ≡ handed
    → joined ≡ with_joined_all recorders v → TellsLeft joined entry w → rest ≡ entry ∷ w.left → AreWhole (handed ++ rest) recorders
whole_some recorders v joined w entry handed rest none is-handed is-joined (left, is, number, settled, known) is-rest =
    let here : AreSettled (with_joined_all recorders v) (entry ∷ left) = subst (λ (u : View). AreSettled u (entry ∷ left)) is-joined settled in
    let same : rest ≡ entry ∷ left = is-rest ∙ ap (λ (u : View). entry ∷ u.left) is in
    subst (λ (entries : List Entry). AreWhole entries recorders)
    (ap (λ (front : List Entry). front ++ entry ∷ left) is-handed ∙ ap (λ (back : List Entry). handed ++ back) (sym same))
    (all_whole recorders v (entry ∷ left) none here)

pub known_some : (recorders : List RecorderState) (v joined w : View) (entry : Entry) (made : ℕ) (rest : List Entry) → v.made ≡ made
    → joined ≡ with_joined_all recorders v → TellsLeft joined entry w → rest ≡ entry ∷ w.left → AreKnown made rest
known_some recorders v joined w entry made rest is-made is-joined (left, is, number, settled, known) is-rest =
    let same : rest ≡ entry ∷ left = is-rest ∙ ap (λ (u : View). entry ∷ u.left) is in
    let count : joined.made ≡ made = ap (λ (u : View). u.made) is-joined ∙ is-made in
    subst (λ (entries : List Entry). AreKnown made entries) (sym same) (subst (λ (n : ℕ). AreKnown n (entry ∷ left)) count known)

pub known_none : (made : ℕ) (rest : List Entry) → rest ≡ [] → AreKnown made rest
known_none made rest is = subst (λ (entries : List Entry). AreKnown made entries) (sym is) tt

-- the queue held nothing
pub whole_none : (recorders : List RecorderState) (v joined : View) (handed rest : List Entry) → v.joined ≡ [] → v.handed ≡ handed
    → joined ≡ with_joined_all recorders v → Held 0 (AreSettled joined) → rest ≡ [] → AreWhole (handed ++ rest) recorders
whole_none recorders v joined handed rest none is-handed is-joined ([], count, settled) is-rest =
    let here : AreSettled (with_joined_all recorders v) [] = subst (λ (u : View). AreSettled u []) is-joined settled in
    subst (λ (entries : List Entry). AreWhole entries recorders)
    (ap (λ (front : List Entry). front ++ []) is-handed ∙ ap (λ (back : List Entry). handed ++ back) (sym is-rest))
    (all_whole recorders v [] none here)
whole_none recorders v joined handed rest none is-handed is-joined (entry ∷ more, count, settled) is-rest = absurd (omega (arith, count))
