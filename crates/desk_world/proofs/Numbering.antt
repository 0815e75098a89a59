-- Numbers of entries: each is below the count of its run, so the next number is free.
use Rattle.std.proofs.Common.{◌≡◌, ℕ, ◌<◌, ◌+◌, ◌==◌, Bool, true, false, ◌&&◌, cond, List, [], ◌∷◌, ◌++◌, map, Some, None, refl, ap, ◌∙◌, arith}
use Rattle.std.specs.Prelude.{All}
use Rattle.std.specs.List.{find}
use Rattle.std.specs.Option.{option_or}
use Rattle.std.proofs.lemmas.Bool.{and_parts, eqb-true, eq-eqb, false_from_ne_true}
use Rattle.std.proofs.lemmas.List.Elements.{All-map, All-weaker, All-push, All-head, All-tail}
use Rattle.std.proofs.lemmas.List.Folds.{find-append}
use Rattle.std.proofs.lemmas.List.Sums.{sum_by-append}
use Rattle.desk_world.specs.World.{entry_at}
use Rattle.desk_world.specs.Agents.{count_of}
use Rattle.desk_world.specs.declared.agent_entries.AgentEntry.{AgentEntry}

abbrev pub IsNumbered : List AgentEntry → Type 0
IsNumbered entries = All (λ (entry : AgentEntry). entry.number < count_of entry.run entries) entries

-- ---- a change of every entry that keeps run and number

count_of-map : (f : AgentEntry → AgentEntry) → ((entry : AgentEntry) → (f entry).run ≡ entry.run) → (run : ℕ)
    → (entries : List AgentEntry) → count_of run (map f entries) ≡ count_of run entries
count_of-map f runs run [] = refl
count_of-map f runs run (entry ∷ entries) =
    let one : AgentEntry → ℕ = λ entry. cond (entry.run == run) 1 0 in
    let mapped = sum_by-append one (f entry ∷ []) (map f entries) in
    let before = sum_by-append one (entry ∷ []) entries in
    let same = ap {B = ℕ} (λ number. cond (number == run) 1 0) (runs entry) in
    omega (arith, mapped, before, same, count_of-map f runs run entries)

pub numbered_map : (f : AgentEntry → AgentEntry) (entries : List AgentEntry)
    → ((entry : AgentEntry) → (f entry).run ≡ entry.run)
    → ((entry : AgentEntry) → (f entry).number ≡ entry.number) → IsNumbered entries → IsNumbered (map f entries)
numbered_map f entries runs numbers all =
    All-map (λ (entry : AgentEntry). entry.number < count_of entry.run (map f entries)) f entries
    (All-weaker (λ (entry : AgentEntry). entry.number < count_of entry.run entries)
    (λ (entry : AgentEntry). (f entry).number < count_of (f entry).run (map f entries))
    (λ entry low.
    let count = count_of-map f runs (f entry).run entries in
    let same = ap (λ run. count_of run entries) (runs entry) in
    omega (arith, low, numbers entry, count, same))
    entries all)

-- ---- one more entry

count_push : (entries : List AgentEntry) (new : AgentEntry) (run : ℕ)
    → count_of run (entries ++ new ∷ []) ≡ count_of run entries + cond (new.run == run) 1 0
count_push entries new run =
    let whole = sum_by-append (λ (entry : AgentEntry). cond (entry.run == run) 1 0) entries (new ∷ []) in
    omega (arith, whole)

pub numbered_push : (entries : List AgentEntry) (new : AgentEntry) → new.number ≡ count_of new.run entries
    → IsNumbered entries
    → IsNumbered (entries ++ new ∷ [])
numbered_push entries new is all =
    All-push (λ (entry : AgentEntry). entry.number < count_of entry.run (entries ++ new ∷ [])) entries new
    (All-weaker (λ (entry : AgentEntry). entry.number < count_of entry.run entries)
    (λ (entry : AgentEntry). entry.number < count_of entry.run (entries ++ new ∷ []))
    (λ entry low. omega (arith, low, count_push entries new entry.run)) entries all)
    (let one = ap {B = ℕ} (λ test. cond test 1 0) (eq-eqb new.run new.run refl) in
    omega (arith, count_push entries new new.run, one, is))

-- ---- the next number is free

pub none_found : (p : AgentEntry → Bool) (entries : List AgentEntry) → All (λ entry. p entry ≡ false) entries
    → find p entries ≡ None
none_found p [] all = refl
none_found p (entry ∷ entries) all =
    rw (All-head (λ entry. p entry ≡ false) entry entries all)
    (none_found p entries (All-tail (λ entry. p entry ≡ false) entry entries all))

next_is_free : (entries : List AgentEntry) (run : ℕ) → IsNumbered entries
    → entry_at run (count_of run entries) entries ≡ None
next_is_free entries run all =
    none_found (λ (entry : AgentEntry). entry.run == run && entry.number == count_of run entries) entries
    (All-weaker (λ (entry : AgentEntry). entry.number < count_of entry.run entries)
    (λ (entry : AgentEntry). (entry.run == run && entry.number == count_of run entries) ≡ false)
    (λ entry low.
    false_from_ne_true (entry.run == run && entry.number == count_of run entries)
    (λ e.
    let both = and_parts (entry.run == run) (entry.number == count_of run entries) e in
    let same = ap (λ run. count_of run entries) (eqb-true entry.run run both.0) in
    omega (arith, low, same, eqb-true entry.number (count_of run entries) both.1)))
    entries all)

-- the new entry is the one of its number
pub new_is_found : (entries : List AgentEntry) (new : AgentEntry) → new.number ≡ count_of new.run entries
    → IsNumbered entries
    → entry_at new.run (count_of new.run entries) (entries ++ new ∷ []) ≡ Some new
new_is_found entries new is all =
    let run = new.run in
    let number = count_of new.run entries in
    let p : AgentEntry → Bool = λ entry. entry.run == new.run && entry.number == count_of new.run entries in
    let passes : p new ≡ true =
    ap (λ test. test && new.number == count_of new.run entries) (eq-eqb new.run new.run refl)
    ∙ eq-eqb new.number (count_of new.run entries) is in
    find-append p entries (new ∷ [])
    ∙ (ap (λ o. option_or o (find p (new ∷ []))) (next_is_free entries new.run all)
    ∙ ap (λ test. cond test (Some new) None) passes)
