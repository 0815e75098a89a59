-- The first fault of several tests and parts, one after the other.
use Rattle.std.proofs.Common.{◌≡◌, ℕ, ◌+◌, ◌<◌, Bool, cond, true, List, [], ◌∷◌, drop, filter, get_or, length, Option}
use Rattle.std.proofs.Common.{Some, None, Result, Ok, Err, sym, ap, ◌∙◌, subst, arith, add-one}
use Rattle.std.proofs.Math.Seq.{drop-cons}
use Rattle.std.specs.Option.{option_or}
use Rattle.desk_ports.specs.FileMap.{names_of}
use Rattle.desk_ports.specs.declared.file_sets.SetFile.{SetFile}
use Rattle.set_text.specs.declared.lines.FileFault.{FileFault}
use Rattle.set_text.specs.declared.lines.FileFault.TheVariants.{Line, Memory as FileMemory}
use Rattle.set_text.specs.declared.refusals.TextRefusal.{TextRefusal}
use Rattle.set_text.specs.declared.refusals.TextRefusal.TheVariants.{Damaged, Memory}
use Rattle.set_text.specs.Fault.{Fault, unless, with_value, in_file, odd_name}
use Rattle.set_text.specs.Refusal.{Refuses}
use Rattle.set_text.specs.parts.Names.{NamesLine, RefusesTest}
use Rattle.set_text.specs.parts.Reads.{RefusesFile}

-- the fault of a file that is read line by line
pub refuses-file : {X : Type 0} (refusal : TextRefusal) (name : List ℕ) (fault : FileFault) (read : Result X ℕ)
    → NamesLine refusal name fault → RefusesFile fault read → Refuses refusal (in_file name read)
refuses-file (Damaged file line) name (Line number) read names is = ap (in_file name) is
    ∙ ap (λ (fault : Fault). Err fault) names
refuses-file (Memory error) name fault read names is = tt
refuses-file (Damaged file line) name (FileMemory error) read names is = absurd names

module _ {X : Type 0} (refusal : TextRefusal) where
  pub skip-test : (fault : Option Fault) (later : Result X Fault) → fault ≡ None → Refuses refusal later
      → Refuses refusal (unless fault later)
  skip-test fault later none refuses = subst (Refuses refusal) (sym (ap (λ fault. unless fault later) none)) refuses

  pub skip-part : {Y : Type 0} (part : Result Y Fault) (value : Y) (later : Y → Result X Fault) → part ≡ Ok value
      → Refuses refusal (later value) → Refuses refusal (with_value part later)
  skip-part part value later is refuses = subst (Refuses refusal) (sym (ap (λ part. with_value part later) is)) refuses

pub stop-test : {X : Type 0} (refusal : TextRefusal) (fault : Option Fault) (later : Result X Fault)
    → RefusesTest refusal fault
    → Refuses refusal (unless fault later)
stop-test (Damaged file line) fault later is = ap (λ fault. unless fault later) is
stop-test (Memory error) fault later is = tt

pub stop-part : {X Y : Type 0} (refusal : TextRefusal) (part : Result Y Fault) (later : Y → Result X Fault)
    → Refuses refusal part
    → Refuses refusal (with_value part later)
stop-part (Damaged file line) part later is = ap (λ part. with_value part later) is
stop-part (Memory error) part later is = tt

-- a first fault is that of both tests
pub stop-first : (refusal : TextRefusal) (first second : Option Fault) → RefusesTest refusal first
    → RefusesTest refusal (option_or first second)
stop-first (Damaged file line) first second is = ap (λ first. option_or first second) is
stop-first (Memory error) first second is = tt

-- ---- the front of a list that is left

pub drop-item : {X : Type 0} (xs : List X) (i : ℕ) (x : X) → i < length xs → x ≡ get_or xs i x
    → drop i xs ≡ x ∷ drop (i + 1) xs
drop-item xs i x within at = drop-cons xs i x within ∙ (λ j. sym at j ∷ drop (sym (add-one i) j) xs)

-- where no name is wanted any more, a file of the sort is odd
pub odd-none : (of_sort : List ℕ → Bool) (files : List SetFile) (i : ℕ) (file : SetFile) (rest : List (List ℕ))
    → i < length files → file ≡ get_or files i file → of_sort file.name ≡ true → length rest ≡ 0
    → odd_name rest (filter of_sort (names_of (drop i files))) ≡ Some file.name
odd-none of_sort files i file (name ∷ rest) within at is none = absurd (omega arith)
odd-none of_sort files i file [] within at is none =
    let others = filter of_sort (names_of (drop (i + 1) files)) in
    ap (λ (files : List SetFile). odd_name [] (filter of_sort (names_of files))) (drop-item files i file within at)
    ∙ ap (λ b. odd_name [] (cond b (file.name ∷ others) others)) is
