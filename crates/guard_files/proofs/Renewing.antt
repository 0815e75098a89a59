-- The last step of a mount over a list of version 1: the set that was found is saved once more.
use Rattle.std.proofs.Common.{◌≡◌, ℕ, Bool, true, false, not, ◌||◌, List, [], ◌∷◌, filter, Option, Some, Ok, inl, inr, cond, refl, sym, ◌∙◌, ap, subst}
use Rattle.std.proofs.lemmas.Bool.{false≢true}
use Rattle.std.specs.Str.{bytes_eq}
use Rattle.desk_ports.specs.declared.file_sets.SetFile.{SetFile}
use Rattle.desk_ports.specs.FileMap.{FileMap, names_of}
use Rattle.desk_ports.specs.Disk.{DiskState}
use Rattle.desk_ports.specs.Moments.{AddsOnly, LeavesOnly}
use Rattle.desk_ports.proofs.Moments.{AddsOnly-then, AddsOnly-more}
use Rattle.guard_files.specs.Recovery.{recover}
use Rattle.guard_files.specs.Holding.{is_among}
use Rattle.guard_files.specs.Mounted.{StandsFor, IsAtRest, Rests}
use Rattle.guard_files.specs.Settled.{gone_names, IsBeforeOrAfter, IsInSave}
use Rattle.guard_files.proofs.Names.{same-same}

or_left : (a b : Bool) → a ≡ true → (a || b) ≡ true
or_left true b is = refl
or_left false b is = absurd (false≢true is)

or_right : (a b : Bool) → b ≡ true → (a || b) ≡ true
or_right true b is = refl
or_right false b is = is

-- no name of a set goes where the same set is saved
none_without : (all names : List (List ℕ)) → ((name : List ℕ) → is_among names name ≡ true → is_among all name ≡ true)
    → filter (λ name. not (is_among all name)) names ≡ []
none_without all [] within = refl
none_without all (first ∷ names) within =
    ap (λ there. cond (not there) (first ∷ filter (λ name. not (is_among all name)) names) (filter (λ name. not (is_among all name)) names))
    (within first (or_left (bytes_eq first first) (is_among names first) (same-same first first refl)))
    ∙ none_without all names (λ name is. within name (or_right (bytes_eq first name) (is_among names name) is))

pub nothing_goes : (set : List SetFile) → gone_names (Some set) set ≡ []
nothing_goes set = none_without (names_of set) (names_of set) (λ name is. is)

the_same : (set : List SetFile) (left : FileMap) → IsBeforeOrAfter (Some set) (Some set) left → recover left ≡ Ok (Some set)
the_same set left (inl is) = is
the_same set left (inr is) = is

module _ {D : Type 0} (state : D → Option DiskState) (moment : D → ℕ) (left_since : D → ℕ → FileMap → Type 0) where
  -- whichever of the two sets a stop leaves, it is the same one
  pub saved_again : (files : FileMap) (set : List SetFile) (after : DiskState) (old new : D) → IsAtRest files (Some set) after
      → LeavesOnly moment left_since old new (IsInSave after (Some set) set)
      → AddsOnly moment left_since old new (StandsFor files (Some set))
  saved_again files set after old new rests leaves =
      AddsOnly-more moment left_since old new (IsInSave after (Some set) set) (StandsFor files (Some set))
      (λ left is. record {
        recovers = the_same set left is.sets;
        others = λ name foreign. is.others name foreign (rests.untouched name foreign) ∙ rests.others name foreign;
      }) leaves.adds

  -- what was left over is removed, and then the set is saved once more
  pub over_old : (files : FileMap) (set given : List SetFile) (held : Option (List SetFile)) (old mid new : D)
      → held ≡ Some set → given ≡ set
      → AddsOnly moment left_since old mid (StandsFor files held) → Rests files held (state mid)
      → (Rests files (Some given) (state mid) → AddsOnly moment left_since mid new (StandsFor files (Some given)))
      → AddsOnly moment left_since old new (StandsFor files (Some set))
  over_old files set given held old mid new held_is given_is removed rests saved =
      AddsOnly-then moment left_since old mid new (StandsFor files (Some set))
      (subst (λ held. AddsOnly moment left_since old mid (StandsFor files held)) held_is removed)
      (subst (λ given. AddsOnly moment left_since mid new (StandsFor files (Some given))) given_is
      (saved (subst (λ held. Rests files held (state mid)) (held_is ∙ ap Some (sym given_is)) rests)))
