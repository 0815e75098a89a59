-- A mount: the primaries are renewed where the guard stood, and what is left over is removed. Whatever a stop leaves
-- recovers as what was read.
use Rattle.std.proofs.Common.{◌≡◌, ◌⊎◌, ℕ, Bool, true, false, List, [], ◌∷◌, filter, get_or, Option, Some, None, IsSome, Ok, cond, inl, inr, refl, sym, ◌∙◌, ap, subst}
use Rattle.std.proofs.lemmas.Bool.{and_parts, both_ways, not-true}
use Rattle.std.proofs.lemmas.List.Recursion.{or_at}
use Rattle.std.specs.List.{AllByRecursion}
use Rattle.std.specs.Str.{bytes_eq}
use Rattle.desk_ports.specs.declared.file_sets.SetFile.{SetFile}
use Rattle.desk_ports.specs.FileMap.{FileMap, AreNamesOf}
use Rattle.desk_ports.specs.Disk.{DiskState, MayLeave, with_all_durable}
use Rattle.guard_files.specs.OwnName.{guard_name, primary_name}
use Rattle.guard_files.specs.Recovery.{primary_set, recover, names_at, protected}
use Rattle.guard_files.specs.Holding.{is_among, own_names, OwnNamesAre}
use Rattle.guard_files.specs.Settled.{IsSettled}
use Rattle.guard_files.specs.Mounted.{goes}
use Rattle.guard_files.specs.parts.Changes.{after, removals}
use Rattle.guard_files.proofs.Names.{same-same}
use Rattle.guard_files.proofs.Rows.{touched_only-after}
use Rattle.guard_files.proofs.Alike.{primaries_alike}
use Rattle.guard_files.proofs.Stages.{IsPlain, Apart, PrimariesStand, left_as_durable, agree_as_durable, recover-unguarded, all_untouched}
use Rattle.guard_files.proofs.Primaries.{durable_only}

-- a name that a folder has is among its names
pub among-listed : (files : FileMap) (names : List (List ℕ)) (name : List ℕ) → AreNamesOf files names
    → IsSome (files name) → is_among names name ≡ true
among-listed files names name are there =
    let place = (are name).1 there in
    or_at (λ (names : List (List ℕ)). is_among names name) (λ other. bytes_eq other name) refl (λ _ _. refl) names place.0 name place.1
    (same-same (get_or names place.0 name) name place.2)

-- so a name has no file, or is among them
pub none_or_listed : (files : FileMap) (names : List (List ℕ)) (name : List ℕ) → AreNamesOf files names
    → (files name ≡ None) ⊎ (is_among names name ≡ true)
none_or_listed files names name are = at_file (files name) refl
  where
    at_file : (found : Option (List ℕ)) → files name ≡ found → (files name ≡ None) ⊎ (is_among names name ≡ true)
    at_file None is = inl is
    at_file (Some bytes) is = inr (among-listed files names name are (subst IsSome (sym is) refl))

-- what a filter lets through
pub all_filtered : (test : List ℕ → Bool) (P : List ℕ → Type 0) (names : List (List ℕ))
    → ((name : List ℕ) → test name ≡ true → P name)
    → AllByRecursion P (filter test names)
all_filtered test P [] gives = tt
all_filtered test P (name ∷ names) gives = at_name (test name) refl (all_filtered test P names gives)
  where
    at_name : (passes : Bool) → test name ≡ passes → AllByRecursion P (filter test names)
        → AllByRecursion P (cond passes (name ∷ filter test names) (filter test names))
    at_name true is rest = (gives name is, rest)
    at_name false is rest = rest

-- a name that fails the test is apart from the removals of those that pass it
pub filtered_apart : (test : List ℕ → Bool) (names : List (List ℕ)) (name : List ℕ) → test name ≡ false
    → Apart (removals (filter test names)) name
filtered_apart test [] name fails = tt
filtered_apart test (first ∷ names) name fails = at_first (test first) refl (filtered_apart test names name fails)
  where
    at_first : (passes : Bool) → test first ≡ passes → Apart (removals (filter test names)) name
        → Apart (removals (cond passes (first ∷ filter test names) (filter test names))) name
    at_first true is rest = ((λ same. both_ways (test name) fails (ap test (sym same) ∙ is)), rest)
    at_first false is rest = rest

-- removals, where all was durable and the primaries count: they leave what these rest on
module _ (state : DiskState) (held : Option (List SetFile)) (extra : List (List ℕ)) (stands : PrimariesStand (with_all_durable state))
    (reads : primary_set state.current ≡ Ok held) (guard_apart : Apart (removals extra) guard_name)
    (apart : AllByRecursion (Apart (removals extra)) (names_at primary_name state.current)) where
  abbrev pub tidied : DiskState
  tidied = after (removals extra) (with_all_durable state)

  pub left_while_tidied : (left : FileMap) → MayLeave tidied left → recover left ≡ Ok held
  left_while_tidied left leaves =
      let unguarded = left_as_durable (removals extra) (with_all_durable state) left guard_name guard_apart refl leaves ∙ stands.unguarded in
      let same = primaries_alike state.current left
      (agree_as_durable (removals extra) (with_all_durable state) left (names_at primary_name state.current) apart
      (all_untouched (names_at primary_name state.current)) leaves) in
      recover-unguarded left unguarded ∙ same ∙ reads

  pub tidied_leaves : MayLeave tidied tidied.current
  tidied_leaves = touched_only-after (removals extra) (with_all_durable state) (durable_only state)

  pub tidied_unguarded : tidied.current guard_name ≡ None
  tidied_unguarded = left_as_durable (removals extra) (with_all_durable state) tidied.current guard_name guard_apart refl tidied_leaves ∙ stands.unguarded

  untouched : (names : List (List ℕ)) → AllByRecursion (λ name. (with_all_durable tidied).touched name ≡ false) names
  untouched [] = tt
  untouched (name ∷ names) = (refl, untouched names)

  pub tidied_settled : OwnNamesAre (own_names held) tidied.current → IsSettled held (with_all_durable tidied)
  tidied_settled own = record {
    recovers = left_while_tidied tidied.current tidied_leaves;
    unguarded = tidied_unguarded;
    untouched = untouched (protected tidied.current);
    own = own;
  }

-- the tests tell what they say
pub goes_plain : (held : Option (List SetFile)) (name : List ℕ) → goes held name ≡ true → IsPlain name
goes_plain held name is =
    let both = and_parts _ _ is in
    let kind = and_parts _ _ both.0 in
    record {
      plain = not-true _ kind.0;
      not_guard = λ same. both_ways (bytes_eq name guard_name) (not-true _ kind.1) (same-same name guard_name same);
    }
