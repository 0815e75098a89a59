-- What the tests of names tell.
use Rattle.std.proofs.Common.{◌≡◌, ◌≢◌, ℕ, true, false, not, List, [], ◌∷◌, inl, inr, ◌⊎◌, refl, sym, ◌∙◌, ap, arith, length-append}
use Rattle.std.proofs.lemmas.Bool.{and_parts, not-true, both_ways, cases_Bool}
use Rattle.std.specs.List.{list_all}
use Rattle.std.proofs.lemmas.List.{take_at}
use Rattle.std.proofs.lemmas.Slice.Eq.{ends_is}
use Rattle.std.proofs.lemmas.Bool.Decides.{Decides-eqb}
use lib.Pointwise.{bytes_decides}
use Rattle.std.specs.Str.{bytes_eq}
use Rattle.desk_ports.specs.FileName.{is_file_name_byte}
use Rattle.guard_files.specs.OwnName.{guard_name, list_name, backup_name, is_backup, front, is_own, is_listable}

pub same-true : (xs ys : List ℕ) → bytes_eq xs ys ≡ true → xs ≡ ys
same-true xs ys = (bytes_decides xs ys).0

pub same-same : (xs ys : List ℕ) → xs ≡ ys → bytes_eq xs ys ≡ true
same-same xs ys = (bytes_decides xs ys).1

pub same-other : (xs ys : List ℕ) → xs ≢ ys → bytes_eq xs ys ≡ false
same-other xs ys other = elim (cases_Bool (bytes_eq xs ys)) [
  | inl same ↦ absurd (other (same-true xs ys same))
  | inr apart ↦ apart
]

pub names_cases : (xs ys : List ℕ) → (xs ≡ ys) ⊎ (xs ≢ ys)
names_cases xs ys = elim (cases_Bool (bytes_eq xs ys)) [
  | inl same ↦ inl (same-true xs ys same)
  | inr apart ↦ inr (λ same. both_ways (bytes_eq xs ys) apart (same-same xs ys same))
]

-- a backup's name ends with `~`, and tells whose it is
pub is_backup-backup : (name : List ℕ) → is_backup (backup_name name) ≡ true
unfolding is_backup
is_backup-backup name = (ends_is Decides-eqb (backup_name name) (126 ∷ []) _ refl).1 name refl

pub front-backup : (name : List ℕ) → front (backup_name name) ≡ name
front-backup name = take_at name (126 ∷ []) _ (omega (arith, length-append name (126 ∷ [])))

pub backup-same : (name other : List ℕ) → backup_name name ≡ backup_name other → name ≡ other
backup-same name other same = sym (front-backup name) ∙ ap front same ∙ front-backup other

-- what a listable name is
pub record Listable (name : List ℕ) : Type 0 where
  pub bytes : list_all is_file_name_byte name ≡ true
  pub not_guard : name ≢ guard_name
  pub not_list : name ≢ list_name
  pub plain : is_backup name ≡ false
  pub own : is_own name ≡ true

apart : (xs ys : List ℕ) → not (bytes_eq xs ys) ≡ true → xs ≢ ys
apart xs ys differ same = both_ways (bytes_eq xs ys) (not-true _ differ) (same-same xs ys same)

pub listable : (name : List ℕ) → is_listable name ≡ true → Listable name
unfolding is_listable
listable name is =
    let both = and_parts _ _ is in
    let formed = and_parts _ _ both.0 in
    let rest = and_parts _ _ both.1 in
    let differs = and_parts _ _ rest.0 in
    let last = and_parts _ _ rest.1 in
    record {
      bytes = formed.1;
      not_guard = apart name guard_name differs.0;
      not_list = apart name list_name differs.1;
      plain = not-true _ last.0;
      own = last.1;
    }
