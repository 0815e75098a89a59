-- The files of a map, as a list in order of name.
use Rattle.std.proofs.Common.{◌≡◌, ℕ, List, [], ◌∷◌, map, Some, cond, refl, sym, ◌∙◌, ap, subst}
use Rattle.std.specs.Map.{lookup, keys_of}
use Rattle.std.specs.BTreeMap.{is_at}
use Rattle.std.specs.Ordering.{nat_cmp}
use Rattle.std.specs.Cmp.Lexicographic.{slice_cmp}
use Rattle.std.specs.Str.{bytes_eq}
use Rattle.std.proofs.lemmas.Cmp.{nat_list_eq_equiv}
use Rattle.std.proofs.lemmas.Map.Text.{is_eq-slice_cmp}
use Rattle.desk_ports.specs.FileMap.{NamesRise, names_of, map_of}
use Rattle.desk_ports.specs.declared.file_sets.SetFile.{SetFile}

abbrev pub file_of : List ℕ × List ℕ → SetFile
file_of entry = record { name = entry.0; bytes = entry.1 }

pub names_of-entries : (entries : List (List ℕ × List ℕ)) → names_of (map file_of entries) ≡ keys_of entries
names_of-entries [] = refl
names_of-entries (entry ∷ entries) = ap (λ names. entry.0 ∷ names) (names_of-entries entries)

pub map_of-entries : (entries : List (List ℕ × List ℕ)) (name : List ℕ)
    → map_of (map file_of entries) name ≡ lookup (is_at (slice_cmp nat_cmp name)) entries
map_of-entries [] name = refl
map_of-entries (entry ∷ entries) name =
    ap (λ other. cond (bytes_eq entry.0 name) (Some entry.1) other) (map_of-entries entries name)
    ∙ ap (λ is. cond is (Some entry.1) (lookup (is_at (slice_cmp nat_cmp name)) entries))
    (nat_list_eq_equiv.symm entry.0 name ∙ sym (is_eq-slice_cmp name entry.0))

-- the names of the list rise
pub rising-entries : (entries : List (List ℕ × List ℕ)) (files : List SetFile) → files ≡ map file_of entries → NamesRise (keys_of entries)
    → NamesRise (names_of files)
rising-entries entries files is ordered = subst NamesRise (sym (ap names_of is ∙ names_of-entries entries)) ordered
