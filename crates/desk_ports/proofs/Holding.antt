-- Which names have a file, call by call.
use Rattle.std.proofs.Common.{◌≡◌, ℕ, Bool, true, false, if◌then◌else◌, List, [], ◌∷◌, ◌++◌, Option, Some, None, is_some, refl, sym, ◌∙◌}
use Rattle.std.specs.List.{list_any}
use Rattle.std.specs.Ordering.{nat_cmp, eq_by_cmp}
use Rattle.std.specs.Cmp.Lexicographic.{slice_cmp}
use Rattle.std.specs.Str.{bytes_eq}
use Rattle.std.proofs.lemmas.Cmp.{eq_by_cmp_equiv, nat_list_cmp_total}
use Rattle.std.proofs.lemmas.Map.Views.{Contains-from_any, list_any-from_Contains}
use Rattle.desk_ports.specs.FileMap.{FileMap, AreNamesOf, map_of}
use Rattle.desk_ports.specs.DiskContent.{content_after, content_after_done}
use Rattle.desk_ports.specs.parts.NamesHeld.{is_held_after, is_held_after_done}
use Rattle.desk_ports.proofs.SameNames.{same_name}
use Rattle.desk_ports.specs.declared.file_sets.SetFile.{SetFile}
use Rattle.desk_ports.specs.declared.disk_calls.DiskCall.{DiskCall}
use Rattle.desk_ports.specs.declared.disk_calls.DiskCall.TheVariants.{Names, Read, Write, Remove, Sync}
use Rattle.desk_ports.specs.declared.disk_calls.RecordedCall.{RecordedCall}

-- a choice of contents is there where the chosen one is
is_some-choice : (first : Bool) (content other : Option (List ℕ)) → is_some (if first then content else other) ≡ (if first then is_some content else is_some other)
is_some-choice true content other = refl
is_some-choice false content other = refl

is_some-after_done : (call : DiskCall) (name : List ℕ) (content : Option (List ℕ))
    → is_some (content_after_done call name content) ≡ is_held_after_done call name (is_some content)
is_some-after_done Names name content = refl
is_some-after_done (Read read) name content = refl
is_some-after_done (Write file) name content = is_some-choice (bytes_eq file.name name) (Some file.bytes) content
is_some-after_done (Remove removed) name content = is_some-choice (bytes_eq removed name) None content
is_some-after_done Sync name content = refl

-- whether a name has a file after a call
pub is_some-content_after : (made : RecordedCall) (name : List ℕ) (content : Option (List ℕ))
    → is_some (content_after made name content) ≡ is_held_after made name (is_some content)
is_some-content_after made name content =
    elim made.is_done as (λ is. is_some (if is then content_after_done made.call name content else content)
    ≡ (if is then is_held_after_done made.call name (is_some content) else is_some content)) [
      | true ↦ is_some-after_done made.call name content
      | false ↦ refl
    ]

always : (first : Bool) → true ≡ (if first then true else true)
always true = refl
always false = refl

-- one file more
pub is_some-map_of-push : (files : List SetFile) (file : SetFile) (name : List ℕ)
    → is_some (map_of (files ++ file ∷ []) name) ≡ (if bytes_eq file.name name then true else is_some (map_of files name))
is_some-map_of-push [] file name = is_some-choice (bytes_eq file.name name) (Some file.bytes) None
is_some-map_of-push (first ∷ files) file name =
    elim (bytes_eq first.name name) as (λ is. is_some (if is then Some first.bytes else map_of (files ++ file ∷ []) name)
    ≡ (if bytes_eq file.name name then true else is_some (if is then Some first.bytes else map_of files name))) [
      | true ↦ always (bytes_eq file.name name)
      | false ↦ is_some-map_of-push files file name
    ]

-- a list that a test finds the held names in has those names
pub AreNamesOf-held : (files : FileMap) (names : List (List ℕ))
    → ((name : List ℕ) → list_any (eq_by_cmp (slice_cmp nat_cmp) name) names ≡ is_some (files name)) → AreNamesOf files names
AreNamesOf-held files names held name = (
  (λ has. sym (held name) ∙ list_any-from_Contains (eq_by_cmp_equiv nat_list_cmp_total) name names has),
  (λ is. Contains-from_any same_name name names (held name ∙ is)),
)
