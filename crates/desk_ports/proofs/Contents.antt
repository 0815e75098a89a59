-- What a name holds, call by call.
use Rattle.std.proofs.Common.{◌≡◌, ℕ, true, false, if◌then◌else◌, List, [], ◌∷◌, Some, find, cond, refl}
use Rattle.std.specs.Option.{option_map}
use Rattle.std.specs.Str.{bytes_eq}
use Rattle.desk_ports.specs.FileMap.{map_of}
use Rattle.desk_ports.specs.Disk.{DiskState}
use Rattle.desk_ports.specs.DiskCalls.{after_done, after_failed, after_call}
use Rattle.desk_ports.specs.DiskContent.{content_after, content_after_done}
use Rattle.desk_ports.specs.declared.file_sets.SetFile.{SetFile}
use Rattle.desk_ports.specs.declared.disk_calls.DiskCall.{DiskCall}
use Rattle.desk_ports.specs.declared.disk_calls.DiskCall.TheVariants.{Names, Read, Write, Remove, Sync}
use Rattle.desk_ports.specs.declared.disk_calls.RecordedCall.{RecordedCall}

current-after_done : (state : DiskState) (call : DiskCall) (name : List ℕ)
    → (after_done state call).current name ≡ content_after_done call name (state.current name)
current-after_done state Names name = refl
current-after_done state (Read read) name = refl
current-after_done state (Write file) name = refl
current-after_done state (Remove removed) name = refl
current-after_done state Sync name = refl

current-after_failed : (state : DiskState) (call : DiskCall) (name : List ℕ)
    → (after_failed state call).current name ≡ state.current name
current-after_failed state Names name = refl
current-after_failed state (Read read) name = refl
current-after_failed state (Write file) name = refl
current-after_failed state (Remove removed) name = refl
current-after_failed state Sync name = refl

-- what is read at a name after a call
pub current-after_call : (state : DiskState) (made : RecordedCall) (name : List ℕ)
    → (after_call state made).current name ≡ content_after made name (state.current name)
current-after_call state made name =
    elim made.is_done as (λ is. (if is then after_done state made.call else after_failed state made.call).current name
    ≡ (if is then content_after_done made.call name (state.current name) else state.current name)) [
      | true ↦ current-after_done state made.call name
      | false ↦ current-after_failed state made.call name
    ]

-- the content of the first file of a name is what the map of the files holds there
pub map_of-find : (files : List SetFile) (name : List ℕ)
    → option_map (λ file. file.bytes) (find (λ file. bytes_eq file.name name) files) ≡ map_of files name
map_of-find [] name = refl
map_of-find (file ∷ files) name =
    elim (bytes_eq file.name name) as (λ is. option_map (λ file. file.bytes) (cond is (Some file) (find (λ other. bytes_eq other.name name) files))
    ≡ cond is (Some file.bytes) (map_of files name)) [
      | true ↦ refl
      | false ↦ map_of-find files name
    ]
