-- What a single name holds from call to call.
use Rattle.std.specs.Prelude.{ℕ, if◌then◌else◌, List, Option, Some, None}
use Rattle.std.specs.Str.{bytes_eq}
use Rattle.desk_ports.specs.declared.disk_calls.DiskCall.{DiskCall}
use Rattle.desk_ports.specs.declared.disk_calls.DiskCall.TheVariants.{Names, Read, Write, Remove, Sync}
use Rattle.desk_ports.specs.declared.disk_calls.RecordedCall.{RecordedCall}

-- what the name holds after a call that was done
abbrev pub content_after_done : DiskCall → List ℕ → Option (List ℕ) → Option (List ℕ)
content_after_done Names name content = content
content_after_done (Read read) name content = content
content_after_done (Write file) name content = if bytes_eq file.name name then Some file.bytes else content
content_after_done (Remove removed) name content = if bytes_eq removed name then None else content
content_after_done Sync name content = content

-- what it holds after a call: one that failed changes nothing
abbrev pub content_after : RecordedCall → List ℕ → Option (List ℕ) → Option (List ℕ)
content_after made name content = if made.is_done then content_after_done made.call name content else content
