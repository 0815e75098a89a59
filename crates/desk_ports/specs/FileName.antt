-- Names of files in a folder that this product keeps.
use Rattle.std.specs.Prelude.{◌≡◌, ℕ, Bool, not, ◌&&◌, ◌||◌, nat_lt, nat_le}
use Rattle.std.specs.Prelude.{◌==◌, if◌then◌else◌, List, length, Option, Some, None}
use Rattle.std.specs.List.{position}
use Rattle.desk_ports.specs.declared.file_names.FileNameRefusal.{FileNameRefusal}
use Rattle.desk_ports.specs.declared.file_names.FileNameRefusal.TheVariants.{Empty, TooLong, BadByte, Memory}

-- a letter, a digit, a dot, an underscore, a dash or a tilde
abbrev pub is_file_name_byte : ℕ → Bool
is_file_name_byte byte =
    ((nat_le 97 byte && nat_le byte 122) || (nat_le 65 byte && nat_le byte 90))
    || ((nat_le 48 byte && nat_le byte 57) || ((byte == 46 || byte == 95) || (byte == 45 || byte == 126)))

-- the fault of the byte at the place, where there is one
abbrev pub bad_byte_at : Option ℕ → Option FileNameRefusal
bad_byte_at (Some at) = Some (BadByte at)
bad_byte_at None = None

-- the first rule of a file name that the bytes break
abbrev pub file_name_fault : List ℕ → Option FileNameRefusal
file_name_fault bytes =
    if length bytes == 0 then Some Empty
    else (if nat_lt 255 (length bytes) then Some TooLong
    else bad_byte_at (position (λ byte. not (is_file_name_byte byte)) bytes))

-- the bytes are a file name
abbrev pub IsFileName : List ℕ → Type 0
IsFileName bytes = file_name_fault bytes ≡ None

-- The refusal names the fault. Want of memory says nothing of the bytes.
abbrev pub RefusesName : FileNameRefusal → Option FileNameRefusal → Type 0
RefusesName (Memory error) fault = Unit {0}
RefusesName refusal fault = fault ≡ Some refusal
