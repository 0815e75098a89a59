-- A policy state as an administrator is told it: its files, each in parts, and its commit.
use Rattle.std.specs.Prelude.{◌≡◌, ◌⊎◌, ◌<◌, ◌≤◌, ℕ, List, [], ◌∷◌, ◌++◌, length, map}
use Rattle.std.specs.List.{AllByRecursion, flat_map}
use Rattle.desk_ports.specs.declared.file_sets.SetFile.{SetFile}
use Rattle.desk_state.specs.DeskState.{DeskState}
use Rattle.set_text.specs.Files.{files}
use Rattle.wire_fields.specs.declared.messages.Message.{Message}
use Rattle.wire_fields.specs.declared.messages.Message.TheVariants.{StateFile, StateEnd}

-- some bytes, and at most 65,536
abbrev pub IsPart : List ℕ → Type 0
IsPart part = (0 < length part) × (length part ≤ 65536)

-- Parts that make these bytes, one behind the other.
abbrev pub AreParts : List ℕ → List (List ℕ) → Type 0
AreParts bytes parts = (flat_map (λ part. part) parts ≡ bytes) × AllByRecursion IsPart parts

-- the parts of a file: a file without bytes has one without bytes
abbrev pub ArePartsOf : List ℕ → List (List ℕ) → Type 0
ArePartsOf bytes parts = ((bytes ≡ []) × (parts ≡ [] ∷ [])) ⊎ ((0 < length bytes) × AreParts bytes parts)

-- These messages are the files in their order, the parts of each one behind the other.
abbrev pub AreFiles : List SetFile → List Message → Type 0
AreFiles [] messages = messages ≡ []
AreFiles (file ∷ more) messages = (parts : List (List ℕ)) × (others : List Message)
    × (messages ≡ map (StateFile file.name) parts ++ others) × ArePartsOf file.bytes parts × AreFiles more others

-- all files of the state, in the order of their names, and then its commit
abbrev pub AreState : DeskState → List Message → Type 0
AreState desk replies =
    (messages : List Message) × AreFiles (files desk) messages × (replies ≡ messages ++ StateEnd desk.commit ∷ [])
