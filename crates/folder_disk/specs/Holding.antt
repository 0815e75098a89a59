-- The folder that a disk holds open and locked.
use Rattle.std.specs.Prelude.{◌≡◌, Option, is_some, true}

-- nothing in the folder is asked for before it is held
abbrev pub IsHeld : {T : Type 0} → Option T → Type 0
IsHeld held = is_some held ≡ true
