-- Where the folder stands.
use Rattle.std.specs.Prelude.{ℕ, List, [], ◌∷◌, ◌++◌, Option, Some, None, codes}

-- the folder `store` in this directory, or in the working directory where none is named
abbrev pub folder_in : List ℕ → List ℕ
folder_in [] = codes "store"
folder_in (byte ∷ bytes) = (byte ∷ bytes) ++ codes "/store"

-- that folder, or the empty text where there is no directory
abbrev pub folder_of : Option (List ℕ) → List ℕ
folder_of None = []
folder_of (Some directory) = folder_in directory
