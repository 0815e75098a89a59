-- The packages of installs, from one on.
use Rattle.std.specs.Prelude.{ℕ, List, [], ◌∷◌, if◌then◌else◌}
use Rattle.cynara_keys.specs.Text.{same_text}
use Rattle.app_registry.specs.declared.installs.Install.{Install}

-- the packages of the installs, in order, each once where its installs stand together, but the one before where it goes
-- on
abbrev pub later_packages : List ℕ → List Install → List (List ℕ)
later_packages last [] = []
later_packages last (install ∷ installs) =
    if same_text install.package last then later_packages last installs
    else install.package ∷ later_packages install.package installs
