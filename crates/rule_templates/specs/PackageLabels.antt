-- The labels of a package beside its own, in the words of security-manager; `User::Author::` is this project's profile.
use Rattle.std.specs.Prelude.{ℕ, List, ◌++◌, codes}
use Rattle.app_registry.specs.Label.{package_label}

-- the label of the files that the package of this name may only read
abbrev pub read_only_label : List ℕ → List ℕ
read_only_label name = package_label name ++ codes "::RO"

-- the label of the files that all packages of the author of this name share
abbrev pub author_label : List ℕ → List ℕ
author_label name = codes "User::Author::" ++ name
