-- The Smack rules that open shares give.
use Rattle.std.specs.Prelude.{ℕ, true, false, List, [], ◌∷◌, ◌++◌, Option, Some, None, codes}
use Rattle.std.specs.List.{flat_map}
use Rattle.smack_rules.specs.declared.modes.Modes.{Modes}
use Rattle.smack_rules.specs.declared.rule.Rule.{Rule}
use Rattle.smack_rules.specs.declared.rule.Rule.TheVariants.{Adjust}
use Rattle.app_registry.specs.Label.{package_label, label_of}
use Rattle.app_registry.specs.Registry.{RegistryLists, package_of}
use Rattle.private_sharing.specs.declared.shares.Share.{Share}

-- the label of what is shared under a name, by an application of the package
abbrev pub share_label : List ℕ → List ℕ → List ℕ
share_label «package» name = package_label «package» ++ (codes "::Share::" ++ name)

-- `rwxatl`
abbrev pub owner_modes : Modes
owner_modes = record {
  read = true;
  write = true;
  execute = true;
  append = true;
  transmute = true;
  lock = true;
  bring_up = false;
}

-- `rxl`
abbrev pub target_modes : Modes
target_modes = record {
  read = true;
  write = false;
  execute = true;
  append = false;
  transmute = false;
  lock = true;
  bring_up = false;
}

abbrev pub no_modes : Modes
no_modes = record {
  read = false;
  write = false;
  execute = false;
  append = false;
  transmute = false;
  lock = false;
  bring_up = false;
}

-- a rule that gives modes and takes nothing away
abbrev pub giving : List ℕ → List ℕ → Modes → Rule
giving subject object modes = Adjust subject object modes no_modes

-- what a share gives to these two labels, under the owner's package; nothing where one of the two is not installed
abbrev pub given : List ℕ → Option (List ℕ) → Option (List ℕ) → Option (List ℕ) → List Rule
given name (Some «package») (Some own) (Some other) =
    giving own (share_label «package» name) owner_modes ∷ giving other (share_label «package» name) target_modes ∷ []
given name «package» own other = []

abbrev pub share_rules : RegistryLists → Share → List Rule
share_rules registry share =
    given share.name (package_of registry share.owner) (label_of registry share.owner) (label_of registry share.target)

-- the rules of all shares, in their order
abbrev pub rules : RegistryLists → List Share → List Rule
rules registry shares = flat_map (share_rules registry) shares
