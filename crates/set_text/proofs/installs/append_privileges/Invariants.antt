use Rattle.std.proofs.Common.{◌≡◌, ◌++◌, ◌∷◌, true, take}
use Rattle.std.specs.List.{AllByRecursion, flat_map}
use Rattle.cynara_keys.specs.Name.{is_name}
use Rattle.set_text.proofs.installs.append_privileges.Given as goal

-- the privileges so far
abbrev pub invariant-loop-privilege : goal.invariant-loop-privilege
invariant-loop-privilege l = record {
  text : l.text.items ≡ l.initial.text.items ++ flat_map (λ name. 59 ∷ name) (take l.privilege-index l.privileges);
  spelt : AllByRecursion (λ name. is_name name ≡ true) (take l.privilege-index l.privileges);
}
