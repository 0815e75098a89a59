use Rattle.std.proofs.Common.{◌∙◌, ◌+◌, length, sym, ap, subst}
use Rattle.cynara_keys.specs.parts.Packed.{key_in, IsPacked}
use Rattle.cynara_keys.proofs.Packing.{key_in-packed, IsPacked-texts}
use Rattle.cynara_keys.proofs.keys.Key.of_block.Goals as goal

pub invariant_of-result : goal.invariant_of-result
invariant_of-result c =
    let at_user = length c.args.client.now + 4 in
    let at_privilege = length c.args.client.now + 4 + length c.args.user.now + 2 in
    subst (λ block. IsPacked block at_user at_privilege) (sym c.requires.packed)
    (IsPacked-texts c.args.client.now c.args.user.now c.args.privilege.now c.requires.client c.requires.user c.requires.privilege)

pub returns : goal.returns
returns c =
    let at_user = length c.args.client.now + 4 in
    let at_privilege = length c.args.client.now + 4 + length c.args.user.now + 2 in
    ap (λ block. key_in block at_user at_privilege) c.requires.packed
    ∙ key_in-packed c.args.client.now c.args.user.now c.args.privilege.now
