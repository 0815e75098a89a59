use Rattle.std.proofs.Common.{◌≡◌, ◌^◌, ◌<◌, None, decimal, sym, ◌∙◌, subst, arith}
use Rattle.cynara_keys.specs.Name.{name_fault}
use Rattle.app_registry.proofs.Texts.{name_fault-decimal}
use Rattle.app_registry.proofs.labels.user_name.Goals as goal

pub known_name-requires : goal.known_name-requires
known_name-requires c =
    let is : c.as_bytes.result.now ≡ decimal c.args.uid = c.as_bytes.ensures.value ∙ c.format.ensures.text in
    let small : c.args.uid < 2 ^ 64 = omega arith in
    subst (λ text. name_fault text ≡ None) (sym is) (name_fault-decimal c.args.uid small)
