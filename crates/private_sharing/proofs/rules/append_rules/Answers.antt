use Rattle.std.proofs.Common.{◌≡◌, ◌++◌, ◌∷◌, [], Some, sym, ◌∙◌, append_assoc, rules}
use Rattle.app_registry.specs.Label.{label_of}
use Rattle.app_registry.specs.Registry.{package_of}
use Rattle.private_sharing.specs.Rules.{share_label, owner_modes, target_modes, giving, given}
use Rattle.private_sharing.proofs.rules.append_rules.Goals as goal

pub returns : goal.returns
returns c =
    let old = c.args.rules.now.items in
    let registry = c.args.registry.now in
    let share = c.args.share.now in
    let place = share_label c.in-Some.package.now share.name in
    let own = c.in-Some-2.own in
    let other = c.in-Some-3.other in
    let named : package_of registry share.owner ≡ Some c.in-Some.package.now = search rules in
    let own_is : label_of registry share.owner ≡ Some own = search rules in
    let other_is : label_of registry share.target ≡ Some other = search rules in
    let owned : c.in_ok-owned.owned ≡ place = search rules in
    let shared : c.in_ok-shared.shared ≡ place = search rules in
    let one : c.push_giving.new.rules.items ≡ old ++ giving own c.in_ok-owned.owned owner_modes ∷ [] = search rules in
    let two : c.push_giving-2.new.rules.items
    ≡ c.push_giving.new.rules.items ++ giving other c.in_ok-shared.shared target_modes ∷ [] =
    search rules in
    two
    ∙ (λ i. one i ++ giving other (shared i) target_modes ∷ [])
    ∙ append_assoc old (giving own c.in_ok-owned.owned owner_modes ∷ []) (giving other place target_modes ∷ [])
    ∙ (λ i. old ++ giving own (owned i) owner_modes ∷ giving other place target_modes ∷ [])
    ∙ sym (λ i. old ++ given share.name (named i) (own_is i) (other_is i))
