use Rattle.std.proofs.Common.{rules}
use Rattle.std.proofs.lemmas.Cmp.{nat_list_cmp_total}
use Rattle.std.proofs.lemmas.Fn.{always_returns_same}
use Rattle.cynara_keys.specs.Text.{text_cmp}
use Rattle.app_registry.proofs.Rising.{searched-has}
use Rattle.app_registry.proofs.install_lists.place_of_app.Goals as goal

-- the closure compares an application with this one
pub returns-clause-place : goal.returns-clause-place
returns-clause-place c =
    let facts = c.binary_search_by.ensures in
    let by_name = facts.position (λ other. text_cmp other c.args.app.now) (always_returns_same _ _ _ (λ a r f called. search rules)) in
    searched-has nat_list_cmp_total c.args.app.now c.args.apps.now c.requires c.binary_search_by.result facts.bound by_name
