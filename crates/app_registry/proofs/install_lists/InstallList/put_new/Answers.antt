use Rattle.std.proofs.Common.{rules, ◌≡◌, ◌+◌, ◌≤◌, ℕ, length, refl, subst, sym, ap, ◌∙◌, arith}
use Rattle.app_registry.specs.Install.{install_cmp}
use Rattle.app_registry.specs.Registry.{grant_count}
use Rattle.app_registry.specs.Rising.{placed}
use Rattle.app_registry.specs.Limits.{most_grants}
use Rattle.app_registry.specs.parts.Indexed.{IsIndexed}
use Rattle.app_registry.proofs.Indexing.{indexed-noted, indexed-put}
use Rattle.app_registry.proofs.install_lists.InstallList.put_new.Goals as goal

pub invariant_of-self-2 : goal.invariant_of-self-2
invariant_of-self-2 c =
    let index = c.in-Some.index in
    let installs = c.self.inside.installs.items in
    let install = c.args.install.now in
    let apps = c.note.new.apps.items in
    let there : IsIndexed index.apps.items index.granted installs = search rules in
    let noted = c.if-not-note.ensures in
    let put = c.if-not-put.ensures in
    let size : length c.as_slice-more.result.now ≡ length install.privileges = ap length c.as_slice-more.ensures.names in
    let few = there.few in
    let less = c.if-more-granted.false in
    let room : index.granted + length install.privileges ≤ most_grants = omega (arith, size, few, less) in
    let counts : grant_count (placed install_cmp install installs) ≡ grant_count installs + length install.privileges =
    ap grant_count (sym (put.put refl)) ∙ put.granted refl in
    let is : IsIndexed apps (index.granted + length install.privileges) (placed install_cmp install installs) =
    indexed-put apps index.granted installs install
    (indexed-noted index.apps.items apps index.granted installs there noted.rise noted.stay) (noted.noted refl) room counts in
    subst (λ (list : _). IsIndexed apps (index.granted + length c.as_slice-more.result.now) list) (sym (put.put refl))
    (subst (λ (n : ℕ). IsIndexed apps (index.granted + n) (placed install_cmp install installs)) (sym size) is)
