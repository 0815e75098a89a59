use Rattle.std.proofs.Common.{◌≡◌, IfOk, rules, subst}
use Rattle.std.specs.List.{All, Contains}
use Rattle.app_registry.specs.Manifest.{grants}
use Rattle.app_registry.proofs.registry.Registry.manifest_rows.Goals as goal

pub returns-clause-granted : goal.returns-clause-granted
returns-clause-granted c =
    let is : c.as_slice.result.now ≡ c.args.self.now.installs = search rules in
    subst (λ installs. IfOk c.manifest_rows.result (λ rows. All (Contains (grants installs)) rows.items)) is
    c.manifest_rows.ensures.granted

pub returns-clause-all_there : goal.returns-clause-all_there
returns-clause-all_there c =
    let is : c.as_slice.result.now ≡ c.args.self.now.installs = search rules in
    subst (λ installs. IfOk c.manifest_rows.result (λ rows. All (Contains rows.items) (grants installs))) is
    c.manifest_rows.ensures.all_there
