use Rattle.std.proofs.Common.{◌≡◌, ◌+◌, ◌++◌, ◌∷◌, [], length, sym, ◌∙◌}
use Rattle.app_registry.specs.Registry.{packages, grant_count}
use Rattle.set_text.proofs.ReadingCounts.{packages-count, grants-count}
use Rattle.set_text.proofs.registries.Counts.with.Goals as goal

pub returns : goal.returns
returns c =
    let before = c.args.before.now in
    let install = c.args.install.now in
    let counted = c.requires.counted in
    let all_packages : c.args.self.packages + c.new_package.result ≡ length (packages (before ++ install ∷ [])) =
    (λ i. (counted i).packages + c.new_package.ensures.count i) ∙ sym (packages-count before install) in
    let all_grants : c.args.self.grants + length c.as_slice.result.now ≡ grant_count (before ++ install ∷ []) =
    (λ i. (counted i).grants + length (c.as_slice.ensures.names i)) ∙ sym (grants-count before install) in
    λ i. record { packages = all_packages i; grants = all_grants i }
