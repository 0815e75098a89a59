use Rattle.std.proofs.Common.{◌≡◌, ◌+◌, ◌≤◌, ℕ, take, drop, length, refl, subst, sym, ap, arith}
use Rattle.app_registry.specs.Registry.{grant_count}
use Rattle.app_registry.specs.Limits.{most_grants}
use Rattle.app_registry.specs.parts.Indexed.{IsIndexed}
use Rattle.app_registry.proofs.Indexing.{indexed-none, indexed-more, grants-left}
use Rattle.app_registry.proofs.install_lists.index_of.Goals as goal

pub loop-install-init : goal.loop-install-init
loop-install-init c = (rw c.new-apps.ensures.items indexed-none, omega arith)

pub loop-install-preserved : goal.loop-install-preserved
loop-install-preserved c =
    let installs = c.args.installs.now in
    let i = c.loop-install.install-index in
    let install = c.install-item.result in
    let within = c.loop-install-test.true in
    let noted = c.if-not-note.ensures in
    let size : length c.as_slice.result.now ≡ length install.privileges = ap length c.as_slice.ensures.names in
    let rest : grant_count (drop i installs) ≡ length install.privileges + grant_count (drop (i + 1) installs) = grants-left installs i install within c.install-item.is in
    let left = c.loop-install.invariant.1 in
    let most = c.requires in
    let room : c.loop-install.granted + length install.privileges ≤ most_grants = omega (arith, rest, left, most) in (
      subst (λ (n : ℕ). IsIndexed c.note.new.apps.items (c.loop-install.granted + n) (take (i + 1) installs)) (sym size)
          (indexed-more c.loop-install.apps.items c.note.new.apps.items c.loop-install.granted installs i install within
          c.install-item.is c.loop-install.invariant.0 noted.rise (noted.noted refl) noted.stay room),
      omega (arith, rest, left, size),
    )
