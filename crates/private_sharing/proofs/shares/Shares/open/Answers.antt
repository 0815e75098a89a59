use Rattle.std.proofs.Common.{◌≡◌, ◌≤◌, length, subst, rules, arith}
use Rattle.private_sharing.specs.Shares.{opened}
use Rattle.private_sharing.proofs.Sound.{IsShares-same, IsShares-opened}
use Rattle.private_sharing.proofs.shares.Shares.open.Goals as goal

pub invariant_of-result : goal.invariant_of-result
invariant_of-result c =
    let owner = c.args.owner.now in
    let target = c.args.target.now in
    let name = c.args.name.now in
    let shares = c.args.self.now in
    let is : c.in-Ok.items.items ≡ opened owner target name shares = search rules in
    let few : length c.in-Ok.items.items ≤ 4096 = omega (arith, c.if-len-gt-MOST_SHARES.false, c.len.ensures) in
    IsShares-same (IsShares-opened owner target name shares c.as_slice-shares.ensures.sound (subst (λ list. length list ≤ 4096) is few)) is
