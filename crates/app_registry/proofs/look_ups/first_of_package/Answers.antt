use Rattle.std.proofs.Common.{◌≡◌, ◌<◌, ◌≤◌, true, false, get_or, length, rules, arith, sym}
use Rattle.app_registry.specs.Install.{is_of_package}
use Rattle.app_registry.proofs.Search.{find-at, find-not_at, find-nowhere}
use Rattle.app_registry.proofs.look_ups.first_of_package.Goals as goal

pub returns-in_default : goal.returns-in_default
returns-in_default c =
    let place = c.place_of_package-at.ensures in
    let past : length c.args.installs.now ≤ c.place_of_package-at.result = search rules in
    sym (find-nowhere c.args.package.now c.args.installs.now c.requires c.place_of_package-at.result place.in_range place.parted
    (λ d lt. absurd (omega arith)))

pub returns-then-eq : goal.returns-then-eq
returns-then-eq c =
    let within : c.place_of_package-at.result < length c.args.installs.now = search rules in
    let is : c.in-Some.install.now ≡ get_or c.args.installs.now c.place_of_package-at.result c.in-Some.install.now =
    search rules in
    let own : is_of_package c.args.package.now c.in-Some.install.now ≡ true = search rules in
    sym (find-at c.args.package.now c.args.installs.now c.requires c.place_of_package-at.result c.in-Some.install.now within
    c.place_of_package-at.ensures.parted is own)

pub returns-else-eq : goal.returns-else-eq
returns-else-eq c =
    let within : c.place_of_package-at.result < length c.args.installs.now = search rules in
    let is : c.in-Some.install.now ≡ get_or c.args.installs.now c.place_of_package-at.result c.in-Some.install.now =
    search rules in
    let other : is_of_package c.args.package.now c.in-Some.install.now ≡ false = search rules in
    sym (find-not_at c.args.package.now c.args.installs.now c.requires c.place_of_package-at.result c.in-Some.install.now within
    c.place_of_package-at.ensures.parted is other)
