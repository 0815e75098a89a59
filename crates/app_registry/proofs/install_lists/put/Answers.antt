use Rattle.std.proofs.Common.{◌≡◌, ◌++◌, ◌∷◌, not, filter, take, drop, rules, ap, ◌∙◌}
use Rattle.app_registry.specs.Install.{is_install_of}
use Rattle.app_registry.proofs.Undoing.{taken-back}
use Rattle.app_registry.proofs.install_lists.put.Goals as goal

pub returns-then-len-le-INSTALL_LIMIT-clause-taken_back : goal.returns-then-len-le-INSTALL_LIMIT-clause-taken_back
returns-then-len-le-INSTALL_LIMIT-clause-taken_back c true-is none =
    let installs = c.args.installs.now.items in
    let install = c.args.install.now in
    let at = c.in-Err.at in
    let put : c.insert.new.self.items ≡ take at installs ++ install ∷ drop at installs = search rules in
    ap (filter (λ other. not (is_install_of install.app install.scope other))) put ∙ taken-back installs at install none
