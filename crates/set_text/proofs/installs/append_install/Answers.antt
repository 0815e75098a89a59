use Rattle.std.proofs.Common.{◌≡◌, ◌++◌, ◌∷◌, [], List, ℕ, rules, ◌∙◌}
use Rattle.std.specs.List.{flat_map}
use Rattle.set_text.specs.Registry.{package_text, author_text, scope_text}
use Rattle.set_text.proofs.Joining.{joined-cons, install-line}
use Rattle.set_text.proofs.installs.append_install.Goals as goal

pub returns-clause-text : goal.returns-clause-text
returns-clause-text c =
    let install = c.args.install.now in
    let privileges = flat_map (λ (name : List ℕ). 59 ∷ name) install.privileges in
    let made : c.push.new.self.items ≡ (((c.args.text.now.items ++ (package_text install.hybrid install.package
    ++ (59 ∷ (author_text install.author ++
    (59 ∷ (install.app ++ 59 ∷ [])))))) ++ scope_text install.scope) ++ privileges) ++ 10 ∷ [] =
    search rules in
    rw (joined-cons (scope_text install.scope) install.privileges)
    (made ∙ install-line c.args.text.now.items (package_text install.hybrid install.package) (author_text install.author) install.app
    (scope_text install.scope) privileges)
