use Rattle.std.proofs.Common.{rules, ◌≡◌, ◌++◌, ◌∷◌, List, ℕ, take, drop, ◌∙◌, subst}
use Rattle.std.specs.List.{insert}
use Rattle.cynara_keys.specs.Text.{text_cmp}
use Rattle.app_registry.specs.Rising.{placed}
use Rattle.app_registry.proofs.Indexing.{noting}
use Rattle.app_registry.proofs.install_lists.note.Goals as goal

pub returns-clause-rise : goal.returns-clause-rise
returns-clause-rise c =
    let apps = c.args.apps.now.items in
    let app = c.args.app.now in
    let at = c.in-Err.at in
    let put : c.insert.new.self.items ≡ take at apps ++ app ∷ drop at apps = search rules in
    let is : c.insert.new.self.items ≡ placed text_cmp app apps =
    put ∙ subst (λ (list : List (List ℕ)). insert list at app ≡ placed text_cmp app list) c.deref.ensures.value c.in-Err.ensures.place.1 in
    (noting app apps c.insert.new.self.items c.requires is).rise

pub returns-clause-noted : goal.returns-clause-noted
returns-clause-noted c _ =
    let apps = c.args.apps.now.items in
    let app = c.args.app.now in
    let at = c.in-Err.at in
    let put : c.insert.new.self.items ≡ take at apps ++ app ∷ drop at apps = search rules in
    let is : c.insert.new.self.items ≡ placed text_cmp app apps =
    put ∙ subst (λ (list : List (List ℕ)). insert list at app ≡ placed text_cmp app list) c.deref.ensures.value c.in-Err.ensures.place.1 in
    (noting app apps c.insert.new.self.items c.requires is).noted

pub returns-clause-stay : goal.returns-clause-stay
returns-clause-stay c =
    let apps = c.args.apps.now.items in
    let app = c.args.app.now in
    let at = c.in-Err.at in
    let put : c.insert.new.self.items ≡ take at apps ++ app ∷ drop at apps = search rules in
    let is : c.insert.new.self.items ≡ placed text_cmp app apps =
    put ∙ subst (λ (list : List (List ℕ)). insert list at app ≡ placed text_cmp app list) c.deref.ensures.value c.in-Err.ensures.place.1 in
    (noting app apps c.insert.new.self.items c.requires is).stay
