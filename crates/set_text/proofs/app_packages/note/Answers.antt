use Rattle.std.proofs.Common.{◌≡◌, ℕ, List, Some, false, cond, is_some, sym, ap, ◌∙◌}
use Rattle.std.specs.BTreeMap.{get}
use Rattle.cynara_keys.specs.Text.{same_text, text_cmp}
use Rattle.cynara_keys.proofs.Order.{text_cmp-equal}
use Rattle.set_text.proofs.ReadingInstalls.{noted-new}
use Rattle.set_text.proofs.app_packages.note.Goals as goal

pub returns : goal.returns
returns c = λ app.
    let install = c.args.install.now in
    let held = λ (app : List ℕ). get text_cmp c.args.packages.now app in
    let new : is_some (held install.app) ≡ false = sym c.contains_key.ensures ∙ c.if-contains_key.false in
    c.in_ok-insert.ensures.updates.0 app
    ∙ ap (λ b. cond b (Some c.in_ok-copy-2.field-0) (held app))
    (text_cmp-equal c.in_ok-copy.field-0 app ∙ ap (λ key. same_text key app) c.in_ok-copy.ensures)
    ∙ ap (λ value. cond (same_text install.app app) (Some value) (held app)) c.in_ok-copy-2.ensures
    ∙ noted-new install held new app
