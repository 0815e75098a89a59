use Rattle.std.proofs.Common.{◌&&◌, not, sym, ap, ◌∙◌}
use Rattle.std.specs.BTreeMap.{get}
use Rattle.cynara_keys.specs.Text.{text_cmp}
use Rattle.set_text.specs.Lines.{last_of}
use Rattle.set_text.specs.parts.Standing.{is_other_than, author_fits, kind_fits}
use Rattle.set_text.proofs.ReadingOwners.{owner-parts}
use Rattle.set_text.proofs.registries.belongs.Goals as goal

pub returns-then-not-is_known : goal.returns-then-not-is_known
returns-then-not-is_known c =
    let install = c.args.install.now in
    let map = c.args.packages.now in
    let before = c.args.before.now in
    sym (owner-parts c.args.users.now map before install c.requires.kept c.requires.noted c.requires.rises
    ∙ ap (λ b. b && (not (is_other_than install.«package» (get text_cmp map install.app))
    && (author_fits (last_of before) install && kind_fits (last_of before) install)))
    (sym c.is_known.ensures ∙ c.if-not-is_known.true))

pub returns-then-is_elsewhere : goal.returns-then-is_elsewhere
returns-then-is_elsewhere c =
    let install = c.args.install.now in
    let map = c.args.packages.now in
    let before = c.args.before.now in
    sym (owner-parts c.args.users.now map before install c.requires.kept c.requires.noted c.requires.rises
    ∙ ap (λ b. b && (not (is_other_than install.«package» (get text_cmp map install.app))
    && (author_fits (last_of before) install && kind_fits (last_of before) install)))
    (sym c.is_known.ensures ∙ c.if-not-is_known.false)
    ∙ ap (λ b. not b && (author_fits (last_of before) install && kind_fits (last_of before) install)) (sym c.is_elsewhere.ensures ∙ c.if-is_elsewhere.true))

pub returns-then-not-has_author : goal.returns-then-not-has_author
returns-then-not-has_author c =
    let install = c.args.install.now in
    let map = c.args.packages.now in
    let before = c.args.before.now in
    sym (owner-parts c.args.users.now map before install c.requires.kept c.requires.noted c.requires.rises
    ∙ ap (λ b. b && (not (is_other_than install.«package» (get text_cmp map install.app))
    && (author_fits (last_of before) install && kind_fits (last_of before) install)))
    (sym c.is_known.ensures ∙ c.if-not-is_known.false)
    ∙ ap (λ b. not b && (author_fits (last_of before) install && kind_fits (last_of before) install)) (sym c.is_elsewhere.ensures ∙ c.if-is_elsewhere.false)
    ∙ ap (λ b. b && kind_fits (last_of before) install) (sym c.has_author.ensures ∙ c.if-not-has_author.true))

pub returns : goal.returns
returns c =
    let install = c.args.install.now in
    let map = c.args.packages.now in
    let before = c.args.before.now in
    c.has_kind.ensures
    ∙ sym (owner-parts c.args.users.now map before install c.requires.kept c.requires.noted c.requires.rises
    ∙ ap (λ b. b && (not (is_other_than install.«package» (get text_cmp map install.app))
    && (author_fits (last_of before) install && kind_fits (last_of before) install)))
    (sym c.is_known.ensures ∙ c.if-not-is_known.false)
    ∙ ap (λ b. not b && (author_fits (last_of before) install && kind_fits (last_of before) install)) (sym c.is_elsewhere.ensures ∙ c.if-is_elsewhere.false)
    ∙ ap (λ b. b && kind_fits (last_of before) install) (sym c.has_author.ensures ∙ c.if-not-has_author.false))
