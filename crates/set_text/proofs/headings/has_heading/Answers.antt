use Rattle.std.proofs.Common.{rules, sym}
use Rattle.std.proofs.lemmas.Fn.{always_returns_same}
use Rattle.cynara_keys.specs.Text.{text_cmp}
use Rattle.cynara_keys.proofs.Order.{text_total}
use Rattle.bucket_store.specs.Database.{Heading}
use Rattle.bucket_store.proofs.Searching.{searched}
use Rattle.set_text.proofs.Finding.{any-found, any-absent}
use Rattle.set_text.proofs.headings.has_heading.Goals as goal

pub returns-in-Ok : goal.returns-in-Ok
returns-in-Ok c =
    let facts = c.binary_search_by.ensures in
    let by_name =
    facts.position (λ heading. text_cmp heading.name c.args.name.now)
    (always_returns_same _ _ _ (λ a r f called. search rules)) in
    let ends =
    searched text_total (λ (heading : Heading). heading.name) c.args.name.now c.args.headings.now c.requires
    c.binary_search_by.result facts.bound by_name in
    let found = rw c.in-Ok.is at ends.0 in
    sym (any-found (λ (heading : Heading). heading.name) c.args.name.now c.args.headings.now c.in-Ok.field-0 found)

pub returns-in-Err : goal.returns-in-Err
returns-in-Err c =
    let facts = c.binary_search_by.ensures in
    let by_name =
    facts.position (λ heading. text_cmp heading.name c.args.name.now)
    (always_returns_same _ _ _ (λ a r f called. search rules)) in
    let ends =
    searched text_total (λ (heading : Heading). heading.name) c.args.name.now c.args.headings.now c.requires
    c.binary_search_by.result facts.bound by_name in
    let absent = rw c.in-Err.is at ends.1 in
    sym (any-absent (λ (heading : Heading). heading.name) c.args.name.now c.args.headings.now c.in-Err.field-0 absent)
