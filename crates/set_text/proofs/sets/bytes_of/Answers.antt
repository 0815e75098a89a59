use Rattle.std.proofs.Common.{◌≡◌, ℕ, List, ◌++◌, ◌∷◌, get_or, sym, ap, ◌∙◌, rules}
use Rattle.std.proofs.lemmas.Fn.{always_returns_same}
use Rattle.cynara_keys.specs.Text.{text_cmp}
use Rattle.cynara_keys.proofs.Order.{text_total}
use Rattle.desk_ports.specs.declared.file_sets.SetFile.{SetFile}
use Rattle.bucket_store.proofs.Searching.{searched}
use Rattle.set_text.proofs.Finding.{bytes-found, bytes-absent, files-rise, element-at}
use Rattle.set_text.proofs.sets.bytes_of.Goals as goal

pub returns-in-Ok : goal.returns-in-Ok
returns-in-Ok c =
    let files = c.args.files.now in
    let at = c.in-Ok.at in
    let facts = c.binary_search_by.ensures in
    let by_name =
    facts.position (λ file. text_cmp file.name c.args.name.now)
    (always_returns_same _ _ _ (λ a r f called. search rules)) in
    let ends =
    searched text_total (λ (file : SetFile). file.name) c.args.name.now files (files-rise files c.requires)
    c.binary_search_by.result facts.bound by_name in
    let stands = rw c.in-Ok.is at ends.0 in
    let other = c.index-files-at.result in
    let is : get_or files at other ≡ stands.element =
    ap (λ (set : List SetFile). get_or set at other) stands.parts
    ∙ ap (λ (place : ℕ). get_or (stands.front ++ stands.element ∷ stands.back) place other) (sym stands.length_front)
    ∙ element-at stands.front stands.element other stands.back in
    c.as_slice.ensures ∙ ap (λ (file : SetFile). file.bytes) is ∙ sym (bytes-found c.args.name.now files at stands)

pub returns-in-Err : goal.returns-in-Err
returns-in-Err c =
    let facts = c.binary_search_by.ensures in
    let by_name =
    facts.position (λ file. text_cmp file.name c.args.name.now)
    (always_returns_same _ _ _ (λ a r f called. search rules)) in
    let ends =
    searched text_total (λ (file : SetFile). file.name) c.args.name.now c.args.files.now
    (files-rise c.args.files.now c.requires)
    c.binary_search_by.result facts.bound by_name in
    let absent = rw c.in-Err.is at ends.1 in
    sym (bytes-absent c.args.name.now c.args.files.now c.in-Err.field-0 absent)
