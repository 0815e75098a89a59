use Rattle.std.proofs.Common.{◌≡◌, ◌++◌, ◌&&◌, ◌∷◌, [], List, ℕ, true, ap, sym, subst, ◌∙◌, append_assoc, append-nil}
use Rattle.std.proofs.Common.{rules}
use Rattle.std.specs.List.{list_all}
use Rattle.std.proofs.lemmas.List.Folds.{list_all-append}
use Rattle.cynara_keys.specs.Name.{is_name}
use Rattle.line_script.specs.Grammar.{names_at}
use Rattle.script_words.specs.WordForms.{name_at}
use Rattle.line_script.proofs.NameWords.{names_at-wrong, names_at-right, name_at-right}
use Rattle.line_script.proofs.Refusing.{refused_with}
use Rattle.line_script.proofs.installs.name_words.Goals as goal

pub loop-text-preserved : goal.loop-text-preserved
loop-text-preserved c =
    let done = c.loop-text.names.items in
    let name = c.in-Ok.name in
    let rest = c.next.new.self in
    let read = name_at-right c.in-Some.text.now name c.in-Ok.ensures in
    let Right : List ℕ → Type 0 = λ text. is_name text ≡ true in
    let pushed : c.push.new.self.items ≡ done ++ name ∷ [] = search rules in
    let split : (done ++ name ∷ []) ++ rest ≡ c.args.words.now =
    append_assoc done (name ∷ []) rest
    ∙ ap (λ name. done ++ name ∷ rest) (sym read.1)
    ∙ ap (λ words. done ++ words) (sym c.in-Some.ensures.word)
    ∙ c.loop-text.invariant.split in
    let names : list_all is_name (done ++ name ∷ []) ≡ true =
    list_all-append is_name done (name ∷ [])
    ∙ ap (λ b. b && list_all is_name (name ∷ [])) c.loop-text.invariant.names
    ∙ ap (λ b. b && true) (subst Right read.1 read.0) in
    record { split = rw pushed split; names = rw pushed names }

pub returns-in-Err : goal.returns-in-Err
returns-in-Err c =
    let done = c.loop-text.names.items in
    let text = c.in-Some.text.now in
    let rest = c.next.new.self in
    let split : done ++ text ∷ rest ≡ c.args.words.now =
    ap (λ words. done ++ words) (sym c.in-Some.ensures.word) ∙ c.loop-text.invariant.split in
    refused_with c.in-Err.refusal (name_at text) (names_at c.args.words.now) c.in-Err.ensures
    (λ wrong. ap names_at (sym split) ∙ names_at-wrong done text rest wrong)

pub returns : goal.returns
returns c =
    let done = c.loop-text.names.items in
    let whole : done ≡ c.args.words.now =
    sym (append-nil done) ∙ ap (λ words. done ++ words) (sym c.in_default.ensures.word) ∙ c.loop-text.invariant.split in
    ap names_at (sym whole) ∙ names_at-right done c.loop-text.invariant.names
