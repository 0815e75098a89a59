-- Words that are names.
use Rattle.std.proofs.Common.{◌≡◌, ℕ, Bool, true, false, cond, ◌&&◌, List, [], ◌∷◌, ◌++◌, Some, None, refl, ap, ◌∙◌}
use Rattle.std.specs.List.{list_all}
use Rattle.std.proofs.lemmas.Option.{cond_some}
use Rattle.cynara_keys.specs.Name.{is_name}
use Rattle.line_script.specs.Grammar.{names_at}
use Rattle.script_words.specs.WordForms.{name_at}

and_false : (b : Bool) → b && false ≡ false
and_false true = refl
and_false false = refl

cond_none : (b : Bool) (text : List ℕ) → cond b (Some text) None ≡ None → b ≡ false
cond_none true text h = cc
cond_none false text h = refl

one_wrong : (names : List (List ℕ)) (text : List ℕ) (rest : List (List ℕ)) → is_name text ≡ false
    → list_all is_name (names ++ text ∷ rest) ≡ false
one_wrong [] text rest wrong = ap (λ b. b && list_all is_name rest) wrong
one_wrong (name ∷ names) text rest wrong = ap (λ b. is_name name && b) (one_wrong names text rest wrong)
    ∙ and_false (is_name name)

-- one word that is no name
pub names_at-wrong : (names : List (List ℕ)) (text : List ℕ) (rest : List (List ℕ)) → name_at text ≡ None
    → names_at (names ++ text ∷ rest) ≡ None
names_at-wrong names text rest wrong =
    ap (λ b. cond b (Some (names ++ text ∷ rest)) None)
    (one_wrong names text rest (cond_none (is_name text) text wrong))

-- all of them names
pub names_at-right : (names : List (List ℕ)) → list_all is_name names ≡ true → names_at names ≡ Some names
names_at-right names right = ap (λ b. cond b (Some names) None) right

-- what is read of a name is the word
pub name_at-right : (text name : List ℕ) → name_at text ≡ Some name → (is_name text ≡ true) × (text ≡ name)
name_at-right text name is = cond_some (is_name text) text name is
