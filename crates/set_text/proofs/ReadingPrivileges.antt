-- Privileges, read one behind the other.
use Rattle.std.proofs.Common.{◌≡◌, ℕ, Bool, true, false, cond, ◌&&◌, List, [], ◌∷◌, ◌++◌, Some, None, refl, sym, ap}
use Rattle.std.proofs.Common.{◌∙◌, append_assoc, subst}
use mathlib.Core.Bool.{true≢false}
use Rattle.std.specs.List.{list_all}
use Rattle.std.proofs.lemmas.Bool.{and_parts}
use Rattle.std.proofs.lemmas.List.Folds.{list_all-append}
use Rattle.cynara_keys.specs.Name.{is_name}
use Rattle.cynara_keys.specs.Text.{text_cmp}
use Rattle.set_text.specs.Lines.{rises_above}
use Rattle.set_text.specs.Registry.{are_privileges, are_rising}
use Rattle.set_text.specs.parts.Rights.{privilege_fits, privileges_of}
use Rattle.set_text.proofs.ReadingRising.{are_rising-snoc, are_rising-front}

both : {a b : Bool} → a ≡ true → b ≡ true → (a && b) ≡ true
both {a} {b} first second = ap (λ t. t && b) first ∙ second

pub are_privileges-more : (names : List (List ℕ)) (name : List ℕ) → are_privileges names ≡ true
    → privilege_fits names name ≡ true
    → are_privileges (names ++ name ∷ []) ≡ true
are_privileges-more names name known fits =
    let parts = and_parts (list_all is_name names) (are_rising names) known in
    let here = and_parts (is_name name) (rises_above text_cmp names name) fits in
    both (list_all-append is_name names (name ∷ []) ∙ both parts.0 (both here.0 refl))
    (are_rising-snoc names name ∙ both parts.1 here.1)

-- where a name does not fit, these and whatever comes behind it are no privileges
pub are_privileges-wrong : (names : List (List ℕ)) (name : List ℕ) (more : List (List ℕ)) → privilege_fits names name
    ≡ false
    → are_privileges (names ++ name ∷ more) ≡ false
are_privileges-wrong names name more wrong = by (are_privileges (names ++ name ∷ more)) refl
  where
    by : (b : Bool) → are_privileges (names ++ name ∷ more) ≡ b → b ≡ false
    by false is = refl
    by true is =
        let parts = and_parts (list_all is_name (names ++ name ∷ more)) (are_rising (names ++ name ∷ more)) is in
        let named = and_parts (list_all is_name names) (list_all is_name (name ∷ more))
        (sym (list_all-append is_name names (name ∷ more)) ∙ parts.0) in
        let here = and_parts (is_name name) (list_all is_name more) named.1 in
        let front = are_rising-front (names ++ name ∷ []) more
        (subst (λ list. are_rising list ≡ true) (sym (append_assoc names (name ∷ []) more)) parts.1) in
        let rises = and_parts (are_rising names) (rises_above text_cmp names name)
        (sym (are_rising-snoc names name) ∙ front) in
        absurd (true≢false (sym (both here.0 rises.1) ∙ wrong))

pub privileges_of-right : (names : List (List ℕ)) → are_privileges names ≡ true → privileges_of names ≡ Some names
privileges_of-right names right = ap (λ b. cond b (Some names) None) right

pub privileges_of-wrong : (names : List (List ℕ)) → are_privileges names ≡ false → privileges_of names ≡ None
privileges_of-wrong names wrong = ap (λ b. cond b (Some names) None) wrong
