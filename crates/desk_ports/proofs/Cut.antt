-- Texts that are cut to their first elements.
use Rattle.std.proofs.Common.{◌≡◌, ◌++◌, ℕ, zero, suc, List, [], ◌∷◌, take, ap, refl, ◌∙◌}
use Rattle.std.proofs.lemmas.List.{append_assoc}

cut_again : (n : ℕ) (xs ys : List ℕ) → take n (take n xs ++ ys) ≡ take n (xs ++ ys)
cut_again zero xs ys = refl
cut_again (suc n) [] ys = refl
cut_again (suc n) (x ∷ xs) ys = ap (λ l. x ∷ l) (cut_again n xs ys)

-- What is cut after each addition is as what is cut once.
pub cut_next : (n : ℕ) (text added more one two : List ℕ) → one ≡ take n (text ++ added) → two ≡ take n (one ++ more)
    → two ≡ take n (text ++ (added ++ more))
cut_next n text added more one two is next =
    next ∙ ap (λ t. take n (t ++ more)) is ∙ cut_again n (text ++ added) more ∙ ap (take n) (append_assoc text added more)
