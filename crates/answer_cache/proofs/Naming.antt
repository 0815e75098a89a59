-- No two questions, nor one question in two sessions, have one key.
use Rattle.std.proofs.Common.{◌≡◌, ℕ, suc, ◌+◌, ◌≤◌, Bool, true, false, not, ◌&&◌, cond, nat_eq, ltb, eqb, List, [], ◌∷◌, ◌++◌, length, Some, None, Option, position, refl, sym, ap, ◌∙◌, arith}
use Rattle.std.proofs.lemmas.Bool.{ltb-false}
use Rattle.std.proofs.lemmas.Bool.Decides.{nat_tests}
use Rattle.std.specs.List.{AllByRecursion, position_or_len}
use Rattle.cynara_keys.specs.Text.{same_text, is_visible}
use Rattle.cynara_keys.specs.Name.{name_fault, bad_byte_or, is_reserved}
use Rattle.cynara_keys.specs.Key.{Question}
use Rattle.cynara_keys.specs.declared.names.NameRefusal.{NameRefusal}
use Rattle.cynara_keys.specs.declared.names.NameRefusal.TheVariants.{Empty, TooLong, Reserved}
use Rattle.cynara_keys.specs.parts.Named.{HasNames}
use Rattle.answer_cache.specs.Cache.{Asked, same_asked, key_text}
use Rattle.answer_cache.specs.parts.Keys.{front, behind, asked_of}

-- ---- names

-- no byte of the text is a space
abbrev pub Spaceless : List ℕ → Type 0
Spaceless = AllByRecursion (λ byte. nat_eq 32 byte ≡ false)

not_space : (byte : ℕ) → not (is_visible byte) ≡ false → nat_eq 32 byte ≡ false
not_space byte visible = grind (arith, nat_tests)

at_head : (b : Bool) (n m : ℕ) → suc n ≤ cond (not b) (1 + m) 0 → (b ≡ false) × (n ≤ m)
at_head true n m h = absurd (omega arith)
at_head false n m h = (refl, omega arith)

spaceless_within : (bytes : List ℕ) → length bytes ≤ position_or_len (λ byte. not (is_visible byte)) bytes → Spaceless bytes
spaceless_within [] h = tt
spaceless_within (byte ∷ bytes) h =
    let here = at_head (not (is_visible byte)) (length bytes) (position_or_len (λ b. not (is_visible b)) bytes) h in
    (not_space byte here.0, spaceless_within bytes here.1)

-- a text that breaks no rule of a name breaks none of the first three
no_fault : (empty long : Bool) (at : Option ℕ) (last : Option NameRefusal)
    → cond empty (Some Empty) (cond long (Some TooLong) (bad_byte_or at last)) ≡ None
    → (empty ≡ false) × ((long ≡ false) × (at ≡ None))
no_fault true long at last h = cc
no_fault false true at last h = cc
no_fault false false (Some at) last h = cc
no_fault false false None last h = (refl, (refl, refl))

cond_none : (b : Bool) (n : ℕ) → cond b (Some n) None ≡ None → b ≡ false
cond_none true n h = cc
cond_none false n h = refl

parts_of : (name : List ℕ) → name_fault name ≡ None
    → (eqb (length name) 0 ≡ false) × ((ltb 255 (length name) ≡ false) × (position (λ byte. not (is_visible byte)) name ≡ None))
parts_of name h = no_fault (eqb (length name) 0) (ltb 255 (length name)) (position (λ byte. not (is_visible byte)) name) (cond (is_reserved name) (Some Reserved) None) h

pub spaceless : (name : List ℕ) → name_fault name ≡ None → Spaceless name
spaceless name h = spaceless_within name (ltb-false _ _ (cond_none _ _ (parts_of name h).1.1))

some_name : (name : List ℕ) → name_fault name ≡ None → same_text name [] ≡ false
some_name [] h = cc
some_name (byte ∷ name) h = refl

-- ---- keys

and_assoc : (a b c : Bool) → (a && (b && c)) ≡ ((a && b) && c)
and_assoc true b c = refl
and_assoc false b c = refl

-- one byte of a name, and one of a key: `space` says whether that is a space
step : (x : ℕ) (xs rest : List ℕ) (y : ℕ) (ys : List ℕ) (space : Bool) → nat_eq 32 y ≡ space → nat_eq 32 x ≡ false
    → same_text (xs ++ (32 ∷ rest)) ys ≡ (same_text xs (front ys) && same_text rest (behind ys))
    → (nat_eq x y && same_text (xs ++ (32 ∷ rest)) ys)
    ≡ (same_text (x ∷ xs) (cond space [] (y ∷ front ys)) && same_text rest (cond space ys (behind ys)))
step x xs rest y ys true is free more =
    let other : nat_eq x y ≡ false = grind (arith, nat_tests) in ap (λ b. b && same_text (xs ++ (32 ∷ rest)) ys) other
step x xs rest y ys false is free more =
    ap (λ b. nat_eq x y && b) more ∙ and_assoc (nat_eq x y) (same_text xs (front ys)) (same_text rest (behind ys))

at_space : (rest : List ℕ) (y : ℕ) (ys : List ℕ) (space : Bool)
    → (space && same_text rest ys) ≡ (same_text [] (cond space [] (y ∷ front ys)) && same_text rest (cond space ys (behind ys)))
at_space rest y ys true = refl
at_space rest y ys false = refl

-- a name, a space and a rest are the key, where the name is its front and the rest what stands behind the space
split_text : (name rest key : List ℕ) → Spaceless name → same_text rest [] ≡ false
    → same_text (name ++ (32 ∷ rest)) key ≡ (same_text name (front key) && same_text rest (behind key))
split_text [] rest [] free some = sym some
split_text [] rest (y ∷ ys) free some = at_space rest y ys (nat_eq 32 y)
split_text (x ∷ xs) rest [] free some = refl
split_text (x ∷ xs) rest (y ∷ ys) free some =
    step x xs rest y ys (nat_eq 32 y) refl free.0 (split_text xs rest ys free.1 some)

some_rest : (name rest : List ℕ) → same_text (name ++ (32 ∷ rest)) [] ≡ false
some_rest [] rest = refl
some_rest (byte ∷ name) rest = refl

-- an entry under a key answers what the key was made of, and nothing else
pub same_key : (asked : Asked) → name_fault asked.session ≡ None → HasNames asked.question
    → (key : List ℕ) → same_text (key_text asked) key ≡ same_asked asked (asked_of key)
same_key asked session names key =
    let s = asked.session in
    let c = asked.question.client in
    let u = asked.question.user in
    let p = asked.question.privilege in
    let one = split_text s (c ++ (32 ∷ (u ++ (32 ∷ p)))) key (spaceless s session) (some_rest c (u ++ (32 ∷ p))) in
    let two = split_text c (u ++ (32 ∷ p)) (behind key) (spaceless c names.client) (some_rest u p) in
    let three = split_text u p (behind (behind key)) (spaceless u names.user) (some_name p names.privilege) in
    one ∙ ap (λ b. same_text s (front key) && b) (two ∙ ap (λ b. same_text c (front (behind key)) && b) three)
