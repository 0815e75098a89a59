-- What the numbers of names say of the names.
use Rattle.std.proofs.Common.{◌≡◌, ℕ, ◌+◌, ◌<◌, Bool, true, false, not, cond, ◌&&◌, ◌||◌, ltb, eqb, List, [], ◌∷◌, length, refl, sym, ap, subst, ◌∙◌, arith, Option, Some, None}
use Rattle.std.specs.List.{list_any, position, position_or_len}
use Rattle.std.proofs.lemmas.Bool.{ltb-true, ne_eqb}
use Rattle.cynara_keys.specs.Field.{field_matches}
use Rattle.cynara_keys.specs.Key.{Question, key_matches}
use Rattle.cynara_keys.specs.Text.{same_text}
use Rattle.cynara_keys.specs.declared.fields.Field.{Field}
use Rattle.cynara_keys.specs.declared.fields.Field.TheVariants.{Any, Exact}
use Rattle.cynara_keys.specs.declared.keys.Policy.{Policy}
use Rattle.cynara_keys.proofs.Order.{same_text-≡, ≡-same_text}
use Rattle.lane_scan.specs.Asked.{speaks_of, covers}
use Rattle.bucket_store.proofs.NameNumbering.{place-within, same_numbers}
use Rattle.effective_audit.specs.Audit.{asked}
use Rattle.effective_audit.specs.parts.Narrowing.{mark_of, number_of, place_number, row_of, concerns}

-- where none passes, the place is that of the end
pub place-none : {X : Type 0} (test : X → Bool) (xs : List X) → list_any test xs ≡ false → position_or_len test xs ≡ length xs
place-none test [] none = refl
place-none {X} test (x ∷ xs) none = by_case (place-none test xs) (test x) refl none where
  by_case : (list_any test xs ≡ false → position_or_len test xs ≡ length xs) → (passes : Bool) → test x ≡ passes
      → passes || list_any test xs ≡ false → position_or_len test (x ∷ xs) ≡ length (x ∷ xs)
  by_case later true is none = cc
  by_case later false is none =
      let rest = later none in
      ap (λ passes. cond (not passes) (1 + position_or_len test xs) 0) is ∙ omega (arith, rest)

-- where none is found, the place is that of the end
pub place-nowhere : {X : Type 0} (test : X → Bool) (xs : List X) → position test xs ≡ None → position_or_len test xs ≡ length xs
place-nowhere test xs nowhere = place-none test xs (by_case (list_any test xs) refl) where
  by_case : (passes : Bool) → list_any test xs ≡ passes → list_any test xs ≡ false
  by_case false is = is
  by_case true is =
      let at = position_or_len test xs in
      let found : position test xs ≡ Some at = ap (λ inside. cond inside (Some at) None) (place-within test xs ∙ is) in
      let wrong : Some at ≡ None = sym found ∙ nowhere in
      cc

turned : (a b : List ℕ) → same_text a b ≡ same_text b a
turned a b = by_case (same_text a b) (same_text b a) refl refl where
  by_case : (one other : Bool) → same_text a b ≡ one → same_text b a ≡ other → one ≡ other
  by_case true true is back = refl
  by_case false false is back = refl
  by_case true false is back =
      let wrong : true ≡ false = sym (≡-same_text b a (sym (same_text-≡ a b is))) ∙ back in
      cc
  by_case false true is back =
      let wrong : true ≡ false = sym (≡-same_text a b (sym (same_text-≡ b a back))) ∙ is in
      cc

module _ (names : List (List ℕ)) (asked_name : List ℕ) (known : list_any (same_text asked_name) names ≡ true) where
  -- a name that is none of these is not the one that is asked for
  not_asked : (name : List ℕ) → list_any (same_text name) names ≡ false → same_text name asked_name ≡ false
  not_asked name unknown = by_case (same_text name asked_name) refl where
    by_case : (same : Bool) → same_text name asked_name ≡ same → same ≡ false
    by_case false is = refl
    by_case true is =
        let wrong : false ≡ true =
        sym unknown ∙ subst (λ name. list_any (same_text name) names ≡ true) (sym (same_text-≡ name asked_name is)) known in
        cc

  -- numbers agree where the names do
  numbers-alike : (name : List ℕ) → eqb (place_number names name) (place_number names asked_name) ≡ same_text name asked_name
  numbers-alike name = by_case (list_any (same_text name) names) refl where
    by_case : (there : Bool) → list_any (same_text name) names ≡ there
        → eqb (place_number names name) (place_number names asked_name) ≡ same_text name asked_name
    by_case true is = same_numbers names asked_name name known is ∙ turned asked_name name
    by_case false is =
        let end = place-none (same_text name) names is in
        let within : position_or_len (same_text asked_name) names < length names =
        ltb-true _ _ (place-within (same_text asked_name) names ∙ known) in
        ne_eqb (place_number names name) (place_number names asked_name) (λ same. omega (arith, same, end, within))
        ∙ sym (not_asked name is)

  speaks-privilege : (field : Field) → speaks_of (place_number names asked_name) (number_of names field) ≡ field_matches field asked_name
  speaks-privilege Any = refl
  speaks-privilege (Exact name) =
      let above : eqb (place_number names name) 0 ≡ false = ne_eqb (place_number names name) 0 (λ same. omega (arith, same)) in
      ap (λ wild. wild || eqb (place_number names name) (place_number names asked_name)) above
      ∙ numbers-alike name

speaks-mark : (field : Field) → speaks_of 1 (mark_of field) ≡ true
speaks-mark Any = refl
speaks-mark (Exact name) = refl

both_ways : (a b c : Bool) → (a && b) && c ≡ a && (b && c)
both_ways true b c = refl
both_ways false b c = refl

-- the rows that speak of a question, among those of policies for its application and user, are those of the policies that match
pub covers-matches : (privileges : List (List ℕ)) (client user privilege : List ℕ) → list_any (same_text privilege) privileges ≡ true
    → (policy : Policy)
    → concerns client user policy && covers (1 ∷ 1 ∷ place_number privileges privilege ∷ []) (row_of privileges policy)
    ≡ key_matches policy.key (asked user client privilege)
covers-matches privileges client user privilege known policy =
    let third = speaks_of (place_number privileges privilege) (number_of privileges policy.key.privilege) in
    ap (λ covered. concerns client user policy && covered)
    (ap (λ one. one && (speaks_of 1 (mark_of policy.key.user) && third)) (speaks-mark policy.key.client)
    ∙ ap (λ two. two && third) (speaks-mark policy.key.user)
    ∙ speaks-privilege privileges privilege known policy.key.privilege)
    ∙ both_ways (field_matches policy.key.client client) (field_matches policy.key.user user)
    (field_matches policy.key.privilege privilege)
