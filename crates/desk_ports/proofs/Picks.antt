-- What a stop leaves at the names that were not touched.
use Rattle.std.proofs.Common.{◌≡◌, ◌↔◌, ◌%◌, ℕ, suc, true, fold, List, [], ◌∷◌, cond, refl, sym, ◌∙◌, ap, arith}
use Rattle.std.proofs.lemmas.Bool.{false_from_ne_true, false≢true}
use Rattle.std.specs.List.{Contains, list_any}
use Rattle.std.specs.Ordering.{nat_cmp, eq_by_cmp}
use Rattle.std.specs.Cmp.Lexicographic.{slice_cmp, same_text}
use Rattle.std.specs.Str.{bytes_eq}
use Rattle.std.proofs.lemmas.Cmp.{eq_by_cmp_equiv, nat_list_cmp_total}
use Rattle.std.proofs.lemmas.Map.Views.{Contains-from_any, list_any-from_Contains}
use Rattle.desk_ports.specs.FileMap.{FileMap, NameSet, AgreeOutside}
use Rattle.desk_ports.specs.Stopping.{Picking, pick_next, picked, picked_map}
use Rattle.desk_ports.proofs.SameNames.{same_name}

-- a list in which a test finds the touched names has those names
pub touched-listed : (touched : NameSet) (names : List (List ℕ))
    → ((name : List ℕ) → list_any (eq_by_cmp (slice_cmp nat_cmp) name) names ≡ touched name) → (name : List ℕ)
    → Contains names name ↔ (touched name ≡ true)
touched-listed touched names held name = (
  (λ has. sym (held name) ∙ list_any-from_Contains (eq_by_cmp_equiv nat_list_cmp_total) name names has),
  (λ is. Contains-from_any same_name name names (held name ∙ is)),
)

-- a name that is not in the list keeps what it holds
picked-apart : (meant : List ℕ → List ℕ) (names : List (List ℕ)) (picking : Picking) (name : List ℕ)
    → (Contains names name → ⊥) → (fold (pick_next meant) picking names).left name ≡ picking.left name
picked-apart meant [] picking name apart = refl
picked-apart meant (first ∷ names) picking name apart =
    picked-apart meant names (pick_next meant picking first) name (λ has. apart (suc has.0, omega (arith, has.1), has.2))
    ∙ ap (λ is. cond is (picked (picking.digits % 4) (meant first)) (picking.left name))
    (false_from_ne_true (bytes_eq first name) (λ is. apart (0, omega arith, same_text first name (sym is))))

-- what is left agrees with what is durable at each name that was not touched
pub picked_map-untouched : (touched : NameSet) (names : List (List ℕ)) (pick : ℕ) (meant : List ℕ → List ℕ) (durable left : FileMap)
    → ((name : List ℕ) → Contains names name ↔ (touched name ≡ true))
    → ((name : List ℕ) → left name ≡ picked_map pick meant durable names name) → AgreeOutside touched left durable
picked_map-untouched touched names pick meant durable left all held = λ name outside.
    held name
    ∙ picked-apart meant names (record { digits = pick; left = durable }) name
    (λ has. false≢true (sym outside ∙ (all name).0 has))
