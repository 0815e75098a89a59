-- A map whose keys are seen as something else: what is looked up, taken out and put first is seen so too, where the tests
-- of the two kinds of keys agree.
use Rattle.std.proofs.Common.{◌≡◌, Bool, true, false, cond, List, [], ◌∷◌, map, Option, Some, None, refl, ap, ◌∙◌}
use Rattle.std.specs.Option.{option_map_or}
use Rattle.std.specs.Map.{lookup, lookup_entry, remove_entry}
use Rattle.lru.specs.LruCache.{promoted}

module _ {K L V : Type 0} (f : K → L) (p : K → Bool) (q : L → Bool) (same : (k : K) → p k ≡ q (f k)) where
  abbrev pub seen : List (K × V) → List (L × V)
  seen es = map (λ e. (f e.0, e.1)) es

  pub lookup-seen : (es : List (K × V)) → lookup p es ≡ lookup q (seen es)
  lookup-seen [] = refl
  lookup-seen (e ∷ es) =
      ap (λ b. cond b (Some e.1) (lookup p es)) (same e.0)
      ∙ ap (λ o. cond (q (f e.0)) (Some e.1) o) (lookup-seen es)

  removed : (b : Bool) (e : K × V) (es : List (K × V)) → seen (remove_entry p es) ≡ remove_entry q (seen es)
      → seen (cond b es (e ∷ remove_entry p es)) ≡ cond b (seen es) ((f e.0, e.1) ∷ remove_entry q (seen es))
  removed true e es rest = refl
  removed false e es rest = ap (λ left. (f e.0, e.1) ∷ left) rest

  pub remove_entry-seen : (es : List (K × V)) → seen (remove_entry p es) ≡ remove_entry q (seen es)
  remove_entry-seen [] = refl
  remove_entry-seen (e ∷ es) =
      ap (λ b. seen (cond b es (e ∷ remove_entry p es))) (same e.0) ∙ removed (q (f e.0)) e es (remove_entry-seen es)

  abbrev entry_seen : Option (K × V) → Option (L × V)
  entry_seen None = None
  entry_seen (Some e) = Some (f e.0, e.1)

  found : (b : Bool) (e : K × V) (o : Option (K × V)) → entry_seen (cond b (Some e) o) ≡ cond b (Some (f e.0, e.1)) (entry_seen o)
  found true e o = refl
  found false e o = refl

  lookup_entry-seen : (es : List (K × V)) → entry_seen (lookup_entry p es) ≡ lookup_entry q (seen es)
  lookup_entry-seen [] = refl
  lookup_entry-seen (e ∷ es) =
      ap (λ b. entry_seen (cond b (Some e) (lookup_entry p es))) (same e.0)
      ∙ (found (q (f e.0)) e (lookup_entry p es) ∙ ap (λ o. cond (q (f e.0)) (Some (f e.0, e.1)) o) (lookup_entry-seen es))

  first : (o : Option (K × V)) (es : List (K × V))
      → seen (option_map_or (λ e. e ∷ remove_entry p es) o es)
      ≡ option_map_or (λ e. e ∷ remove_entry q (seen es)) (entry_seen o) (seen es)
  first None es = refl
  first (Some e) es = ap (λ left. (f e.0, e.1) ∷ left) (remove_entry-seen es)

  pub promoted-seen : (es : List (K × V)) → seen (promoted p es) ≡ promoted q (seen es)
  promoted-seen es =
      first (lookup_entry p es) es
      ∙ ap (λ o. option_map_or (λ e. e ∷ remove_entry q (seen es)) o (seen es)) (lookup_entry-seen es)
