-- What was looked up and used is the newest.
use Rattle.std.proofs.Common.{◌≡◌, Bool, true, false, cond, List, [], ◌∷◌, Option, Some, None, refl, ap, ◌∙◌}
use Rattle.std.specs.Option.{option_map_or}
use Rattle.std.specs.Map.{lookup, lookup_entry, remove_entry}
use Rattle.lru.specs.LruCache.{promoted}
use Rattle.bucket_eval.specs.declared.answers.Verdict.{Verdict}
use Rattle.std.specs.Prelude.{nat_le, if◌then◌else◌}
use Rattle.std.proofs.Common.{ℕ}
use Rattle.answer_cache.specs.Cache.{Asked, Cache, same_asked, if_not_older, answer_in, used, first_verdict, newest}

module _ {K V : Type 0} where
  abbrev Entry : Option (K × V) → V → Type 0
  Entry found v = (e : K × V) × (found ≡ Some e) × (e.1 ≡ v)

  entry_if : (b : Bool) (f : K × V) (rest : Option V) (found : Option (K × V)) (v : V) → (rest ≡ Some v → Entry found v)
      → cond b (Some f.1) rest ≡ Some v → Entry (cond b (Some f) found) v
  entry_if true f rest found v more h = let same : f.1 ≡ v = cc in (f, refl, same)
  entry_if false f rest found v more h = more h

  entry_of : (test : K → Bool) (es : List (K × V)) (v : V) → lookup test es ≡ Some v → Entry (lookup_entry test es) v
  entry_of test [] v h = cc
  entry_of test (f ∷ es) v h = entry_if (test f.0) f (lookup test es) (lookup_entry test es) v (entry_of test es v) h

pub used_first : (test : Asked → Bool) (es : List (Asked × Verdict)) (v : Verdict) → lookup test es ≡ Some v
    → first_verdict (promoted test es) ≡ Some v
used_first test es v is =
    let found = entry_of test es v is in
    ap (λ o. first_verdict (option_map_or (λ e. e ∷ remove_entry test es) o es)) found.1 ∙ ap (λ (w : Verdict). Some w) found.2

fresh_if : (fits : Bool) (w v : Verdict) → (if fits then Some w else None) ≡ Some v → Some w ≡ Some v
fresh_if true w v is = is
fresh_if false w v is = cc

fresh_in : (told : ℕ) (found : Option Verdict) (v : Verdict) → if_not_older told found ≡ Some v → found ≡ Some v
fresh_in told None v is = cc
fresh_in told (Some w) v is = fresh_if (nat_le told w.commit) w v is

-- behind an answer that was used, it is the newest
pub newest_used : (asked : Asked) (cache : Cache) (v : Verdict) → answer_in asked cache ≡ Some v → newest (used asked cache) ≡ Some v
newest_used asked cache v is =
    used_first (same_asked asked) cache.entries v (fresh_in cache.told (lookup (same_asked asked) cache.entries) v is)
