-- What is done to the map of keys, as what is done to the entries.
use Rattle.std.proofs.Common.{◌≡◌, ◌<◌, ◌≤◌, ◌-◌, ℕ, zero, suc, Bool, true, false, ◌&&◌, cond, nat_eq, nat_le, List, [], ◌∷◌, map, take, Option, Some, None, refl, sym, ap, ◌∙◌, arith}
use Rattle.std.specs.Option.{option_map_or}
use Rattle.std.specs.List.{IsDistinct}
use Rattle.std.specs.Map.{lookup, lookup_entry, remove_entry, keys_of}
use Rattle.std.specs.Cmp.Lexicographic.{on_texts_equal}
use Rattle.std.proofs.lemmas.Bool.Decides.{nat_tests}
use Rattle.std.proofs.lemmas.List.{take-map}
use Rattle.std.proofs.lemmas.Map.{lookup-remove_entry}
use Rattle.lru.specs.LruCache.{LruCache, lru_cache, promoted, put_entries}
use Rattle.cynara_keys.specs.Text.{same_text}
use Rattle.cynara_keys.specs.Name.{name_fault}
use Rattle.cynara_keys.specs.parts.Named.{HasNames}
use Rattle.cynara_keys.proofs.Order.{same_text-≡, ≡-same_text}
use Rattle.bucket_eval.specs.declared.answers.Verdict.{Verdict}
use Rattle.answer_cache.specs.Cache.{Asked, same_asked, key_text, if_not_older}
use Rattle.answer_cache.specs.parts.Keys.{asked_of, entries_of}
use Rattle.answer_cache.proofs.Seen.{lookup-seen, remove_entry-seen, promoted-seen}
use Rattle.answer_cache.proofs.Naming.{same_key}

-- ---- an old verdict, and one that is not older

pub older : (told : ℕ) (verdict : Verdict) → verdict.commit < told → if_not_older told (Some verdict) ≡ None
older told verdict below =
    let no : nat_le told verdict.commit ≡ false = grind (arith, nat_tests) in
    ap (λ b. cond b (Some verdict) None) no

pub not_older : (told : ℕ) (verdict : Verdict) → told ≤ verdict.commit → if_not_older told (Some verdict) ≡ Some verdict
not_older told verdict up =
    let yes : nat_le told verdict.commit ≡ true = grind (arith, nat_tests) in
    ap (λ b. cond b (Some verdict) None) yes

-- ---- lists

both : (a b : Bool) → (a && b) ≡ true → (a ≡ true) × (b ≡ true)
both true b h = (refl, h)
both false b h = cc

not_there : {X : Type 0} (b : Bool) (x : X) (rest : Option X) → cond b (Some x) rest ≡ None → (b ≡ false) × (rest ≡ None)
not_there true x rest h = cc
not_there false x rest h = (refl, h)

pub no_entry : {K V : Type 0} (test : K → Bool) (es : List (K × V)) → lookup test es ≡ None → lookup_entry test es ≡ None
no_entry test [] h = refl
no_entry test (e ∷ es) h =
    let parts = not_there (test e.0) e.1 (lookup test es) h in
    ap (λ b. cond b (Some e) (lookup_entry test es)) parts.0 ∙ no_entry test es parts.1

-- what is the same is equal
pub same_asked-≡ : (a b : Asked) → same_asked a b ≡ true → a ≡ b
same_asked-≡ a b h =
    let one = both (same_text a.session b.session) _ h in
    let two = both (same_text a.question.client b.question.client) _ one.1 in
    let three = both (same_text a.question.user b.question.user) _ two.1 in
    let session = same_text-≡ a.session b.session one.0 in
    let client = same_text-≡ a.question.client b.question.client two.0 in
    let user = same_text-≡ a.question.user b.question.user three.0 in
    let privilege = same_text-≡ a.question.privilege b.question.privilege three.1 in
    λ i. record {
      session = session i;
      question = record { client = client i; user = user i; privilege = privilege i };
    }

module _ {K : Type 0} (text : K → List ℕ) where
  abbrev pub same_keys : K → K → Bool
  same_keys x y = same_text (text x) (text y)

  module _ (asked : Asked) (session : name_fault asked.session ≡ None) (names : HasNames asked.question) (key : List ℕ) (is : key ≡ key_text asked) where
    abbrev pub is_at : K → Bool
    is_at k = same_text key (text k)

    agrees : (k : K) → is_at k ≡ same_asked asked (asked_of (text k))
    agrees k = ap (λ t. same_text t (text k)) is ∙ same_key asked session names (text k)

    pub lookup-held : (es : List (K × Verdict)) → lookup is_at es ≡ lookup (same_asked asked) (entries_of text es)
    lookup-held es = lookup-seen (λ k. asked_of (text k)) is_at (same_asked asked) agrees es

    pub promoted-held : (es : List (K × Verdict)) → entries_of text (promoted is_at es) ≡ promoted (same_asked asked) (entries_of text es)
    promoted-held es = promoted-seen (λ k. asked_of (text k)) is_at (same_asked asked) agrees es

    pub removed-held : (es : List (K × Verdict)) → entries_of text (remove_entry is_at es) ≡ remove_entry (same_asked asked) (entries_of text es)
    removed-held es = remove_entry-seen (λ k. asked_of (text k)) is_at (same_asked asked) agrees es

    is_own : (k : K) → text k ≡ key → asked_of (text k) ≡ asked
    is_own k own =
        sym (same_asked-≡ asked (asked_of (text k)) (sym (agrees k) ∙ ≡-same_text key (text k) (sym own)))

    one_key : (x y : K) → is_at x ≡ true → is_at y ≡ same_keys x y
    one_key x y at = ap (λ t. same_text t (text y)) (same_text-≡ key (text x) at)

    gone : (k : K) (es : List (K × Verdict)) → text k ≡ key → IsDistinct same_keys (keys_of es)
        → lookup_entry (same_keys k) (remove_entry is_at es) ≡ None
    gone k es own distinct =
        no_entry (same_keys k) (remove_entry is_at es)
        (lookup-remove_entry (on_texts_equal text) is_at one_key k es distinct
        ∙ ap (λ b. cond b None (lookup (same_keys k) es)) (≡-same_text key (text k) (sym own)))

    pub put-held : (k : K) (verdict : Verdict) (cap : ℕ) (es : List (K × Verdict)) → text k ≡ key → IsDistinct same_keys (keys_of es)
        → entries_of text (put_entries same_keys (lru_cache (remove_entry is_at es) cap) k verdict)
        ≡ (asked, verdict) ∷ take (cap - 1) (remove_entry (same_asked asked) (entries_of text es))
    put-held k verdict cap es own distinct =
        let left = remove_entry is_at es in
        ap (λ o. entries_of text (option_map_or (λ e. (e.0, verdict) ∷ remove_entry (same_keys k) left) o ((k, verdict) ∷ take (cap - 1) left))) (gone k es own distinct)
        ∙ (ap (λ a. (a, verdict) ∷ entries_of text (take (cap - 1) left)) (is_own k own)
        ∙ ap (λ rest. (asked, verdict) ∷ rest)
        (sym (take-map (λ e. (asked_of (text e.0), e.1)) (cap - 1) left) ∙ ap (take (cap - 1)) (removed-held es)))

    -- a pair is taken out, and put in again
    pub kept-held : (old popped new : LruCache K Verdict) (k : K) (verdict : Verdict) → text k ≡ key
        → IsDistinct same_keys (keys_of old.entries)
        → popped ≡ lru_cache (remove_entry is_at old.entries) old.cap
        → new ≡ lru_cache (put_entries same_keys popped k verdict) popped.cap
        → (entries_of text new.entries ≡ (asked, verdict) ∷ take (old.cap - 1) (remove_entry (same_asked asked) (entries_of text old.entries)))
        × (new.cap ≡ old.cap)
    kept-held old popped new k verdict own distinct out put =
        let all : new ≡ lru_cache (put_entries same_keys (lru_cache (remove_entry is_at old.entries) old.cap) k verdict) old.cap =
        put ∙ ap (λ (s : LruCache K Verdict). lru_cache (put_entries same_keys s k verdict) s.cap) out in (
          ap (λ (s : LruCache K Verdict). entries_of text s.entries) all ∙ put-held k verdict old.cap old.entries own distinct,
          ap (λ (s : LruCache K Verdict). s.cap) all,
        )
