-- What is kept under a text.
use Rattle.std.proofs.Common.{◌≡◌, ◌≤◌, ℕ, Bool, true, false, cond, List, [], ◌∷◌, Contains, Option, Some, None, refl, sym, ap, ◌∙◌, subst, inl, inr, arith}
use Rattle.std.specs.Prelude.{is_some, slice_get}
use Rattle.std.specs.Bool.{OnTrue, OnFalse}
use Rattle.std.specs.Option.{option_map, option_map_or}
use Rattle.std.specs.Map.{lookup, remove_entry}
use Rattle.lru.specs.LruCache.{LruCache, lru_cache, promoted, put_entries}
use Rattle.lru.proofs.CallerLemmas.{Contains-lookup, Contains-promoted, Contains-remove_entry, Contains-put_entries, IsPut}
use Rattle.lru.proofs.Splits.{Contains-nil}
use Rattle.cynara_keys.specs.Text.{same_text}
use Rattle.cynara_keys.proofs.Order.{same_text-≡, ≡-same_text}
use Rattle.bucket_eval.specs.declared.answers.Verdict.{Verdict}
use Rattle.answer_cache.specs.Cache.{Asked, IsOfNames, key_text, Cache, answer_in, if_not_older, used, first_verdict, Recalls}
use Rattle.answer_cache.specs.parts.Keys.{asked_of, entries_of, IsKey, AreEntries}
use Rattle.answer_cache.proofs.Held.{older, not_older, no_entry, same_asked-≡, lookup-held, promoted-held}
use Rattle.answer_cache.proofs.Naming.{same_key}

-- ---- no two questions have one text

own : (asked : Asked) → IsOfNames asked → asked ≡ asked_of (key_text asked)
own asked names =
    same_asked-≡ asked (asked_of (key_text asked))
    (sym (same_key asked names.session names.question (key_text asked)) ∙ ≡-same_text (key_text asked) (key_text asked) refl)

one_asked : (a b : Asked) → IsOfNames a → IsOfNames b → key_text a ≡ key_text b → a ≡ b
one_asked a b of_a of_b same = own a of_a ∙ (ap asked_of same ∙ sym (own b of_b))

-- ---- what was recalled, of a question whose text it is

module _ (text : List ℕ) (old new : Cache) (asked : Asked) (names : IsOfNames asked) (is : text ≡ key_text asked) where
  pub recalled : (found : Bool) → Recalls found text old new → found ≡ is_some (answer_in asked old)
  recalled true r =
      let same : r.0 ≡ asked = one_asked r.0 asked r.1 names (sym r.2 ∙ is) in
      sym (ap is_some (subst (λ (a : Asked). answer_in a old ≡ Some r.3.0) same r.3.1))
  recalled false r = sym (ap is_some (r.1 asked names is))

  pub moved : (found : Bool) → Recalls found text old new → OnTrue found (new ≡ used asked old)
  moved true r =
      let same : r.0 ≡ asked = one_asked r.0 asked r.1 names (sym r.2 ∙ is) in
      subst (λ (a : Asked). new ≡ used a old) same r.4
  moved false r = tt

pub unmoved : (text : List ℕ) (old new : Cache) (found : Bool) → Recalls found text old new → OnFalse found (new ≡ old)
unmoved text old new true r = tt
unmoved text old new false r = r.0

module _ {K : Type 0} (text : K → List ℕ) where
  abbrev Held : Type 0
  Held = List (K × Verdict)

  -- ---- entries stay entries

  pub none_kept : (least : ℕ) (es : Held) → es ≡ [] → AreEntries text least es
  none_kept least es is e has = absurd (Contains-nil e (subst (λ (l : Held). Contains l e) is has))

  pub promoted_kept : (test : K → Bool) (least : ℕ) (es new : Held) → AreEntries text least es → new ≡ promoted test es
      → AreEntries text least new
  promoted_kept test least es new are is e has =
      are e (Contains-promoted test es e (subst (λ (l : Held). Contains l e) is has))

  pub removed_kept : (test : K → Bool) (least : ℕ) (es new : Held) → AreEntries text least es → new ≡ remove_entry test es
      → AreEntries text least new
  removed_kept test least es new are is e has =
      are e (Contains-remove_entry test es e (subst (λ (l : Held). Contains l e) is has))

  key_put : (same : K → K → Bool) (c : LruCache K Verdict) (k : K) (v : Verdict) (least : ℕ) → AreEntries text least c.entries
      → IsKey (text k) → (e : K × Verdict) → IsPut same c k v e → IsKey (text e.0)
  key_put same c k v least are key e put = elim put.1 [
    | inl own ↦ subst (λ (x : K). IsKey (text x)) (sym own) key
    | inr there ↦ (are (e.0, there.0) there.1).0
  ]

  pub put_kept : (same : K → K → Bool) (c : LruCache K Verdict) (k : K) (v : Verdict) (least : ℕ) (new : Held)
      → AreEntries text least c.entries → IsKey (text k) → least ≤ v.commit → new ≡ put_entries same c k v
      → AreEntries text least new
  put_kept same c k v least new are key up is e has =
      elim (Contains-put_entries same c k v e (subst (λ (l : Held). Contains l e) is has)) [
        | inl there ↦ are e there
        | inr put ↦ (key_put same c k v least are key e put, subst (λ (x : Verdict). least ≤ x.commit) (sym put.0) up)
      ]

  pub lower_kept : (least lower : ℕ) (es : Held) → lower ≤ least → AreEntries text least es → AreEntries text lower es
  lower_kept least lower es below are e has =
      let up : least ≤ e.1.commit = (are e has).1 in
      ((are e has).0, omega arith)

  -- ---- the entry that was used last

  pub first_seen : (es : Held) (e : K × Verdict) → slice_get es 0 ≡ Some e → first_verdict (entries_of text es) ≡ Some e.1
  first_seen [] e h = cc
  first_seen (x ∷ es) e h = ap (λ o. option_map (λ (p : K × Verdict). p.1) o) h

  -- ---- what stands under a text is looked up, and is the first then

  module _ (key : List ℕ) (told : ℕ) (old new : LruCache K Verdict) where
    abbrev pub at : K → Bool
    at k = same_text key (text k)

    abbrev pub seen : LruCache K Verdict → Cache
    seen held = record { entries = entries_of text held.entries; most = held.cap; told = told }

    pub not_found : (found : Option Verdict) → lookup at old.entries ≡ found → if_not_older told found ≡ None
        → (asked : Asked) → IsOfNames asked → key ≡ key_text asked → answer_in asked (seen old) ≡ None
    not_found found is none asked names key_is =
        ap (if_not_older told) (sym (lookup-held text asked names.session names.question key key_is old.entries) ∙ is) ∙ none

    module _ (least : ℕ) (are : AreEntries text least old.entries) (after : new ≡ lru_cache (promoted at old.entries) old.cap) where
      found_one : (v : Verdict) → lookup at old.entries ≡ Some v → told ≤ v.commit → Recalls true key (seen old) (seen new)
      found_one v is up =
          let entry = Contains-lookup at old.entries v is in
          let named = (are (entry.0, v) entry.1).0 in
          let key_is : key ≡ key_text named.0 = same_text-≡ key (text entry.0) entry.2 ∙ named.2 in
          let answer : answer_in named.0 (seen old) ≡ Some v =
          ap (if_not_older told) (sym (lookup-held text named.0 named.1.session named.1.question key key_is old.entries) ∙ is)
          ∙ not_older told v up in
          let entries = ap (λ (held : LruCache K Verdict). entries_of text held.entries) after
          ∙ promoted-held text named.0 named.1.session named.1.question key key_is old.entries in
          (named.0, named.1, key_is, (v, answer), λ i. record { entries = entries i; most = (after i).cap; told = told })

      none_moved : lookup at old.entries ≡ None → seen new ≡ seen old
      none_moved is =
          ap seen (after ∙ ap (λ o. lru_cache (option_map_or (λ e. e ∷ remove_entry at old.entries) o old.entries) old.cap) (no_entry at old.entries is))

      by_lookup : (o : Option Verdict) → lookup at old.entries ≡ o → (found : Bool) → found ≡ is_some o
          → ((v : Verdict) → o ≡ Some v → told ≤ v.commit) → Recalls found key (seen old) (seen new)
      by_lookup None is found f up =
          subst (λ (b : Bool). Recalls b key (seen old) (seen new)) (sym f) (none_moved is, not_found None is refl)
      by_lookup (Some v) is found f up =
          subst (λ (b : Bool). Recalls b key (seen old) (seen new)) (sym f) (found_one v is (up v refl))

      pub recalls : (found : Bool) → found ≡ is_some (lookup at old.entries)
          → ((v : Verdict) → lookup at old.entries ≡ Some v → told ≤ v.commit) → Recalls found key (seen old) (seen new)
      recalls found f up = by_lookup (lookup at old.entries) refl found f up

      -- no entry is older
      pub fresh_all : told ≤ least → (v : Verdict) → lookup at old.entries ≡ Some v → told ≤ v.commit
      fresh_all below v is =
          let entry = Contains-lookup at old.entries v is in
          let up : least ≤ v.commit = (are (entry.0, v) entry.1).1 in
          omega arith

      -- the one that stands there is not older
      pub fresh_one : (w : Verdict) → lookup at old.entries ≡ Some w → told ≤ w.commit
          → (v : Verdict) → lookup at old.entries ≡ Some v → told ≤ v.commit
      fresh_one w is_w up v is_v =
          let both : Some w ≡ Some v = sym is_w ∙ is_v in
          let same : w ≡ v = cc in
          subst (λ (x : Verdict). told ≤ x.commit) same up
