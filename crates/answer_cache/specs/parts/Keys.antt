-- The texts that entries are kept under.
use Rattle.std.specs.Prelude.{◌≡◌, ◌≤◌, ℕ, nat_eq, if◌then◌else◌, List, [], ◌∷◌, map, Contains}
use Rattle.bucket_eval.specs.declared.answers.Verdict.{Verdict}
use Rattle.answer_cache.specs.Cache.{Asked, IsOfNames, key_text}

-- what stands in front of the first space
abbrev pub front : List ℕ → List ℕ
front [] = []
front (byte ∷ bytes) = if nat_eq 32 byte then [] else byte ∷ front bytes

-- what stands behind it
abbrev pub behind : List ℕ → List ℕ
behind [] = []
behind (byte ∷ bytes) = if nat_eq 32 byte then bytes else behind bytes

-- what an entry with this key answers
abbrev pub asked_of : List ℕ → Asked
asked_of key = record {
  session = front key;
  question = record {
    client = front (behind key);
    user = front (behind (behind key));
    privilege = behind (behind (behind key));
  };
}

abbrev pub entries_of : {K : Type 0} → (K → List ℕ) → List (K × Verdict) → List (Asked × Verdict)
entries_of text held = map (λ e. (asked_of (text e.0), e.1)) held

-- four names in one text
abbrev pub IsKey : List ℕ → Type 0
IsKey key = (asked : Asked) × IsOfNames asked × (key ≡ key_text asked)

-- Each entry stands under the text of four names, and none is of a commit below this one.
abbrev pub AreEntries : {K : Type 0} → (K → List ℕ) → ℕ → List (K × Verdict) → Type 0
AreEntries {K = K} text least held = (e : K × Verdict) → Contains held e → IsKey (text e.0) × (least ≤ e.1.commit)
