-- What a client keeps of the answers that it was given.
use Rattle.std.specs.Prelude.{◌≡◌, ℕ, Bool, true, false, ◌-◌, ◌&&◌, nat_le, if◌then◌else◌, List, [], ◌∷◌, ◌++◌, take}
use Rattle.std.specs.Prelude.{Option, Some, None}
use Rattle.std.specs.Map.{lookup, remove_entry}
use Rattle.lru.specs.LruCache.{promoted}
use Rattle.cynara_keys.specs.Text.{same_text}
use Rattle.cynara_keys.specs.Key.{Question, same_question}
use Rattle.cynara_keys.specs.Name.{name_fault}
use Rattle.cynara_keys.specs.parts.Named.{HasNames}
use Rattle.bucket_eval.specs.declared.answers.Verdict.{Verdict}

-- what an entry answers: a question, asked in a session
pub record Asked : Type 0 where
  pub session : List ℕ
  pub question : Question

abbrev pub asked_in : List ℕ → Question → Asked
asked_in session question = record { session = session; question = question }

-- the same question in the same session
abbrev pub same_asked : Asked → Asked → Bool
same_asked asked other = same_text asked.session other.session && same_question asked.question other.question

-- four names
pub record IsOfNames (asked : Asked) : Type 0 where
  pub session : name_fault asked.session ≡ None
  pub question : HasNames asked.question

-- The four names as one text, with a space between each two. No name has a space in it.
abbrev pub key_text : Asked → List ℕ
key_text asked =
    asked.session ++ (32 ∷ (asked.question.client ++ (32 ∷ (asked.question.user ++ (32 ∷ asked.question.privilege)))))

-- The entries, the most recently used first; how many there may be; and the greatest commit that the client was told
-- of.
pub record Cache : Type 0 where
  pub entries : List (Asked × Verdict)
  pub most : ℕ
  pub told : ℕ

abbrev pub empty_cache : ℕ → Cache
empty_cache most = record { entries = []; most = most; told = 0 }

abbrev pub with_entries : List (Asked × Verdict) → Cache → Cache
with_entries entries cache = record cache { entries = entries }

-- the verdict where it is not older than the commit that the client was told of
abbrev pub if_not_older : ℕ → Option Verdict → Option Verdict
if_not_older told None = None
if_not_older told (Some verdict) = if nat_le told verdict.commit then Some verdict else None

-- what the cache answers
abbrev pub answer_in : Asked → Cache → Option Verdict
answer_in asked cache = if_not_older cache.told (lookup (same_asked asked) cache.entries)

-- the entry is the most recently used
abbrev pub used : Asked → Cache → Cache
used asked cache = with_entries (promoted (same_asked asked) cache.entries) cache

-- the verdict of the entry that was used last
abbrev pub first_verdict : List (Asked × Verdict) → Option Verdict
first_verdict [] = None
first_verdict (entry ∷ entries) = Some entry.1

abbrev pub newest : Cache → Option Verdict
newest cache = first_verdict cache.entries

-- What is kept under the text of four names is found and used; or nothing is kept under it that is not older than what
-- the client was told.
abbrev pub Recalls : Bool → List ℕ → Cache → Cache → Type 0
Recalls true text old new =
    (asked : Asked) × IsOfNames asked × (text ≡ key_text asked)
    × ((verdict : Verdict) × (answer_in asked old ≡ Some verdict))
    × (new ≡ used asked old)
Recalls false text old new =
    (new ≡ old) × ((asked : Asked) → IsOfNames asked → text ≡ key_text asked → answer_in asked old ≡ None)

-- there is no entry for it
abbrev pub without : Asked → Cache → Cache
without asked cache = with_entries (remove_entry (same_asked asked) cache.entries) cache

-- The verdict is kept: an older entry goes, the new one is first, and the last goes where there would be too many.
abbrev pub kept : Asked → Verdict → Cache → Cache
kept asked verdict cache =
    with_entries ((asked, verdict) ∷ take (cache.most - 1) (without asked cache).entries) cache
