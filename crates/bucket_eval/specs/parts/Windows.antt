-- The places of a bucket's policies that a question can match.
use Rattle.std.specs.Prelude.{◌≡◌, ◌<◌, ◌≤◌, ◌⊎◌, ℕ, Bool, false, List, length, get_or}
use Rattle.std.specs.Ordering.{is_gt}
use Rattle.cynara_keys.specs.Field.{field_text}
use Rattle.cynara_keys.specs.Key.{key_matches}
use Rattle.cynara_keys.specs.Text.{same_text, text_cmp}
use Rattle.cynara_keys.specs.declared.keys.Policy.{Policy}
use Rattle.cynara_keys.specs.Key.{Question}
use Rattle.bucket_eval.specs.declared.windows.Window.{Window}

-- a place that is not in the window
abbrev pub IsOutside : Window → ℕ → Type 0
IsOutside window place = (place < window.start) ⊎ (window.end ≤ place)

-- no policy outside of the window passes the test
abbrev pub FailsOutside : (Policy → Bool) → Window → List Policy → Type 0
FailsOutside test window policies =
    (place : ℕ) (d : Policy) → place < length policies → IsOutside window place → test (get_or policies place d) ≡ false

abbrev pub client_of : Policy → List ℕ
client_of policy = field_text policy.key.client

abbrev pub has_client : List ℕ → Policy → Bool
has_client client policy = same_text (client_of policy) client

abbrev pub matches : Question → Policy → Bool
matches question policy = key_matches policy.key question

-- what is outside of the window is outside of both others
abbrev pub Covers : Window → Window → Window → Type 0
Covers window one other = (place : ℕ) → IsOutside window place → IsOutside one place × IsOutside other place

-- ---- the order of clients

abbrev pub comes_before : List ℕ → Policy → Bool
comes_before client policy = is_gt (text_cmp client (client_of policy))
