-- The labels of installs, made one behind the other.
use Rattle.std.proofs.Common.{◌≡◌, ℕ, ◌-◌, Bool, true, false, cond, List, [], ◌∷◌, ◌++◌, map, slice_get, length, refl, sym, ap, ◌∙◌, arith}
use Rattle.std.specs.List.{dedup, dedup_from}
use Rattle.std.proofs.lemmas.Cmp.{nat_list_eq_equiv}
use Rattle.std.proofs.lemmas.List.{map-append}
use Rattle.cynara_keys.specs.Text.{same_text}
use Rattle.app_registry.specs.Label.{install_label}
use Rattle.app_registry.specs.declared.installs.Install.{Install}
use Rattle.rule_templates.specs.Processes.{distinct_labels}
use Rattle.rule_templates.specs.parts.Last.{ends_with, last_of, tail_of}

-- a list that has a first element
record Some-first (labels : List (List ℕ)) : Type 0 where
  first : List ℕ
  others : List (List ℕ)
  parts : labels ≡ first ∷ others

last_of-more : (label next : List ℕ) (labels : List (List ℕ)) → last_of (label ∷ next ∷ labels) ≡ last_of (next ∷ labels)
last_of-more label next labels =
    let long : length (label ∷ next ∷ labels) - 1 ≡ length (next ∷ labels) = omega arith in
    let short : length (next ∷ labels) - 1 ≡ length labels = omega arith in
    ap (λ (n : ℕ). slice_get (label ∷ next ∷ labels) n) long ∙ sym (ap (λ (n : ℕ). slice_get (next ∷ labels) n) short)

from-some : (label : List ℕ) (labels : List (List ℕ)) → Some-first (dedup_from same_text label labels)
from-some label [] = record { first = label; others = []; parts = refl }
from-some label (next ∷ labels) = by (from-some label labels) (same_text next label)
  where
    by : Some-first (dedup_from same_text label labels) → (b : Bool)
        → Some-first (cond b (dedup_from same_text label labels) (label ∷ dedup_from same_text next labels))
    by later true = later
    by later false = record { first = label; others = dedup_from same_text next labels; parts = refl }

last-behind : (label : List ℕ) (labels : List (List ℕ)) → Some-first labels → last_of (label ∷ labels) ≡ last_of labels
last-behind label labels some =
    ap (λ list. last_of (label ∷ list)) some.parts ∙ last_of-more label some.first some.others
    ∙ sym (ap last_of some.parts)

from-snoc : (key : List ℕ) (labels : List (List ℕ)) (label : List ℕ)
    → dedup_from same_text key (labels ++ label ∷ [])
    ≡ dedup_from same_text key labels ++ tail_of (dedup_from same_text key labels) label
from-snoc key [] label =
    ap (λ b. cond b (key ∷ []) (key ∷ label ∷ [])) (nat_list_eq_equiv.symm label key) ∙ by (same_text key label)
  where
    by : (b : Bool) → cond b (key ∷ []) (key ∷ label ∷ []) ≡ key ∷ cond b [] (label ∷ [])
    by true = refl
    by false = refl
from-snoc key (next ∷ labels) label = by (from-snoc key labels label) (from-snoc next labels label) (same_text next key)
  where
    by : dedup_from same_text key (labels ++ label ∷ [])
        ≡ dedup_from same_text key labels ++ tail_of (dedup_from same_text key labels) label
        → dedup_from same_text next (labels ++ label ∷ [])
        ≡ dedup_from same_text next labels ++ tail_of (dedup_from same_text next labels) label → (b : Bool)
        → cond b (dedup_from same_text key (labels ++ label ∷ [])) (key ∷ dedup_from same_text next (labels ++ label ∷ []))
        ≡ cond b (dedup_from same_text key labels) (key ∷ dedup_from same_text next labels)
        ++ tail_of (cond b (dedup_from same_text key labels) (key ∷ dedup_from same_text next labels)) label
    by own later true = own
    by own later false =
        ap (λ list. key ∷ list) later
        ∙ ap (λ last. key ∷ (dedup_from same_text next labels ++ cond (ends_with last label) [] (label ∷ [])))
        (sym (last-behind key (dedup_from same_text next labels) (from-some next labels)))

each-once-snoc : (labels : List (List ℕ)) (label : List ℕ)
    → dedup same_text (labels ++ label ∷ []) ≡ dedup same_text labels ++ tail_of (dedup same_text labels) label
each-once-snoc [] label = refl
each-once-snoc (first ∷ labels) label = from-snoc first labels label

-- the labels of installs with one more behind them
pub labels-snoc : (installs : List Install) (install : Install)
    → distinct_labels (installs ++ install ∷ []) ≡ distinct_labels installs ++ tail_of (distinct_labels installs) (install_label install)
labels-snoc installs install =
    ap (dedup same_text) (map-append install_label installs (install ∷ []))
    ∙ each-once-snoc (map install_label installs) (install_label install)
