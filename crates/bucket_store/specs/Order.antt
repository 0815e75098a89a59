-- The order of a database's lists.
use Rattle.std.specs.Prelude.{List, ◌∷◌, ◌++◌}
use Rattle.std.specs.declared.cmp.Ordering.{Ordering}
use Rattle.std.specs.List.{filter}
use Rattle.std.specs.Ordering.{on, then_cmp, is_lt, is_gt}
use Rattle.cynara_keys.specs.Text.{text_cmp}
use Rattle.cynara_keys.specs.Key.{key_cmp}
use Rattle.cynara_keys.specs.declared.keys.Policy.{Policy}
use Rattle.bucket_store.specs.Bucket.{Bucket}
use Rattle.bucket_store.specs.Database.{Heading, Placed}

abbrev pub policy_cmp : Policy → Policy → Ordering
policy_cmp = on (λ policy. policy.key) key_cmp

abbrev pub bucket_cmp : Bucket → Bucket → Ordering
bucket_cmp = on (λ bucket. bucket.name) text_cmp

abbrev pub heading_cmp : Heading → Heading → Ordering
heading_cmp = on (λ heading. heading.name) text_cmp

-- by the bucket's name, and then by key
abbrev pub placed_cmp : Placed → Placed → Ordering
placed_cmp = then_cmp (on (λ placed. placed.bucket) text_cmp) (on (λ placed. placed.policy) policy_cmp)

-- the elements that come before this one, then this one, then those that come behind it
abbrev pub put : {X : Type 0} → (X → X → Ordering) → X → List X → List X
put cmp element list =
    filter (λ other. is_lt (cmp other element)) list
    ++ element ∷ filter (λ other. is_gt (cmp other element)) list
