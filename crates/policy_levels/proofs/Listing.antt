-- A listing of a bucket that is there is refused for want of memory alone; and its rows, one by one.
use Rattle.std.proofs.Common.{◌≡◌, ◌+◌, ◌<◌, ℕ, true, List, [], ◌∷◌, ◌++◌, length, take, get_or, Option, Some, None, refl, sym, ap, ◌∙◌}
use Rattle.std.specs.List.{cons_option}
use Rattle.std.specs.Option.{option_to_list}
use Rattle.std.proofs.lemmas.List.{take_more}
use Rattle.std.proofs.lemmas.List.Elements.{filter_map-append}
use Rattle.cynara_keys.specs.declared.keys.Policy.{Policy}
use Rattle.bucket_store.specs.Database.{Database, has_bucket}
use Rattle.bucket_store.specs.Refusal.{Refuses, list}
use Rattle.bucket_store.specs.WellFormed.{IsSound}
use Rattle.bucket_store.specs.declared.refusals.StoreRefusal.{StoreRefusal}
use Rattle.bucket_store.specs.declared.refusals.StoreRefusal.TheVariants.{NoBucket, RootBucket, BadKind, Limit, Cycle, Memory}
use Rattle.bucket_store.proofs.Sound.{fault-found}
use Rattle.policy_levels.specs.Levels.{row_in, levels_among}
use Rattle.policy_levels.specs.declared.rows.LevelRow.{LevelRow}
use Rattle.policy_levels.specs.parts.Listing.{WantsMemory}

module _ (name : List ℕ) (database : Database) (sound : IsSound database) (there : has_bucket name database ≡ true) where
  pub memory-alone : (refusal : StoreRefusal) → Refuses database (list name database) refusal → WantsMemory refusal
  memory-alone (Memory error) refused = tt
  memory-alone (NoBucket bucket) refused = let none = sym refused ∙ fault-found name database database there sound in cc
  memory-alone RootBucket refused = let none = sym refused ∙ fault-found name database database there sound in cc
  memory-alone (BadKind kind) refused = let none = sym refused ∙ fault-found name database database there sound in cc
  memory-alone (Limit counted most) refused = let none = sym refused ∙ fault-found name database database there sound in cc
  memory-alone (Cycle bucket) refused = let none = sym refused ∙ fault-found name database database there sound in cc

-- the row of one policy, if it is one
alone : (row : Option LevelRow) → cons_option row [] ≡ option_to_list row
alone None = refl
alone (Some row) = refl

-- one policy more
pub levels-more : (policies : List Policy) (at : ℕ) (policy : Policy) → at < length policies → policy ≡ get_or policies at policy
    → levels_among (take (at + 1) policies) ≡ levels_among (take at policies) ++ option_to_list (row_in policy)
levels-more policies at policy within is =
    ap levels_among (take_more policies at policy within ∙ ap (λ p. take at policies ++ p ∷ []) (sym is))
    ∙ filter_map-append row_in (take at policies) (policy ∷ [])
    ∙ ap (λ rows. levels_among (take at policies) ++ rows) (alone (row_in policy))
