-- Changes of one bucket in the order of their keys.
use Rattle.std.specs.Prelude.{◌≡◌, Bool, false, List, [], ◌∷◌}
use Rattle.std.specs.List.{AllByRecursion}
use Rattle.std.specs.Ordering.{is_lt, is_gt}
use Rattle.cynara_keys.specs.Key.{key_cmp}
use Rattle.bucket_store.specs.parts.Batch.{key_of}
use Rattle.bucket_store.specs.declared.policy_changes.Change.{Change}

-- no change's key comes behind that of a later one
abbrev pub AreInOrder : List Change → Type 0
AreInOrder [] = Unit {0}
AreInOrder (change ∷ changes) =
    AllByRecursion (λ later. is_gt (key_cmp (key_of change) (key_of later)) ≡ false) changes × AreInOrder changes

-- whether the one change's key comes before the other's
abbrev pub comes_first : Change → Change → Bool
comes_first one other = is_lt (key_cmp (key_of one) (key_of other))
