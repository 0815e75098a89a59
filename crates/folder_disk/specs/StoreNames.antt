-- The names by which a folder is known to be a store, or to be none.
use Rattle.std.specs.Prelude.{ℕ, Bool, not, ◌&&◌, ◌||◌, nat_eq, List, [], ◌∷◌}
use Rattle.std.specs.List.{list_any, starts_with, ends_with}
use Rattle.std.specs.Str.{bytes_eq}
use lib.Chars.{codes}

-- One of these two stands in every store, at rest and after a stop.
unfoldable pub is_mark : List ℕ → Bool
is_mark name = bytes_eq name (codes "list") || bytes_eq name (codes "guard")

-- The files of a policy state: five by their whole name, those of buckets by `_`, those of packages by `r.`. A name
-- that ends with `~` is a backup's, and stands in a store without a mark too.
unfoldable pub is_primary : List ℕ → Bool
is_primary name =
    (list_any (bytes_eq name) (codes "stamp" ∷ codes "buckets" ∷ codes "users" ∷ codes "apps" ∷ codes "template" ∷ [])
    || (starts_with nat_eq name (codes "_") || starts_with nat_eq name (codes "r.")))
    && not (ends_with nat_eq name (codes "~"))
