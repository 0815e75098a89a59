-- The names that keys name, key by key.
use Rattle.std.proofs.Common.{◌≡◌, ◌+◌, ◌<◌, ℕ, List, [], ◌∷◌, ◌++◌, length, take, get_or, Option, Some, None, refl}
use Rattle.std.proofs.Common.{sym, ap, ◌∙◌}
use Rattle.std.specs.List.{cons_option, filter_map}
use Rattle.std.specs.Option.{option_to_list}
use Rattle.std.proofs.lemmas.List.{take_more}
use Rattle.std.proofs.lemmas.List.Elements.{filter_map-append}
use Rattle.cynara_keys.specs.Key.{Key}

-- one name, if it is one
alone : (name : Option (List ℕ)) → cons_option name [] ≡ option_to_list name
alone None = refl
alone (Some name) = refl

-- one key more
pub names-more : (reading : Key → Option (List ℕ)) (keys : List Key) (at : ℕ) (key : Key) → at < length keys
    → key ≡ get_or keys at key
    → filter_map reading (take (at + 1) keys) ≡ filter_map reading (take at keys) ++ option_to_list (reading key)
names-more reading keys at key within is =
    ap (filter_map reading) (take_more keys at key within ∙ ap (λ k. take at keys ++ k ∷ []) (sym is))
    ∙ filter_map-append reading (take at keys) (key ∷ [])
    ∙ ap (λ names. filter_map reading (take at keys) ++ names) (alone (reading key))
