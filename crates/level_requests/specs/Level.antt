-- The words of levels.
use Rattle.std.specs.Prelude.{ℕ, List, [], ◌∷◌, Option, find, codes}
use Rattle.cynara_keys.specs.Text.{same_text}
use Rattle.level_requests.specs.declared.levels.Level.{Level}
use Rattle.level_requests.specs.declared.levels.Level.TheVariants.{Allow, Ask, Deny, Unset}

abbrev pub level_text : Level → List ℕ
level_text Allow = codes "allow"
level_text Ask = codes "ask"
level_text Deny = codes "deny"
level_text Unset = codes "unset"

-- the level of a word, if it is the word of one
unfoldable pub level_at : List ℕ → Option Level
level_at text = find (λ level. same_text text (level_text level)) (Allow ∷ Ask ∷ Deny ∷ Unset ∷ [])
