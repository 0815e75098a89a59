use Rattle.std.proofs.Common.{◌≡◌, ◌+◌, ◌++◌, ◌∷◌, [], List, ℕ, None, length, map, refl, sym, ap, ◌∙◌, subst}
use Rattle.std.specs.List.{position}
use Rattle.cynara_keys.specs.Text.{same_text}
use Rattle.bucket_eval.specs.parts.Numbers.{KeepsNumbers}
use Rattle.bucket_eval.proofs.Growing.{appended, kept-behind, not-behind, number-behind}
use Rattle.bucket_eval.proofs.names.Names.add.Goals as goal
use Rattle.bucket_eval.proofs.names.Names.add.Goals.{After-small-2}

module _ (c : After-small-2) where
  -- it was not there
  none : None ≡ position (same_text c.args.text.now) (map (λ v. v.items) (c.self.inside.front.value.keys ++ c.self.inside.behind.keys))
  none = sym c.in_default.is ∙ c.place.ensures ∙ ap (λ (names : List (List ℕ)). position (same_text c.args.text.now) names) (sym c.self.view_is)

  -- one more
  more : c.insert.new.self.keys ≡ c.self.inside.behind.keys ++ c.in_ok-text.text ∷ []
  more =
      appended (λ v. v.items) _ (λ x y. refl) c.self.inside.behind.keys c.insert.new.self.keys c.in_ok-text.text
      c.args.text.now c.in_ok-text.ensures.items
      (not-behind (λ v. v.items) c.self.inside.front.value.keys c.self.inside.behind.keys c.args.text.now none)
      c.in_ok-insert.ensures.keys

pub returns-clause-is : goal.returns-clause-is
returns-clause-is c =
    c.small-2.ensures.is
    ∙ number-behind (λ v. v.items) c.self.inside.front.value.keys c.self.inside.behind.keys c.insert.new.self.keys
    c.in_ok-text.text (more c) c.args.text.now _ (λ i. (c.len-front.ensures.len ∙ (λ j. length ((c.deref.ensures j).keys))) i + c.len-behind.ensures.len i)
    c.in_ok-text.ensures.items (none c)

pub returns-clause-kept : goal.returns-clause-kept
returns-clause-kept c =
    subst (λ old. KeepsNumbers old (map (λ v. v.items) (c.self.inside.front.value.keys ++ c.insert.new.self.keys))) c.self.view_is
    (kept-behind (λ v. v.items) c.self.inside.front.value.keys c.self.inside.behind.keys c.insert.new.self.keys
    c.in_ok-text.text (more c))
