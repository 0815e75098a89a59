use Rattle.std.proofs.Common.{◌∷◌, [], sym, ap, ◌∙◌}
use Rattle.smack_rules.specs.parts.Changes.{modes_after, ChangeAlike}
use Rattle.smack_rules.proofs.ChangeLists.{modes_after-append}
use Rattle.smack_rules.proofs.changes.Changes.follow.Goals as goal
use Rattle.smack_rules.proofs.changes.Changes.follow.Goals.{then-len-self+in_ok-join, else-len-self}

-- the changes so far, joined or not, make the same
pub returns : goal.returns
returns c =
    let old = c.args.self.now.changes.items in
    let kept = c.if-len-self.self.changes.items in
    let more = c.args.change ∷ [] in
    let alike : ChangeAlike kept old =
    elim c.if-len-self.branch [
      | then-len-self+in_ok-join w ↦ λ s o modes. ap (λ self. modes_after self.changes.items s o modes) w.self-is
          ∙ w.in_ok-join.ensures.same s o modes
      | else-len-self w ↦ λ s o modes. ap (λ self. modes_after self.changes.items s o modes) w.self-is
    ] in
    λ s o modes. ap (λ changes. modes_after changes s o modes) c.in_ok-push.ensures.items
    ∙ modes_after-append kept more s o modes ∙ ap (modes_after more s o) (alike s o modes)
    ∙ sym (modes_after-append old more s o modes)
