use Rattle.std.proofs.Common.{◌+◌, ℕ, List, Vec, Global, ap, subst, sym, ◌∙◌}
use Rattle.cynara_keys.specs.declared.keys.Policy.{Policy}
use Rattle.bucket_store.proofs.RowChoice.{IsJoined, joined-next, joined-other}
use Rattle.bucket_store.proofs.row_copies.policies_besides.Goals as goal
use Rattle.bucket_store.proofs.row_copies.policies_besides.Goals.{then-is_next, else-is_next+in_ok-push_copy}

pub loop-at-preserved : goal.loop-at-preserved
loop-at-preserved c =
    let policies = c.args.policies.now in
    let places = c.args.places.now in
    let at = c.loop-at.at in
    let policy = c.index-policies-at.result in
    let before : IsJoined policies places c.loop-at.next at c.loop-at.copy.items =
    record { within = c.loop-at.invariant.within; joins = c.loop-at.invariant.joins } in
    let items = λ (copy : Vec Policy Global). copy.items in
    let after : IsJoined policies places c.if-is_next.next (at + 1) c.if-is_next.copy.items =
    elim c.if-is_next.branch [
      | then-is_next w ↦
          subst (λ (n : ℕ). IsJoined policies places n (at + 1) c.if-is_next.copy.items) (sym w.next-is)
          (subst (λ (copied : List Policy). IsJoined policies places (c.loop-at.next + 1) (at + 1) copied) (sym (ap items w.copy-is))
          (joined-next before policy c.loop-at-test.true c.index-policies-at.is (sym c.is_next.ensures ∙ w.if-is_next.true)))
      | else-is_next+in_ok-push_copy w ↦
          subst (λ (n : ℕ). IsJoined policies places n (at + 1) c.if-is_next.copy.items) (sym w.next-is)
          (subst (λ (copied : List Policy). IsJoined policies places c.loop-at.next (at + 1) copied)
          (sym (ap items w.copy-is ∙ w.in_ok-push_copy.ensures))
          (joined-other before policy c.loop-at-test.true c.index-policies-at.is (sym c.is_next.ensures ∙ w.if-is_next.false)))
    ] in
    record { within = after.within; joins = after.joins }
