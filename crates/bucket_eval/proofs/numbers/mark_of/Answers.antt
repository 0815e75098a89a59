use Rattle.std.proofs.Common.{◌≡◌, ℕ, Option, None, Some, IfSome, refl, sym, ap, ◌∙◌}
use Rattle.bucket_eval.specs.parts.Numbers.{mark_of, number_of}
use Rattle.bucket_eval.proofs.Marks.{mark-made}
use Rattle.bucket_eval.proofs.Tabling.{numbers-more}
use Rattle.bucket_eval.proofs.numbers.mark_of.Goals as goal

if-some : (P : ℕ → Type 0) (o : Option ℕ) → ((x : ℕ) → o ≡ Some x → P x) → IfSome o P
if-some P None holds = tt
if-some P (Some x) holds = holds x refl

pub returns-clause-is : goal.returns-clause-is
returns-clause-is c =
    if-some (λ one. mark_of c.add-3.new.self c.args.key.now ≡ Some one) c.join-mark.result
    (λ one is. mark-made c.add.new.self c.add-2.new.self c.add-3.new.self c.in_ok-client.client
    c.in_ok-user.user c.in_ok-privilege.privilege c.args.key.now one
    (c.in_ok-client.ensures.is ∙ ap (number_of c.add.new.self) c.client.ensures.text)
    (c.in_ok-user.ensures.is ∙ ap (number_of c.add-2.new.self) c.user.ensures.text)
    (c.in_ok-privilege.ensures.is ∙ ap (number_of c.add-3.new.self) c.privilege.ensures.text) c.in_ok-user.ensures.kept
    c.in_ok-privilege.ensures.kept (sym c.join-mark.ensures ∙ is))

pub returns-clause-kept : goal.returns-clause-kept
returns-clause-kept c =
    numbers-more c.args.names.now c.add.new.self c.add-3.new.self c.in_ok-client.ensures.kept
    (numbers-more c.add.new.self c.add-2.new.self c.add-3.new.self c.in_ok-user.ensures.kept c.in_ok-privilege.ensures.kept)
