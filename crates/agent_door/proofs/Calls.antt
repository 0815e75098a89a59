-- Calls on a hall in turn.
use Rattle.std.proofs.Common.{◌≡◌, ◌∙◌, List, [], ◌∷◌, ◌++◌, Option, refl, sym, ap, append_assoc, append-nil}
use Rattle.server_hall.specs.Tally.{Tally, after_call, after_calls}
use Rattle.server_hall.specs.Told.{AppendsCalls}
use Rattle.server_hall.specs.declared.calls.HallCall.{HallCall}

pub after_calls_more : (calls more : List HallCall) (tally : Tally)
    → after_calls (calls ++ more) tally ≡ after_calls more (after_calls calls tally)
after_calls_more [] more tally = refl
after_calls_more (call ∷ calls) more tally = after_calls_more calls more (after_call call tally)

pub calls_same : (told : Option (List HallCall)) → AppendsCalls told [] told
calls_same told after is = (after, is, sym (append-nil after))

pub calls_more : (first more : List HallCall) (start between end : Option (List HallCall))
    → AppendsCalls start first between → AppendsCalls between more end → AppendsCalls start (first ++ more) end
calls_more first more start between end one two after is =
    let then = two after is in
    let before = one then.0 then.1 in
    (before.0, before.1, then.2 ∙ (ap (λ list. list ++ more) before.2 ∙ append_assoc before.0 first more))
