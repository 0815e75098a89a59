-- Calls of `ask` in turn, and what a hall counts of them.
use Rattle.std.proofs.Common.{◌≡◌, ◌∙◌, List, [], ◌∷◌, ◌++◌, Option, refl, sym, ap, append_assoc, append-nil}
use Rattle.std.proofs.lemmas.Grind.{flat_map-append}
use Rattle.std.specs.List.{AllByRecursion}
use Rattle.server_hall.specs.Call.{AskMade}
use Rattle.server_hall.specs.Tally.{Tally, after_ask}
use Rattle.server_hall.specs.Told.{AppendsCalls}
use Rattle.server_hall.specs.declared.calls.HallCall.{HallCall}
use Rattle.client_door.specs.Answered.{Answered, IsRight, call_list, calls_for, after_asks, reply_bytes, replies_bytes}

pub after_asks_more : (calls more : List AskMade) (tally : Tally)
    → after_asks (calls ++ more) tally ≡ after_asks more (after_asks calls tally)
after_asks_more [] more tally = refl
after_asks_more (call ∷ calls) more tally = after_asks_more calls more (after_ask call tally)

pub calls_same : (told : Option (List HallCall)) → AppendsCalls told [] told
calls_same told after is = (after, is, sym (append-nil after))

pub calls_more : (first more : List HallCall) (start between end : Option (List HallCall))
    → AppendsCalls start first between → AppendsCalls between more end → AppendsCalls start (first ++ more) end
calls_more first more start between end one two after is =
    let then = two after is in
    let before = one then.0 then.1 in
    (before.0, before.1, then.2 ∙ (ap (λ list. list ++ more) before.2 ∙ append_assoc before.0 first more))

-- ---- of checks that were answered

pub calls_for_snoc : (answered : List Answered) (next : Answered)
    → calls_for (answered ++ next ∷ []) ≡ calls_for answered ++ call_list next.call
calls_for_snoc answered next =
    flat_map-append (λ (one : Answered). call_list one.call) answered (next ∷ [])
    ∙ ap (λ list. calls_for answered ++ list) (append-nil (call_list next.call))

pub calls_for_more : (answered more : List Answered) → calls_for (answered ++ more) ≡ calls_for answered ++ calls_for more
calls_for_more answered more = flat_map-append (λ (one : Answered). call_list one.call) answered more

pub replies_snoc : (answered : List Answered) (next : Answered)
    → replies_bytes (answered ++ next ∷ []) ≡ replies_bytes answered ++ reply_bytes next
replies_snoc answered next =
    flat_map-append reply_bytes answered (next ∷ []) ∙ ap (λ list. replies_bytes answered ++ list) (append-nil (reply_bytes next))

pub replies_more : (answered more : List Answered) → replies_bytes (answered ++ more) ≡ replies_bytes answered ++ replies_bytes more
replies_more answered more = flat_map-append reply_bytes answered more

pub all_right_more : (answered more : List Answered) → AllByRecursion IsRight answered → AllByRecursion IsRight more
    → AllByRecursion IsRight (answered ++ more)
all_right_more [] more first others = others
all_right_more (one ∷ answered) more (first, rest) others = (first, all_right_more answered more rest others)

pub front_right : (answered more : List Answered) → AllByRecursion IsRight (answered ++ more) → AllByRecursion IsRight answered
front_right [] more all = tt
front_right (one ∷ answered) more (first, rest) = (first, front_right answered more rest)
