-- What went over a link, call after call.
use Rattle.std.proofs.Common.{◌≡◌, ◌∙◌, ℕ, List, [], ◌∷◌, ◌++◌, take, Option, Some, refl, sym, ap, subst, append_assoc, append-nil}
use Rattle.link_ports.specs.Told.{KeepsTold, ChangesTold}
use Rattle.link_ports.specs.Traffic.{Traffic, with_received, with_sent}
use Rattle.door_frames.specs.Carried.{Carried}

pub take_none : (xs : List ℕ) → take 0 xs ≡ []
take_none [] = refl
take_none (x ∷ xs) = refl

-- nothing went over it
pub carried_nothing : (old new : Option Traffic) → KeepsTold old new → Carried old new [] []
carried_nothing old new kept before told =
    let received = append-nil before.received in
    let sent = append-nil before.sent in
    kept before told ∙ ap Some (λ i. record { received = sym received i; sent = sym sent i })

-- a call that is none leaves all as it was
pub carried_same : (told : Option Traffic) → Carried told told [] []
carried_same told = carried_nothing told told (λ before is. is)

-- a call received these bytes
pub carried_received : (bytes : List ℕ) (old new : Option Traffic) → ChangesTold old (with_received bytes) new → Carried old new bytes []
carried_received bytes old new changed before told =
    let sent = append-nil before.sent in
    changed before told ∙ ap Some (λ i. record { received = before.received ++ bytes; sent = sym sent i })

-- a call received none
pub carried_none : (bytes : List ℕ) (old new : Option Traffic) → bytes ≡ [] → ChangesTold old (with_received bytes) new → Carried old new [] []
carried_none bytes old new is changed =
    subst (λ list. Carried old new list []) is (carried_received bytes old new changed)

-- what went over it then went over it behind what had
pub carried_more : (first more one other : List ℕ) (start between end : Option Traffic)
    → Carried start between first one → Carried between end more other → Carried start end (first ++ more) (one ++ other)
carried_more first more one other start between end before_is then_is before told =
    let received = append_assoc before.received first more in
    let sent = append_assoc before.sent one other in
    then_is (record { received = before.received ++ first; sent = before.sent ++ one }) (before_is before told)
    ∙ ap Some (λ i. record { received = received i; sent = sent i })
