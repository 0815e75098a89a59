-- The committed states: what was published stands among them, under its commit.
use Rattle.std.proofs.Common.{◌≡◌, ◌∙◌, ◌<◌, ◌≤◌, ◌+◌, ℕ, true, cond, List, [], ◌∷◌, ◌++◌, Some, refl, sym, ap, subst, append_assoc, arith}
use Rattle.std.specs.List.{AllByRecursion}
use Rattle.std.proofs.lemmas.Bool.{eq-eqb, ne_eqb}
use Rattle.desk_state.specs.DeskState.{DeskState}
use Rattle.live_desk.specs.History.{Rises, RisesFrom, last_commit}
use Rattle.live_desk.proofs.Looks.{last_behind}
use Rattle.client_door.specs.Answered.{StandsIn}
use Rattle.client_door.proofs.Published.{reads_between, read_from}
use Rattle.desk_world.specs.World.{desk_at, latest_of}
use Rattle.desk_world.specs.Kept.{IsChain}
use Rattle.desk_world.specs.Links.{may_read}

-- ---- commits rise

-- each is above this one
abbrev AllAbove : ℕ → List DeskState → Type 0
AllAbove low desks = AllByRecursion (λ (desk : DeskState). low < desk.commit) desks

above_more : (low high : ℕ) (desks : List DeskState) → low ≤ high → AllAbove high desks → AllAbove low desks
above_more low high [] le all = tt
above_more low high (desk ∷ desks) le all = let first = all.0 in (omega (arith, first, le), above_more low high desks le all.1)

chain_above : (desk : DeskState) (later : List DeskState) → IsChain desk later → AllAbove desk.commit later
chain_above desk [] chain = tt
chain_above desk (next ∷ later) chain =
    let up : next.commit ≡ desk.commit + 1 = ap (λ (d : DeskState). d.commit) chain.0.next in
    (omega (arith, up), above_more desk.commit next.commit later (omega (arith, up)) (chain_above next later chain.1))

above_at : (low : ℕ) (front : List DeskState) (desk : DeskState) (back desks : List DeskState) → desks ≡ front ++ desk ∷ back
    → AllAbove low desks → low < desk.commit
above_at low [] desk back desks is all = (subst (AllAbove low) is all).0
above_at low (x ∷ front) desk back desks is all =
    above_at low front desk back (front ++ desk ∷ back) refl (subst (AllAbove low) is all).1

-- a state that stands in a chain is the one of its commit there
found_at : (first : DeskState) (later front : List DeskState) (desk : DeskState) (back : List DeskState) → IsChain first later
    → first ∷ later ≡ front ++ desk ∷ back → desk_at desk.commit (first ∷ later) ≡ Some desk
found_at first later [] desk back chain is =
    let same : first ≡ desk = cc in
    ap (λ b. cond b (Some first) (desk_at desk.commit later)) (eq-eqb first.commit desk.commit (ap (λ (d : DeskState). d.commit) same))
    ∙ ap (λ (d : DeskState). Some d) same
found_at first [] (x ∷ []) desk back chain is = absurd (cc is)
found_at first [] (x ∷ (y ∷ front)) desk back chain is = absurd (cc is)
found_at first (next ∷ later) (x ∷ front) desk back chain is =
    let rest : next ∷ later ≡ front ++ desk ∷ back = cc in
    let above = above_at first.commit front desk back (next ∷ later) rest (chain_above first (next ∷ later) chain) in
    ap (λ b. cond b (Some first) (desk_at desk.commit (next ∷ later)))
    (ne_eqb first.commit desk.commit (λ same. absurd (omega (arith, above, same))))
    ∙ found_at next later front desk back chain.1 rest

pub stands_at : (first : DeskState) (later earlier published more : List DeskState) (desk : DeskState) → IsChain first later
    → first ∷ later ≡ earlier ++ (published ++ more) → StandsIn desk published → desk_at desk.commit (first ∷ later) ≡ Some desk
stands_at first later earlier published more desk chain is (front, back, here) =
    found_at first later (earlier ++ front) desk (back ++ more) chain
    (is ∙ (ap (λ (list : List DeskState). earlier ++ (list ++ more)) here
    ∙ (ap (λ (list : List DeskState). earlier ++ list) (append_assoc front (desk ∷ back) more)
    ∙ sym (append_assoc earlier front (desk ∷ (back ++ more))))))

-- ---- the last of the published states

low_last : (low : ℕ) (desks : List DeskState) → RisesFrom low desks → low ≤ last_commit low desks
low_last low [] rises = omega arith
low_last low (desk ∷ desks) rises = let first = rises.0 in let rest = low_last desk.commit desks rises.1 in omega (arith, first, rest)

last_grows_from : (low : ℕ) (seen more : List DeskState) → RisesFrom low (seen ++ more) → last_commit low seen ≤ last_commit low (seen ++ more)
last_grows_from low [] more rises = low_last low more rises
last_grows_from low (desk ∷ seen) more rises = last_grows_from desk.commit seen more rises.1

last_grows : (seen more : List DeskState) → Rises (seen ++ more) → last_commit 0 seen ≤ last_commit 0 (seen ++ more)
last_grows [] more rises = omega arith
last_grows (desk ∷ seen) more rises = last_grows_from desk.commit seen more rises

-- the last of the published states is no older than any of them
pub below_last : (published : List DeskState) (desk : DeskState) → Rises published → StandsIn desk published
    → desk.commit ≤ last_commit 0 published
below_last published desk rises (front, back, is) =
    let split : published ≡ (front ++ desk ∷ []) ++ back = is ∙ sym (append_assoc front (desk ∷ []) back) in
    let top : last_commit 0 (front ++ desk ∷ []) ≡ desk.commit = last_behind front (front ++ desk ∷ []) desk refl in
    let grown = last_grows (front ++ desk ∷ []) back (subst (λ (list : List DeskState). Rises list) split rises) in
    let whole = ap (last_commit 0) split in omega (arith, top, grown, whole)

-- what may be read where the seat has seen more, may be read where it is published
pub may_read_here : (seen low last published commit : ℕ) → seen ≤ low → commit ≤ published → may_read low last commit ≡ true
    → may_read seen published commit ≡ true
may_read_here seen low last published commit le high may =
    let over = read_from low last commit may in reads_between seen published commit (omega (arith, le, over)) high

-- ---- the last of the committed states

pub with_last : (first : DeskState) (later : List DeskState)
    → (front : List DeskState) × (first ∷ later ≡ front ++ latest_of first later ∷ [])
with_last first [] = ([], refl)
with_last first (next ∷ later) = let rest = with_last next later in (first ∷ rest.0, ap (λ list. first ∷ list) rest.1)
