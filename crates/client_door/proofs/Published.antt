-- States that a seat has seen, whose commits rise.
use Rattle.std.proofs.Common.{◌≡◌, ◌∙◌, ◌≤◌, ℕ, Bool, true, false, ◌&&◌, List, [], ◌∷◌, ◌++◌, refl, sym, ap, subst, append_assoc, arith}
use Rattle.std.specs.Prelude.{nat_le}
use Rattle.std.proofs.lemmas.Bool.{le-leb, leb-true}
use Rattle.desk_state.specs.DeskState.{DeskState}
use Rattle.live_desk.specs.History.{GoesOn, IsLast, Rises, RisesFrom, last_commit}
use Rattle.desk_world.specs.Links.{may_read}
use Rattle.client_door.specs.Answered.{Answered, StandsIn, AreReadIn}

-- ---- where a state stands

pub stands_in_more : (desk : DeskState) (seen later : List DeskState) → StandsIn desk seen → GoesOn seen later → StandsIn desk later
stands_in_more desk seen later (front, back, is) (more, goes_on) =
    (front, back ++ more, goes_on ∙ (ap (λ list. list ++ more) is ∙ append_assoc front (desk ∷ back) more))

pub stands_last : (desk : DeskState) (seen : List DeskState) → IsLast seen desk → StandsIn desk seen
stands_last desk seen (front, is) = (front, [], is)

-- ---- the last state has the greatest commit

last_or : DeskState → List DeskState → DeskState
last_or desk [] = desk
last_or desk (next ∷ more) = last_or next more

last_of_snoc : (first : DeskState) (front : List DeskState) (desk : DeskState) → last_or first (front ++ desk ∷ []) ≡ desk
unfolding last_or
last_of_snoc first [] desk = refl
last_of_snoc first (x ∷ front) desk = last_of_snoc x front desk

last_behind : (first : DeskState) (front : List DeskState) (desk : DeskState) (back : List DeskState)
    → last_or first (front ++ desk ∷ back) ≡ last_or desk back
unfolding last_or
last_behind first [] desk back = refl
last_behind first (x ∷ front) desk back = last_behind x front desk back

last_is_above : (desk : DeskState) (back : List DeskState) → RisesFrom desk.commit back → desk.commit ≤ (last_or desk back).commit
unfolding last_or
last_is_above desk [] rises = omega arith
last_is_above desk (x ∷ back) rises = let above = last_is_above x back rises.1 in let up = rises.0 in omega arith

rises_behind : (low : ℕ) (front : List DeskState) (desk : DeskState) (back : List DeskState)
    → RisesFrom low (front ++ desk ∷ back) → RisesFrom desk.commit back
rises_behind low [] desk back rises = rises.1
rises_behind low (x ∷ front) desk back rises = rises_behind x.commit front desk back rises.1

rises_within : (front : List DeskState) (desk : DeskState) (back : List DeskState) → Rises (front ++ desk ∷ back)
    → RisesFrom desk.commit back
rises_within [] desk back rises = rises
rises_within (x ∷ front) desk back rises = rises_behind x.commit front desk back rises

pub not_above : (one last : DeskState) (seen : List DeskState) → Rises seen → IsLast seen last → StandsIn one seen
    → one.commit ≤ last.commit
not_above one last seen rises (front, is_last) (before, behind, is) =
    let up : RisesFrom one.commit behind = rises_within before one behind (subst (λ (list : List DeskState). Rises list) is rises) in
    let same : last_or one behind ≡ last =
    sym (last_behind one before one behind) ∙ (ap (λ list. last_or one list) (sym is ∙ is_last) ∙ last_of_snoc one front last) in
    subst (λ (desk : DeskState). one.commit ≤ desk.commit) same (last_is_above one behind up)

-- the commit of the last state
commit_of_snoc : (low : ℕ) (front : List DeskState) (desk : DeskState) → last_commit low (front ++ desk ∷ []) ≡ desk.commit
commit_of_snoc low [] desk = refl
commit_of_snoc low (x ∷ front) desk = commit_of_snoc x.commit front desk

pub commit_of_last : (seen : List DeskState) (desk : DeskState) → IsLast seen desk → last_commit 0 seen ≡ desk.commit
commit_of_last seen desk (front, is) = ap (last_commit 0) is ∙ commit_of_snoc 0 front desk

-- ---- which commits may be read

both_hold : (x y : Bool) → x ≡ true → y ≡ true → (x && y) ≡ true
both_hold x y one two = cc

first_holds : (x y : Bool) → (x && y) ≡ true → x ≡ true
first_holds true y both = refl
first_holds false y both = both

second_holds : (x y : Bool) → (x && y) ≡ true → y ≡ true
second_holds true y both = both
second_holds false y both = absurd (wrong both)
  where
    wrong : false ≡ true → ⊥
    wrong is = cc

pub reads_between : (seen published commit : ℕ) → seen ≤ commit → commit ≤ published → may_read seen published commit ≡ true
reads_between seen published commit low high =
    both_hold (nat_le seen commit) (nat_le commit published) (le-leb seen commit low) (le-leb commit published high)

pub read_from : (seen published commit : ℕ) → may_read seen published commit ≡ true → seen ≤ commit
read_from seen published commit may =
    leb-true seen commit (first_holds (nat_le seen commit) (nat_le commit published) may)

pub read_to : (seen published commit : ℕ) → may_read seen published commit ≡ true → commit ≤ published
read_to seen published commit may =
    leb-true commit published (second_holds (nat_le seen commit) (nat_le commit published) may)

-- ---- checks that were read there

pub read_in_more : (seen later : List DeskState) (last : DeskState) → GoesOn seen later → Rises later → IsLast later last
    → (low : ℕ) (answered : List Answered) → AreReadIn seen low answered → AreReadIn later low answered
read_in_more seen later last goes_on rises is_last low [] read = tt
read_in_more seen later last goes_on rises is_last low (one ∷ more) (at, may, others) =
    let there = stands_in_more one.desk seen later at goes_on in
    let high : one.desk.commit ≤ last_commit 0 later =
    subst (λ (top : ℕ). one.desk.commit ≤ top) (sym (commit_of_last later last is_last))
    (not_above one.desk last later rises is_last there) in (
      there,
      reads_between low (last_commit 0 later) one.desk.commit (read_from low (last_commit 0 seen) one.desk.commit may) high,
      read_in_more seen later last goes_on rises is_last one.desk.commit more others,
    )

pub read_in_snoc : (seen : List DeskState) (next : Answered) → IsLast seen next.desk
    → ((desk : DeskState) → StandsIn desk seen → desk.commit ≤ next.desk.commit)
    → (low : ℕ) (answered : List Answered) → low ≤ next.desk.commit → AreReadIn seen low answered
    → AreReadIn seen low (answered ++ next ∷ [])
read_in_snoc seen next is_last above low [] fresh read =
    let top : last_commit 0 seen ≡ next.desk.commit = commit_of_last seen next.desk is_last in
    (stands_last next.desk seen is_last, reads_between low (last_commit 0 seen) next.desk.commit fresh (omega (arith, top)), tt)
read_in_snoc seen next is_last above low (one ∷ more) fresh (at, up, others) =
    (at, up, read_in_snoc seen next is_last above one.desk.commit more (above one.desk at) others)
