-- Frames in turn, and what stops leave meanwhile, put together.
use Rattle.std.proofs.Common.{◌≡◌, ◌⊎◌, ◌≤◌, inl, inr, ⊎_elim, ℕ, List, [], ◌∷◌, ◌++◌, ◌∙◌, Option, Some, Ok, refl, sym, ap, subst}
use Rattle.std.proofs.Common.{append-nil, arith}
use Rattle.desk_ports.specs.FileMap.{FileMap}
use Rattle.desk_ports.specs.Disk.{DiskState, MayLeave}
use Rattle.desk_ports.specs.Moments.{LeavesOnly}
use Rattle.desk_ports.proofs.Moments.{AddsOnly-none, LeavesOnly-from, LeavesOnly-then, LeavesOnly-more}
use Rattle.desk_state.specs.DeskState.{DeskState}
use Rattle.desk_keeper.specs.Kept.{Standing, standing}
use Rattle.desk_keeper.specs.Keeper.{disk_of}
use Rattle.desk_keeper.specs.declared.keeper.Keeper.{Keeper}
use Rattle.admin_door.specs.Serving.{Exchange}
use Rattle.admin_door.specs.Running.{LeadsTo, LeadsWithin, StandsSince, StandsBehind, ComesFrom, IsToldBehind, TellsEach, KeepsThrough}
use Rattle.admin_door.specs.Running.{RunsOver}

-- ---- lists

-- two ways to cut a list
split : {X : Type 0} (es fs front back : List X) → es ++ fs ≡ front ++ back
    → ((rest : List X) × (front ≡ es ++ rest) × (fs ≡ rest ++ back)) ⊎ ((rest : List X) × (es ≡ front ++ rest) × (back ≡ rest ++ fs))
split [] fs front back is = inl (front, refl, is)
split (x ∷ es) fs [] back is = inr (x ∷ es, refl, sym is)
split {X} (x ∷ es) fs (y ∷ front) back is =
    let same : x ≡ y = cc in
    let rest_is : es ++ fs ≡ front ++ back = cc in
    with_head same (split es fs front back rest_is)
  where
    with_head : x ≡ y
        → ((rest : List X) × (front ≡ es ++ rest) × (fs ≡ rest ++ back)) ⊎ ((rest : List X) × (es ≡ front ++ rest) × (back ≡ rest ++ fs))
        → ((rest : List X) × (y ∷ front ≡ (x ∷ es) ++ rest) × (fs ≡ rest ++ back))
        ⊎ ((rest : List X) × (x ∷ es ≡ (y ∷ front) ++ rest) × (back ≡ rest ++ fs))
    with_head same (inl (rest, one, two)) = inl (rest, (λ i. sym same i ∷ one i), two)
    with_head same (inr (rest, one, two)) = inr (rest, (λ i. same i ∷ one i), two)

-- ---- what frames lead to

pub leads-then : (a : Standing) (es fs : List Exchange) (b c : Standing) → LeadsTo a es b → LeadsTo b fs c → LeadsTo a (es ++ fs) c
leads-then a [] fs b c is then = subst (λ (at : Standing). LeadsTo at fs c) is then
leads-then a (e ∷ es) fs b c (between, one, rest) then = (between, one, leads-then between es fs b c rest then)

pub leads-split : (a : Standing) (front back : List Exchange) (c : Standing) → LeadsTo a (front ++ back) c
    → (b : Standing) × LeadsTo a front b × LeadsTo b back c
leads-split a [] back c leads = (a, refl, leads)
leads-split a (e ∷ front) back c (between, one, rest) =
    let parts = leads-split between front back c rest in (parts.0, (between, one, parts.1), parts.2)

within-still : (a : Standing) (es : List Exchange) (left : Standing) → left ≡ a → LeadsWithin a es left
within-still a [] left is = is
within-still a (e ∷ es) left is = inl (inl is)

-- a front of the frames
pub within-front : (a : Standing) (es fs : List Exchange) (left : Standing) → LeadsWithin a es left → LeadsWithin a (es ++ fs) left
within-front a [] fs left is = within-still a fs left is
within-front a (e ∷ es) fs left (inl way) = inl way
within-front a (e ∷ es) fs left (inr (between, one, rest)) = inr (between, one, within-front between es fs left rest)

-- behind a front of them
pub within-behind : (a : Standing) (es fs : List Exchange) (b left : Standing) → LeadsTo a es b → LeadsWithin b fs left
    → LeadsWithin a (es ++ fs) left
within-behind a [] fs b left is within = subst (λ (at : Standing). LeadsWithin at fs left) is within
within-behind a (e ∷ es) fs b left (between, one, rest) within = inr (between, one, within-behind between es fs b left rest within)

-- ---- the folder

-- more frames follow
since-front : (before : DiskState) (front es fs : List Exchange) (left : FileMap) → StandsSince before front es left
    → StandsSince before front (es ++ fs) left
since-front before front es fs left (other, between, may, leads, within) =
    (other, between, may, leads, within-front between es fs (standing left) within)

-- no frame came
tells-none : (before : DiskState) → TellsEach before []
tells-none before [] back exchange is = cc
tells-none before (e ∷ front) back exchange is = cc

-- frames that were answered behind those of a front
module _ (before mid : DiskState) (es : List Exchange) (first : (left : FileMap) → MayLeave mid left → StandsBehind before es left) where
  behind-then : (fs : List Exchange) (left : FileMap) → StandsBehind mid fs left → StandsBehind before (es ++ fs) left
  behind-then fs left (other, may, leads) =
      let base = first other may in
      (base.0, base.1, leads-then (standing base.0) es fs (standing other) (standing left) base.2 leads)

  since-behind : (front back : List Exchange) (left : FileMap) → StandsSince mid front back left
      → StandsSince before (es ++ front) back left
  since-behind front back left (other, between, may, leads, within) =
      let base = first other may in
      (base.0, between, base.1, leads-then (standing base.0) es front (standing other) between base.2 leads, within)

  since-within : (front rest fs : List Exchange) → es ≡ front ++ rest → (left : FileMap) → StandsSince mid [] fs left
      → StandsSince before front (rest ++ fs) left
  since-within front rest fs is left (other, between, may, same, within) =
      let base = first other may in
      let parts = leads-split (standing base.0) front rest (standing other)
      (subst (λ (list : List Exchange). LeadsTo (standing base.0) list (standing other)) is base.2) in (
        base.0,
        parts.0,
        base.1,
        parts.1,
        within-behind parts.0 rest fs (standing other) (standing left) parts.2
            (subst (λ (at : Standing). LeadsWithin at fs (standing left)) same within),
      )

  pub comes-then : (fs : List Exchange) (last desk now : DeskState) → ComesFrom before last es desk → ComesFrom mid desk fs now
      → ComesFrom before last (es ++ fs) now
  comes-then fs last desk now (inl leads) (inl then) = inl (leads-then (Ok last) es fs (Ok desk) (Ok now) leads then)
  comes-then fs last desk now (inr (other, may, leads)) (inl then) =
      inr (other, may, leads-then (standing other) es fs (Ok desk) (Ok now) leads then)
  comes-then fs last desk now comes (inr (other, may, then)) =
      let base = first other may in
      inr (base.0, base.1, leads-then (standing base.0) es fs (standing other) (Ok now) base.2 then)

  told-then : (fs : List Exchange) (told : Option DiskState) → IsToldBehind mid fs told → IsToldBehind before (es ++ fs) told
  told-then fs told is = record {
    found = is.found;
    told_is = is.told_is;
    read = is.read;
    behind = λ left may. behind-then fs left (is.behind left may);
  }

  -- each of the frames came over such a disk
  pub tells-then : (fs : List Exchange) → TellsEach before es → TellsEach mid fs → TellsEach before (es ++ fs)
  tells-then fs one two front back exchange is = by_cut (split es fs front (exchange ∷ back) is)
    where
      -- the first frame behind a front of the first part is of that part, or of the second
      by_rest : (rest : List Exchange) → es ≡ front ++ rest → exchange ∷ back ≡ rest ++ fs → IsToldBehind before front exchange.told
      by_rest [] es_is fs_is =
          let front_is : front ≡ es = sym (append-nil front) ∙ sym es_is in
          subst (λ (list : List Exchange). IsToldBehind before list exchange.told) (append-nil es ∙ sym front_is)
          (told-then [] exchange.told (two [] back exchange (sym fs_is)))
      by_rest (other ∷ rest) es_is fs_is =
          let same : exchange ≡ other = cc in
          one front rest exchange (es_is ∙ ap (λ (first : Exchange). front ++ first ∷ rest) (sym same))

      by_cut : ((rest : List Exchange) × (front ≡ es ++ rest) × (fs ≡ rest ++ exchange ∷ back))
          ⊎ ((rest : List Exchange) × (es ≡ front ++ rest) × (exchange ∷ back ≡ rest ++ fs)) → IsToldBehind before front exchange.told
      by_cut (inl (rest, front_is, fs_is)) =
          subst (λ (list : List Exchange). IsToldBehind before list exchange.told) (sym front_is)
          (told-then rest exchange.told (two rest back exchange fs_is))
      by_cut (inr (rest, es_is, fs_is)) = by_rest rest es_is fs_is

module _ {D : Type 0} (state : D → Option DiskState) (moment : D → ℕ) (left_since : D → ℕ → FileMap → Type 0) where
  -- ---- one connection, or a part of it, behind another

  module _ (start mid now : Keeper D) (before : DiskState) (es fs : List Exchange)
      (first : KeepsThrough state moment left_since start mid before es)
      (second : KeepsThrough state moment left_since mid now first.after fs) where
    leaves-then : LeavesOnly moment left_since (disk_of start) (disk_of now) (StandsSince before [] (es ++ fs))
    leaves-then =
        LeavesOnly-then moment left_since (disk_of start) (disk_of mid) (disk_of now) (StandsSince before [] (es ++ fs))
        (LeavesOnly-more moment left_since (disk_of start) (disk_of mid) (StandsSince before [] es) (StandsSince before [] (es ++ fs))
        (since-front before [] es fs) first.leaves)
        (LeavesOnly-more moment left_since (disk_of mid) (disk_of now) (StandsSince first.after [] fs) (StandsSince before [] (es ++ fs))
        (since-within before first.after es first.behind [] es fs refl) second.leaves)

    abbrev IsSince : List Exchange → List Exchange → Type 0
    IsSince front back = (at : ℕ) × (moment (disk_of start) ≤ at) × (at ≤ moment (disk_of now))
        × ((left : FileMap) → left_since (disk_of now) at left → StandsSince before front back left)

    since-then : (front back : List Exchange) → es ++ fs ≡ front ++ back → IsSince front back
    since-then front back is = by_cut (split es fs front back is)
      where
        by_cut : ((rest : List Exchange) × (front ≡ es ++ rest) × (fs ≡ rest ++ back))
            ⊎ ((rest : List Exchange) × (es ≡ front ++ rest) × (back ≡ rest ++ fs)) → IsSince front back
        by_cut (inl (rest, front_is, fs_is)) =
            let two = second.since rest back fs_is in (
              two.0,
              omega (arith, first.leaves.adds.later, two.1),
              two.2,
              λ left was. subst (λ (list : List Exchange). StandsSince before list back left) (sym front_is)
                  (since-behind before first.after es first.behind rest back left (two.3 left was)),
            )
        by_cut (inr (rest, es_is, back_is)) =
            let one = first.since front rest es_is in (
              one.0,
              one.1,
              omega (arith, second.leaves.adds.later, one.2),
              λ left was. subst (λ (list : List Exchange). StandsSince before front list left) (sym back_is)
                  (⊎_elim (λ earlier. since-front before front rest fs left (one.3 left earlier))
                  (λ later. since-within before first.after es first.behind front rest fs es_is left later)
                  (second.leaves.adds.nothing_else one.0 left one.2 was)),
            )

    keeps-then : KeepsThrough state moment left_since start now before (es ++ fs)
    keeps-then = record {
      after = second.after;
      told = second.told;
      leaves = leaves-then;
      behind = λ left may. behind-then before first.after es first.behind fs left (second.behind left may);
      since = since-then;
      tells = tells-then before first.after es first.behind fs first.tells second.tells;
      desk = comes-then before first.after es first.behind fs start.desk mid.desk now.desk first.desk second.desk;
      known = second.known;
    }

  -- the law of composition
  pub runs-then : (start mid now : Keeper D) (es fs : List Exchange) → RunsOver state moment left_since start mid es
      → RunsOver state moment left_since mid now fs → RunsOver state moment left_since start now (es ++ fs)
  runs-then start mid now es fs one two before told known =
      let first = one before told known in
      let second = two first.after first.told first.known in
      keeps-then start mid now before es fs first second

  -- over no frame
  pub runs-none : (keeper : Keeper D)
      → ((left : FileMap) → (t : DiskState) → state (disk_of keeper) ≡ Some t → left_since (disk_of keeper) (moment (disk_of keeper)) left
      → MayLeave t left) → RunsOver state moment left_since keeper keeper []
  runs-none keeper only_now before told known =
      let disk = disk_of keeper in
      let here : (left : FileMap) → left_since disk (moment disk) left → StandsSince before [] [] left =
      λ left was. (left, standing left, only_now left before told was, refl, refl) in
      record {
        after = before;
        told = told;
        leaves = LeavesOnly-from moment left_since disk disk (StandsSince before [] []) here
            (AddsOnly-none moment left_since disk (StandsSince before [] []));
        behind = λ left may. (left, may, refl);
        since = at_cut disk here;
        tells = tells-none before;
        desk = inl refl;
        known = known;
      }
    where
      at_cut : (disk : D) → ((left : FileMap) → left_since disk (moment disk) left → StandsSince before [] [] left)
          → (front back : List Exchange) → [] ≡ front ++ back → (at : ℕ) × (moment disk ≤ at) × (at ≤ moment disk)
          × ((left : FileMap) → left_since disk at left → StandsSince before front back left)
      at_cut disk here [] [] is = (moment disk, omega arith, omega arith, here)
      at_cut disk here [] (e ∷ back) is = cc
      at_cut disk here (e ∷ front) back is = cc
