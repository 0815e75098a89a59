-- The places of a roll, in each of which an end may stand, with the commit at which it entered. An end that was hung up
-- stays in its place until the next connection comes there, so that it can be said of it that it was.
use Rattle.std.specs.Prelude.{◌≡◌, ℕ, nat_lt, Bool, true, false, not, List, [], ◌∷◌, filter, length, Option, Some, None}
use Rattle.std.specs.List.{AllByRecursion}
use Rattle.live_roll.specs.declared.entries.Entry.{Entry}

module _ {H : Type 0} (used : H → Bool) where
  -- the place, once what stands there was hung up: it stands there still, and is used
  abbrev pub IsHungUp : Option (Entry H) → Option (Entry H) → Type 0
  IsHungUp None now = now ≡ None
  IsHungUp (Some entry) None = ⊥
  IsHungUp (Some entry) (Some now) =
      (now.entered ≡ entry.entered) × (used now.end ≡ true) × (now.has_left ≡ entry.has_left)

  -- the place, once its connection left: the end stands there still, and is used
  abbrev pub IsLeft : Option (Entry H) → Option (Entry H) → Type 0
  IsLeft None now = now ≡ None
  IsLeft (Some entry) None = ⊥
  IsLeft (Some entry) (Some now) = (now.entered ≡ entry.entered) × (used now.end ≡ true) × (now.has_left ≡ true)

  -- the place, once it was hung up if that is so, and else was left
  abbrev pub IsHungUpIf : Bool → Option (Entry H) → Option (Entry H) → Type 0
  IsHungUpIf true place now = IsHungUp place now
  IsHungUpIf false place now = now ≡ place

  -- nothing stands there that is not hung up
  abbrev pub IsClosed : Option (Entry H) → Type 0
  IsClosed None = Unit {0}
  IsClosed (Some entry) = used entry.end ≡ true

  -- what stands there and is not hung up entered at this commit
  abbrev pub IsCurrent : ℕ → Option (Entry H) → Type 0
  IsCurrent note None = Unit {0}
  IsCurrent note (Some entry) = used entry.end ≡ false → entry.entered ≡ note

  -- what each place is, once all were hung up
  abbrev pub AreHungUp : List (Option (Entry H)) → List (Option (Entry H)) → Type 0
  AreHungUp [] now = now ≡ []
  AreHungUp (place ∷ places) [] = ⊥
  AreHungUp (place ∷ places) (now ∷ more) = IsHungUp place now × AreHungUp places more

-- an end stands there that entered below the commit
abbrev pub is_below : {H : Type 0} → ℕ → Option (Entry H) → Bool
is_below low None = false
is_below low (Some entry) = nat_lt entry.entered low

-- what each place is, once those were hung up that entered below the commit
abbrev pub AreHungBelow : {H : Type 0} → (H → Bool) → ℕ → List (Option (Entry H)) → List (Option (Entry H)) → Type 0
AreHungBelow used low [] now = now ≡ []
AreHungBelow used low (place ∷ places) [] = ⊥
AreHungBelow used low (place ∷ places) (now ∷ more) =
    IsHungUpIf used (is_below low place) place now × AreHungBelow used low places more

-- no end stands in any place
abbrev pub IsVacant : {H : Type 0} → List (Option (Entry H)) → Type 0
IsVacant places = AllByRecursion (λ place. place ≡ None) places

-- a connection stands there that has not left
abbrev pub is_served : {H : Type 0} → Option (Entry H) → Bool
is_served None = false
is_served (Some entry) = not entry.has_left

-- in how many places such a connection stands
abbrev pub count_served : {H : Type 0} → List (Option (Entry H)) → ℕ
count_served places = length (filter is_served places)
