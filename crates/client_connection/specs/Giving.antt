-- A link is given back to its dialler.
use Rattle.std.specs.Prelude.{◌≡◌, ℕ, List, ◌++◌, Option, Some, None}
use Rattle.link_ports.specs.Told.{IfTold, AppendsTold}
use Rattle.link_ports.specs.LinkMarks.{LinkMarks}
use Rattle.link_ports.specs.NetCounts.{count_after_give_back}

-- these values stand behind those that were there before, where the list is still told
abbrev pub Appends : {A : Type 0} → List A → Option (List A) → Option (List A) → Type 0
Appends {A} values old new =
    IfTold new (λ after. (before : List A) × (old ≡ Some before) × (after ≡ before ++ values))

module _ {N L : Type 0} (faults dials : N → ℕ) (given_back : N → Option (List L)) (link_faults : L → ℕ)
    (marks : L → LinkMarks) where
  -- what giving it back does to the dialler
  pub record GivesBack (link : L) (old new : N) : Type 0 where
    pub given : AppendsTold (given_back old) link (given_back new)
    pub dialled : dials new ≡ dials old
    pub counted : faults new ≡ count_after_give_back (marks link) (link_faults link) (faults old)

  -- the same, if there is a link
  abbrev pub GivesBackAny : Option L → N → N → Type 0
  GivesBackAny (Some link) old new = GivesBack link old new
  GivesBackAny None old new = new ≡ old
