-- Why a share is not opened or closed: the first rule that stands against it.
use Rattle.std.specs.Prelude.{◌≡◌, ◌==◌, nat_lt, ℕ, List, length, Option, Some, None, if◌then◌else◌}
use Rattle.cynara_keys.specs.Text.{same_text}
use Rattle.app_registry.specs.Label.{label_of}
use Rattle.app_registry.specs.Registry.{RegistryLists}
use Rattle.private_sharing.specs.Shares.{count_of, opened}
use Rattle.private_sharing.specs.declared.shares.Share.{Share}
use Rattle.private_sharing.specs.declared.refusals.ShareRefusal.{ShareRefusal}
use Rattle.private_sharing.specs.declared.refusals.ShareRefusal.TheVariants.{UnknownApp, SameLabel, NotShared}
use Rattle.private_sharing.specs.declared.refusals.ShareRefusal.TheVariants.{Most, Memory}

-- how often a share may be open, and how many shares there may be
abbrev pub most_opens : ℕ
most_opens = 4294967295

abbrev pub most_shares : ℕ
most_shares = 4096

-- the share would be open too often, or there would be too many shares
abbrev pub limit_fault : List ℕ → List ℕ → List ℕ → List Share → Option ShareRefusal
limit_fault owner target name shares =
    if count_of owner target name shares == most_opens then Some (Most most_opens)
    else (if nat_lt most_shares (length (opened owner target name shares)) then Some (Most most_shares) else None)

-- what the labels of the two say, none where an application is not installed; else the limits
abbrev pub labels_fault : List ℕ → List ℕ → Option (List ℕ) → Option (List ℕ) → Option ShareRefusal
    → Option ShareRefusal
labels_fault owner target None other limit = Some (UnknownApp owner)
labels_fault owner target (Some own) None limit = Some (UnknownApp target)
labels_fault owner target (Some own) (Some other) limit = if same_text own other then Some (SameLabel own) else limit

abbrev pub open_fault : RegistryLists → List ℕ → List ℕ → List ℕ → List Share → Option ShareRefusal
open_fault registry owner target name shares =
    labels_fault owner target (label_of registry owner) (label_of registry target)
    (limit_fault owner target name shares)

abbrev pub close_fault : List ℕ → List ℕ → List ℕ → List Share → Option ShareRefusal
close_fault owner target name shares = if count_of owner target name shares == 0 then Some NotShared else None

-- the refusal names the fault; want of memory says nothing
abbrev pub Refuses : ShareRefusal → Option ShareRefusal → Type 0
Refuses (Memory error) fault = Unit {0}
Refuses refusal fault = fault ≡ Some refusal

-- the same where memory is asked for only where there is no fault
abbrev pub RefusesLast : ShareRefusal → Option ShareRefusal → Type 0
RefusesLast (Memory error) fault = fault ≡ None
RefusesLast refusal fault = fault ≡ Some refusal
