-- What the exports do.
use Rattle.std.specs.Prelude.{◌≡◌, ◌⊎◌, ℕ, ◌-◌, nat_lt, nat_le, ◌&&◌, Bool, true, false, if◌then◌else◌, List, []}
use Rattle.std.specs.Prelude.{length, min, take, drop}
use Rattle.std.specs.Prelude.{Option, Some, None, is_some}
use Rattle.cynara_keys.specs.Name.{name_fault}
use Rattle.cynara_keys.specs.Key.{Question}
use Rattle.cynara_keys.specs.PolicyResult.{is_agent}
use Rattle.client_core.specs.Asking as client
use Rattle.client_core.specs.Admin as admin
use Rattle.client_core.specs.Agent as agent
use Rattle.client_core.specs.Client as clients
use Rattle.client_core.specs.Machine.{frame_in, wanted_in, left}
use Rattle.client_core.specs.declared.machines.Machine.{Machine}
use Rattle.client_core.specs.declared.machines.Machine.TheVariants.{Client, Admin, Agent}
use Rattle.client_core.specs.declared.steps.Step.{Step}
use Rattle.client_c.specs.Codes.{code_of}
use Rattle.client_c.specs.Seen.{Says, newest_in, says_kept}
use Rattle.client_c.specs.declared.said.Said.{Said}

-- the answer of a step that made this machine: its code, and what is said
abbrev pub Tells : Step → Machine → ℕ → Said → Said → Type 0
Tells answer machine code said after = (code ≡ code_of answer) × Says answer machine said after

-- this code is answered, and nothing is said
abbrev pub IsSilent : ℕ → ℕ → Said → Said → Type 0
IsSilent wrong code said after = (code ≡ wrong) × (after ≡ said)

-- the handle's machine did this; or the handle held none, and holds none
abbrev pub On : (Machine → Machine → Type 0) → Type 0 → Option Machine → Option Machine → Type 0
On does refused None new = (new ≡ None) × refused
On does refused (Some old) new = (machine : Machine) × (new ≡ Some machine) × does old machine

-- the machine made this step, and it is told
abbrev pub Did : (Step → Machine → Machine → Type 0) → ℕ → Said → Said → Machine → Machine → Type 0
Did does code said after old new = (answer : Step) × does answer old new × Tells answer new code said after

abbrev pub Drives : (Step → Machine → Machine → Type 0) → Option Machine → Option Machine → ℕ → Said → Said → Type 0
Drives does old new code said after = On (Did does code said after) (IsSilent 64 code said after) old new

-- ---- opening

abbrev pub Opens : Machine → ℕ → Option Machine → Type 0
Opens machine code new = ((code ≡ 0) × (new ≡ Some machine)) ⊎ ((code ≡ 37) × (new ≡ None))

abbrev pub opens_if : Bool → ℕ → Machine → ℕ → Option Machine → Type 0
opens_if true wrong machine code new = Opens machine code new
opens_if false wrong machine code new = (code ≡ wrong) × (new ≡ None)

abbrev pub OpensClient : ℕ → ℕ → Option Machine → Type 0
OpensClient entries code new =
    opens_if (nat_lt 0 entries && nat_le entries 4096) 67 (Client (clients.fresh entries)) code new

abbrev pub OpensAgent : ℕ → ℕ → Option Machine → Type 0
OpensAgent kind code new = opens_if (is_agent kind) 72 (Agent (agent.fresh (record { 0 = kind }))) code new

-- ---- bytes

-- the bytes from a place on, as many as there are and the room has
abbrev pub Copies : List ℕ → ℕ → ℕ → List ℕ → List ℕ → Type 0
Copies bytes from count old new =
    (count ≡ min (length bytes - from) (length old)) × (take count new ≡ take count (drop from bytes))
    × (drop count new ≡ drop count old)

abbrev pub frame_of : Option Machine → List ℕ
frame_of None = []
frame_of (Some machine) = frame_in machine

abbrev pub wanted_of : Option Machine → ℕ
wanted_of None = 0
wanted_of (Some machine) = wanted_in machine

-- the connection is given up
abbrev pub IsLeft : ℕ → Machine → Machine → Type 0
IsLeft code old new = (code ≡ 0) × (new ≡ left old)

abbrev pub Leaves : Option Machine → ℕ → Option Machine → Type 0
Leaves old code new = On (IsLeft code) (code ≡ 64) old new

-- ---- clients

-- the first of the four texts that is no name
abbrev pub wrong_name : List ℕ → List ℕ → List ℕ → List ℕ → Option ℕ
wrong_name session client user privilege =
    if is_some (name_fault session) then Some 68
    else (if is_some (name_fault client) then Some 69
    else (if is_some (name_fault user) then Some 70
    else (if is_some (name_fault privilege) then Some 71 else None)))

-- the machine is of another kind
abbrev pub IsOther : ℕ → Said → Said → Machine → Machine → Type 0
IsOther code said after old new = IsSilent 65 code said after × (new ≡ old)

abbrev pub asks_client : List ℕ → Question → Bool → Step → Machine → Machine → Type 0
asks_client session question simple answer (Client old) (Client new) = client.Asks session question simple answer old
    new
asks_client session question simple answer old new = ⊥

abbrev pub asks_if : Option ℕ → (Step → Machine → Machine → Type 0) → ℕ → Said → Said → Machine → Machine → Type 0
asks_if (Some wrong) does code said after old new = IsSilent wrong code said after × (new ≡ old)
asks_if None does code said after old new =
    Did does code said after old new ⊎ (IsSilent 37 code said after × (new ≡ left old))

-- a client is asked; no memory may be found for the names, and the connection is given up then
abbrev pub AsksOne : List ℕ → Question → Bool → ℕ → Said → Said → Machine → Machine → Type 0
AsksOne session question simple code said after (Client old) new =
    asks_if (wrong_name session question.client question.user question.privilege) (asks_client session question simple)
    code said after (Client old) new
AsksOne session question simple code said after old new = IsOther code said after old new

abbrev pub Asks : List ℕ → Question → Bool → Option Machine → Option Machine → ℕ → Said → Said → Type 0
Asks session question simple old new code said after =
    On (AsksOne session question simple code said after) (IsSilent 64 code said after) old new

abbrev pub looks_client : Bool → Step → Machine → Machine → Type 0
looks_client is_up answer (Client old) (Client new) = client.Looks is_up answer old new
looks_client is_up answer old new = ⊥

abbrev pub LooksOne : Bool → ℕ → Said → Said → Machine → Machine → Type 0
LooksOne is_up code said after (Client old) new = Did (looks_client is_up) code said after (Client old) new
LooksOne is_up code said after old new = IsOther code said after old new

abbrev pub Looks : Bool → Option Machine → Option Machine → ℕ → Said → Said → Type 0
Looks is_up old new code said after = On (LooksOne is_up code said after) (IsSilent 64 code said after) old new

-- What is kept under the text is told, and the machine did what it does where it finds it; or it found nothing.
abbrev pub recalls_client : Bool → List ℕ → Machine → Machine → Type 0
recalls_client found text (Client old) (Client new) = client.Recalls found text old new
recalls_client found text old new = ⊥

abbrev pub RecallsOne : List ℕ → ℕ → Said → Said → Machine → Machine → Type 0
RecallsOne text code said after (Client old) new =
    ((code ≡ 5) × recalls_client true text (Client old) new × says_kept (newest_in new) said after)
    ⊎ (IsSilent 0 code said after × recalls_client false text (Client old) new)
RecallsOne text code said after old new = IsOther code said after old new

abbrev pub Recalls : List ℕ → Option Machine → Option Machine → ℕ → Said → Said → Type 0
Recalls text old new code said after = On (RecallsOne text code said after) (IsSilent 64 code said after) old new

-- a client is told of a commit
abbrev pub HearsOne : ℕ → ℕ → Machine → Machine → Type 0
HearsOne commit code (Client old) new = (code ≡ 0) × (new ≡ Client (client.told_of commit old))
HearsOne commit code old new = (code ≡ 65) × (new ≡ old)

abbrev pub Hears : ℕ → Option Machine → ℕ → Option Machine → Type 0
Hears commit old code new = On (HearsOne commit code) (code ≡ 64) old new

abbrev pub told_by : Machine → ℕ
told_by (Client side) = side.cache.told
told_by other = 0

abbrev pub told_of : Option Machine → ℕ
told_of (Some machine) = told_by machine
told_of None = 0

-- ---- administrators and agents

abbrev pub sends_admin : ℕ → List ℕ → Step → Machine → Machine → Type 0
sends_admin operation fields answer (Admin old) (Admin new) = admin.Sends operation fields answer old new
sends_admin operation fields answer old new = ⊥

abbrev pub SendsOne : ℕ → List ℕ → ℕ → Said → Said → Machine → Machine → Type 0
SendsOne operation fields code said after (Admin old) new = Did (sends_admin operation fields) code said after
    (Admin old) new
SendsOne operation fields code said after old new = IsOther code said after old new

abbrev pub Sends : ℕ → List ℕ → Option Machine → Option Machine → ℕ → Said → Said → Type 0
Sends operation fields old new code said after =
    On (SendsOne operation fields code said after) (IsSilent 64 code said after) old new

-- an agent's answer says nothing but its code
abbrev pub AnswersOne : ℕ → Bool → ℕ → Machine → Machine → Type 0
AnswersOne number allowed code (Agent old) new =
    (side : agent.Agent) × (answer : Step) × (new ≡ Agent side) × agent.Answers number allowed answer old side
    × (code ≡ code_of answer)
AnswersOne number allowed code old new = (code ≡ 65) × (new ≡ old)

abbrev pub Answers : ℕ → Bool → Option Machine → ℕ → Option Machine → Type 0
Answers number allowed old code new = On (AnswersOne number allowed code) (code ≡ 64) old new
