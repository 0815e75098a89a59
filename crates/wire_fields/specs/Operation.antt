-- Operations: the number of each, and who hears it.
use Rattle.std.specs.Prelude.{ℕ, ◌==◌, List, [], ◌∷◌, Option, find}
use Rattle.wire_fields.specs.declared.operations.Heard.{Heard}
use Rattle.wire_fields.specs.declared.operations.Heard.TheVariants.{AtClient, AtAdmin, AtAgent, Replies, AgentReplies}
use Rattle.wire_fields.specs.declared.operations.Operation.{Operation}
use Rattle.wire_fields.specs.declared.operations.Operation.TheVariants.{Check, SimpleCheck, SetBucket, RemoveBucket}
use Rattle.wire_fields.specs.declared.operations.Operation.TheVariants.{SetPolicies, Erase, Layout, SetTemplate}
use Rattle.wire_fields.specs.declared.operations.Operation.TheVariants.{UserSet, UserRemove, Install, Uninstall}
use Rattle.wire_fields.specs.declared.operations.Operation.TheVariants.{Listing, AdminCheck, Stop, InstallHybrid}
use Rattle.wire_fields.specs.declared.operations.Operation.TheVariants.{Convert, Register, AgentAnswer, Judged}
use Rattle.wire_fields.specs.declared.operations.Operation.TheVariants.{FromAgent, NotResolved, NoAgent, AgentGone}
use Rattle.wire_fields.specs.declared.operations.Operation.TheVariants.{AgentFull, Done, Refused, ListRow, ListEnd}
use Rattle.wire_fields.specs.declared.operations.Operation.TheVariants.{StoreFault, StoreDamaged, Registered, KindTaken}
use Rattle.wire_fields.specs.declared.operations.Operation.TheVariants.{AgentQuestion, UnknownNumber, AgentWithdrawn}
use Rattle.wire_fields.specs.declared.operations.Operation.TheVariants.{ReadState, StateFile, StateEnd, ReadService}
use Rattle.wire_fields.specs.declared.operations.Operation.TheVariants.{AgentHere, ServiceEnd}

abbrev pub number_of : Operation → ℕ
number_of Check = 0x01
number_of SimpleCheck = 0x02
number_of SetBucket = 0x10
number_of RemoveBucket = 0x11
number_of SetPolicies = 0x12
number_of Erase = 0x13
number_of Layout = 0x14
number_of SetTemplate = 0x15
number_of UserSet = 0x16
number_of UserRemove = 0x17
number_of Install = 0x18
number_of Uninstall = 0x19
number_of Listing = 0x1A
number_of AdminCheck = 0x1B
number_of Stop = 0x1C
number_of InstallHybrid = 0x1D
number_of Convert = 0x1E
number_of ReadState = 0x1F
number_of ReadService = 0x30
number_of Register = 0x20
number_of AgentAnswer = 0x21
number_of Judged = 0x81
number_of FromAgent = 0x82
number_of NotResolved = 0x83
number_of NoAgent = 0x84
number_of AgentGone = 0x85
number_of AgentFull = 0x86
number_of Done = 0x90
number_of Refused = 0x91
number_of ListRow = 0x92
number_of ListEnd = 0x93
number_of StoreFault = 0x95
number_of StoreDamaged = 0x96
number_of StateFile = 0x97
number_of StateEnd = 0x98
number_of AgentHere = 0x99
number_of ServiceEnd = 0x9A
number_of Registered = 0xA0
number_of KindTaken = 0xA1
number_of AgentQuestion = 0xA2
number_of UnknownNumber = 0xA3
number_of AgentWithdrawn = 0xA4

-- the operations that a side knows
abbrev pub known_at : Heard → List Operation
known_at AtClient = Check ∷ SimpleCheck ∷ []
known_at AtAdmin =
    SetBucket ∷ RemoveBucket ∷ SetPolicies ∷ Erase ∷ Layout ∷ SetTemplate ∷ UserSet ∷ UserRemove ∷ Install ∷ Uninstall
    ∷ Listing ∷ AdminCheck ∷ Stop ∷ InstallHybrid ∷ Convert ∷ ReadState ∷ ReadService ∷ []
known_at AtAgent = Register ∷ AgentAnswer ∷ []
known_at Replies =
    Judged ∷ FromAgent ∷ NotResolved ∷ NoAgent ∷ AgentGone ∷ AgentFull ∷ Done ∷ Refused ∷ ListRow ∷ ListEnd ∷ StoreFault
    ∷ StoreDamaged ∷ StateFile ∷ StateEnd ∷ AgentHere ∷ ServiceEnd ∷ []
known_at AgentReplies = Registered ∷ KindTaken ∷ AgentQuestion ∷ UnknownNumber ∷ AgentWithdrawn ∷ []

-- the operation of a number at a side, if the side knows it
abbrev pub operation_of : Heard → ℕ → Option Operation
operation_of heard number = find (λ operation. number_of operation == number) (known_at heard)
