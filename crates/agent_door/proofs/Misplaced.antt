-- A frame of an agent is a registration or an answer.
use Rattle.std.proofs.Common.{◌≡◌, Some, refl}
use Rattle.wire_fields.specs.Operation.{number_of, operation_of}
use Rattle.wire_fields.specs.Message.{operation}
use Rattle.wire_fields.specs.declared.messages.Message.{Message}
use Rattle.wire_fields.specs.declared.messages.Message.TheVariants as m
use Rattle.wire_fields.specs.declared.operations.Heard.TheVariants.{AtAgent}
use Rattle.agent_door.specs.Frame.{IsNoRegistration, IsNoAnswer}

abbrev pub IsKnown : Message → Type 0
IsKnown message = operation_of AtAgent (number_of (operation message)) ≡ Some (operation message)

-- what is no registration is an answer
pub no_registration : (message : Message) → IsKnown message → IsNoRegistration message → number_of (operation message) ≡ 0x21
no_registration (m.Check q) known is_none = cc
no_registration (m.SimpleCheck q) known is_none = cc
no_registration (m.SetBucket b f) known is_none = cc
no_registration (m.RemoveBucket b) known is_none = cc
no_registration (m.SetPolicies c) known is_none = cc
no_registration (m.Erase b f) known is_none = cc
no_registration m.Layout known is_none = cc
no_registration (m.SetTemplate t) known is_none = cc
no_registration (m.UserSet u k) known is_none = cc
no_registration (m.UserRemove u) known is_none = cc
no_registration (m.Install i) known is_none = cc
no_registration (m.Uninstall a s) known is_none = cc
no_registration (m.Listing b f) known is_none = cc
no_registration (m.AdminCheck b r q) known is_none = cc
no_registration m.Stop known is_none = cc
no_registration m.ReadState known is_none = cc
no_registration m.ReadService known is_none = cc
no_registration (m.InstallHybrid i) known is_none = cc
no_registration (m.Convert p h) known is_none = cc
no_registration (m.Register k) known is_none = absurd is_none
no_registration (m.AgentAnswer n a) known is_none = refl
no_registration (m.Judged v) known is_none = cc
no_registration (m.FromAgent c k n a) known is_none = cc
no_registration (m.NotResolved c k) known is_none = cc
no_registration (m.NoAgent c k) known is_none = cc
no_registration (m.AgentGone c n) known is_none = cc
no_registration (m.AgentFull c k n) known is_none = cc
no_registration (m.Done c e) known is_none = cc
no_registration (m.Refused r) known is_none = cc
no_registration (m.ListRow p) known is_none = cc
no_registration (m.ListEnd c) known is_none = cc
no_registration m.StoreFault known is_none = cc
no_registration (m.StoreDamaged f l) known is_none = cc
no_registration (m.StateFile f b) known is_none = cc
no_registration (m.StateEnd c) known is_none = cc
no_registration (m.AgentHere k) known is_none = cc
no_registration (m.ServiceEnd w s) known is_none = cc
no_registration (m.Registered k) known is_none = cc
no_registration (m.KindTaken k) known is_none = cc
no_registration (m.AgentQuestion n q r) known is_none = cc
no_registration (m.UnknownNumber n) known is_none = cc
no_registration (m.AgentWithdrawn n) known is_none = cc

-- what is no answer is a registration
pub no_answer : (message : Message) → IsKnown message → IsNoAnswer message → number_of (operation message) ≡ 0x20
no_answer (m.Check q) known is_none = cc
no_answer (m.SimpleCheck q) known is_none = cc
no_answer (m.SetBucket b f) known is_none = cc
no_answer (m.RemoveBucket b) known is_none = cc
no_answer (m.SetPolicies c) known is_none = cc
no_answer (m.Erase b f) known is_none = cc
no_answer m.Layout known is_none = cc
no_answer (m.SetTemplate t) known is_none = cc
no_answer (m.UserSet u k) known is_none = cc
no_answer (m.UserRemove u) known is_none = cc
no_answer (m.Install i) known is_none = cc
no_answer (m.Uninstall a s) known is_none = cc
no_answer (m.Listing b f) known is_none = cc
no_answer (m.AdminCheck b r q) known is_none = cc
no_answer m.Stop known is_none = cc
no_answer m.ReadState known is_none = cc
no_answer m.ReadService known is_none = cc
no_answer (m.InstallHybrid i) known is_none = cc
no_answer (m.Convert p h) known is_none = cc
no_answer (m.Register k) known is_none = refl
no_answer (m.AgentAnswer n a) known is_none = absurd is_none
no_answer (m.Judged v) known is_none = cc
no_answer (m.FromAgent c k n a) known is_none = cc
no_answer (m.NotResolved c k) known is_none = cc
no_answer (m.NoAgent c k) known is_none = cc
no_answer (m.AgentGone c n) known is_none = cc
no_answer (m.AgentFull c k n) known is_none = cc
no_answer (m.Done c e) known is_none = cc
no_answer (m.Refused r) known is_none = cc
no_answer (m.ListRow p) known is_none = cc
no_answer (m.ListEnd c) known is_none = cc
no_answer m.StoreFault known is_none = cc
no_answer (m.StoreDamaged f l) known is_none = cc
no_answer (m.StateFile f b) known is_none = cc
no_answer (m.StateEnd c) known is_none = cc
no_answer (m.AgentHere k) known is_none = cc
no_answer (m.ServiceEnd w s) known is_none = cc
no_answer (m.Registered k) known is_none = cc
no_answer (m.KindTaken k) known is_none = cc
no_answer (m.AgentQuestion n q r) known is_none = cc
no_answer (m.UnknownNumber n) known is_none = cc
no_answer (m.AgentWithdrawn n) known is_none = cc
