-- Each message is read exactly as it is spelled.
use Rattle.std.proofs.Common.{◌≡◌, ℕ, ◌^◌, ◌<◌, true, false, List, ◌++◌, Ok, refl, sym, ap, subst}
use Rattle.std.specs.Int.{w32, w64}
use Rattle.wire_fields.specs.declared.messages.Message.{Message}
use Rattle.wire_fields.specs.declared.messages.Message.TheVariants.{Check, SimpleCheck, SetBucket, RemoveBucket}
use Rattle.wire_fields.specs.declared.messages.Message.TheVariants.{SetPolicies, Erase, Layout, SetTemplate, UserSet}
use Rattle.wire_fields.specs.declared.messages.Message.TheVariants.{UserRemove, Install, Uninstall, Listing, AdminCheck}
use Rattle.wire_fields.specs.declared.messages.Message.TheVariants.{Stop, InstallHybrid, Convert, Register, AgentAnswer}
use Rattle.wire_fields.specs.declared.messages.Message.TheVariants.{Judged, FromAgent, NotResolved, NoAgent, AgentGone}
use Rattle.wire_fields.specs.declared.messages.Message.TheVariants.{AgentFull, Done, Refused, ListRow, ListEnd}
use Rattle.wire_fields.specs.declared.messages.Message.TheVariants.{StoreFault, StoreDamaged, Registered, KindTaken}
use Rattle.wire_fields.specs.declared.messages.Message.TheVariants.{AgentQuestion, UnknownNumber, AgentWithdrawn}
use Rattle.wire_fields.specs.declared.messages.Message.TheVariants.{ReadState, StateFile, StateEnd, ReadService}
use Rattle.wire_fields.specs.declared.messages.Message.TheVariants.{AgentHere, ServiceEnd}
use Rattle.wire_fields.specs.declared.operations.Operation.{Operation}
use Rattle.wire_fields.specs.declared.operations.Operation.TheVariants as op
use Rattle.wire_fields.specs.Left.{IsBytes, Left, Reading, ◌>>=◌}
use Rattle.wire_fields.specs.Format.{Format, number, flag, nothing, made, ◌⊗◌, counted}
use Rattle.wire_fields.specs.Field as field
use Rattle.wire_fields.specs.Refused.{refused}
use Rattle.wire_fields.specs.Message.{operation, fields, read}
use Rattle.wire_fields.specs.Right.{IsRight}
use Rattle.wire_fields.proofs.Exact.{bind_ok, ok_is, Takes, IsExact, number_exact, wide32, wide64}
use Rattle.wire_fields.proofs.Exact.{pair_exact, nothing_exact, flag_exact}
use Rattle.wire_fields.proofs.FieldLaws.{question_exact, bucket_exact, ruling_exact, filter_exact, template_exact}
use Rattle.wire_fields.proofs.FieldLaws.{user_type_exact, install_exact, ident_exact, scope_exact, agent_kind_exact}
use Rattle.wire_fields.proofs.FieldLaws.{verdict_exact, kind_exact, most_exact, policy_exact, file_name_exact}
use Rattle.wire_fields.proofs.FieldLaws.{changes_exact, file_part_exact}
use Rattle.wire_fields.proofs.RefusalLaws.{refused_exact}

exact32 : IsExact (number w32) (λ n. n < 2 ^ 32)
exact32 = number_exact w32 (2 ^ 32) wide32

exact64 : IsExact (number w64) (λ n. n < 2 ^ 64)
exact64 = number_exact w64 (2 ^ 64) wide64

-- a message of the operation, spelled as what was taken
pub record Says (asked : Operation) (left : Left) (y : Message × Left) : Type 0 where
  pub operation_is : operation y.0 ≡ asked
  pub taken : Takes left (fields y.0) y.1
  pub right : IsRight y.0

says : (asked : Operation) {X : Type 0} (of : X → Message) (format : Format X) {P : X → Type 0} → IsExact format P
    → ((x : X) → P x → (operation (of x) ≡ asked) × (fields (of x) ≡ format.spelled x) × IsRight (of x))
    → (left : Left) (y : Message × Left) → IsBytes left.rest → made of format left ≡ Ok y → Says asked left y
says asked of format exact told left y fits e =
    let a = bind_ok (format.read left) (λ x. Ok (of x.0, x.1)) y e in
    let t = exact.takes left a.0 fits a.1 in
    let is = told a.0.0 t.1 in
    let read : Message × Left = (of a.0.0, a.0.1) in
    subst (Says asked left) (ok_is read y a.2)
    (record {
      operation_is = is.0;
      taken = subst (λ (bytes : List ℕ). Takes left bytes a.0.1) (sym is.1) t.0;
      right = is.2;
    })

pub message_takes : (asked : Operation) (left : Left) (y : Message × Left) → IsBytes left.rest → read asked left ≡ Ok y
    → Says asked left y
message_takes op.Check = says op.Check Check field.question question_exact (λ x good. (refl, refl, good))
message_takes op.SimpleCheck =
    says op.SimpleCheck SimpleCheck field.question question_exact (λ x good. (refl, refl, good))
message_takes op.SetBucket =
    says op.SetBucket (λ x. SetBucket x.0 x.1) (field.bucket ⊗ field.ruling)
    (pair_exact field.bucket field.ruling bucket_exact ruling_exact) (λ x good. (refl, refl, good))
message_takes op.RemoveBucket =
    says op.RemoveBucket RemoveBucket field.bucket bucket_exact (λ x good. (refl, refl, good))
message_takes op.SetPolicies =
    says op.SetPolicies SetPolicies (counted field.change) changes_exact (λ x good. (refl, refl, good))
message_takes op.Erase =
    says op.Erase (λ x. Erase x.0 x.1) (field.bucket ⊗ field.filter)
    (pair_exact field.bucket field.filter bucket_exact filter_exact) (λ x good. (refl, refl, good))
message_takes op.Layout = says op.Layout (λ none. Layout) nothing nothing_exact (λ x good. (refl, refl, good))
message_takes op.SetTemplate =
    says op.SetTemplate SetTemplate field.template template_exact (λ x good. (refl, refl, good))
message_takes op.UserSet =
    says op.UserSet (λ x. UserSet x.0 x.1) ((number w32) ⊗ field.user_type)
    (pair_exact (number w32) field.user_type exact32 user_type_exact) (λ x good. (refl, refl, good))
message_takes op.UserRemove = says op.UserRemove UserRemove (number w32) exact32 (λ x good. (refl, refl, good))
message_takes op.Install =
    says op.Install Install (field.install false) (install_exact false) (λ x good. (refl, refl, good))
message_takes op.Uninstall =
    says op.Uninstall (λ x. Uninstall x.0 x.1) (field.ident ⊗ field.scope)
    (pair_exact field.ident field.scope ident_exact scope_exact) (λ x good. (refl, refl, good))
message_takes op.Listing =
    says op.Listing (λ x. Listing x.0 x.1) (field.bucket ⊗ field.filter)
    (pair_exact field.bucket field.filter bucket_exact filter_exact) (λ x good. (refl, refl, good))
message_takes op.AdminCheck =
    says op.AdminCheck (λ x. AdminCheck x.0 x.1.0 x.1.1) (field.bucket ⊗ (flag ⊗ field.question))
    (pair_exact field.bucket (flag ⊗ field.question) bucket_exact
    (pair_exact flag field.question flag_exact question_exact)) (λ x good. (refl, refl, good))
message_takes op.Stop = says op.Stop (λ none. Stop) nothing nothing_exact (λ x good. (refl, refl, good))
message_takes op.InstallHybrid =
    says op.InstallHybrid InstallHybrid (field.install true) (install_exact true) (λ x good. (refl, refl, good))
message_takes op.Convert =
    says op.Convert (λ x. Convert x.0 x.1) (field.ident ⊗ flag)
    (pair_exact field.ident flag ident_exact flag_exact) (λ x good. (refl, refl, good))
message_takes op.ReadState = says op.ReadState (λ none. ReadState) nothing nothing_exact (λ x good. (refl, refl, good))
message_takes op.ReadService =
    says op.ReadService (λ none. ReadService) nothing nothing_exact (λ x good. (refl, refl, good))
message_takes op.Register = says op.Register Register field.agent_kind agent_kind_exact (λ x good. (refl, refl, good))
message_takes op.AgentAnswer =
    says op.AgentAnswer (λ x. AgentAnswer x.0 x.1) ((number w32) ⊗ flag)
    (pair_exact (number w32) flag exact32 flag_exact) (λ x good. (refl, refl, good))
message_takes op.Judged = says op.Judged Judged field.verdict verdict_exact (λ x good. (refl, refl, good))
message_takes op.FromAgent =
    says op.FromAgent (λ x. FromAgent x.0 x.1.0 x.1.1.0 x.1.1.1) ((number w64) ⊗ (field.kind ⊗ ((number w32) ⊗ flag)))
    (pair_exact (number w64) (field.kind ⊗ ((number w32) ⊗ flag)) exact64
    (pair_exact field.kind ((number w32) ⊗ flag) kind_exact (pair_exact (number w32) flag exact32 flag_exact)))
    (λ x good. (refl, refl, good))
message_takes op.NotResolved =
    says op.NotResolved (λ x. NotResolved x.0 x.1) ((number w64) ⊗ field.kind)
    (pair_exact (number w64) field.kind exact64 kind_exact) (λ x good. (refl, refl, good))
message_takes op.NoAgent =
    says op.NoAgent (λ x. NoAgent x.0 x.1) ((number w64) ⊗ field.kind)
    (pair_exact (number w64) field.kind exact64 kind_exact) (λ x good. (refl, refl, good))
message_takes op.AgentGone =
    says op.AgentGone (λ x. AgentGone x.0 x.1) ((number w64) ⊗ (number w32))
    (pair_exact (number w64) (number w32) exact64 exact32) (λ x good. (refl, refl, good))
message_takes op.AgentFull =
    says op.AgentFull (λ x. AgentFull x.0 x.1.0 x.1.1) ((number w64) ⊗ (field.kind ⊗ field.most))
    (pair_exact (number w64) (field.kind ⊗ field.most) exact64 (pair_exact field.kind field.most kind_exact most_exact))
    (λ x good. (refl, refl, good))
message_takes op.Done =
    says op.Done (λ x. Done x.0 x.1) ((number w64) ⊗ (number w32))
    (pair_exact (number w64) (number w32) exact64 exact32) (λ x good. (refl, refl, good))
message_takes op.Refused = says op.Refused Refused refused refused_exact (λ x good. (refl, refl, good))
message_takes op.ListRow = says op.ListRow ListRow field.policy policy_exact (λ x good. (refl, refl, good))
message_takes op.ListEnd = says op.ListEnd ListEnd (number w32) exact32 (λ x good. (refl, refl, good))
message_takes op.StoreFault =
    says op.StoreFault (λ none. StoreFault) nothing nothing_exact (λ x good. (refl, refl, good))
message_takes op.StoreDamaged =
    says op.StoreDamaged (λ x. StoreDamaged x.0 x.1) (field.file_name ⊗ (number w32))
    (pair_exact field.file_name (number w32) file_name_exact exact32) (λ x good. (refl, refl, good))
message_takes op.StateFile =
    says op.StateFile (λ x. StateFile x.0 x.1) (field.file_name ⊗ field.file_part)
    (pair_exact field.file_name field.file_part file_name_exact file_part_exact) (λ x good. (refl, refl, good))
message_takes op.StateEnd = says op.StateEnd StateEnd (number w64) exact64 (λ x good. (refl, refl, good))
message_takes op.AgentHere = says op.AgentHere AgentHere field.kind kind_exact (λ x good. (refl, refl, good))
message_takes op.ServiceEnd =
    says op.ServiceEnd (λ x. ServiceEnd x.0 x.1) ((number w32) ⊗ (number w32))
    (pair_exact (number w32) (number w32) exact32 exact32) (λ x good. (refl, refl, good))
message_takes op.Registered = says op.Registered Registered field.kind kind_exact (λ x good. (refl, refl, good))
message_takes op.KindTaken = says op.KindTaken KindTaken field.kind kind_exact (λ x good. (refl, refl, good))
message_takes op.AgentQuestion =
    says op.AgentQuestion (λ x. AgentQuestion x.0 x.1.0 x.1.1) ((number w32) ⊗ (field.question ⊗ field.ruling))
    (pair_exact (number w32) (field.question ⊗ field.ruling) exact32
    (pair_exact field.question field.ruling question_exact ruling_exact)) (λ x good. (refl, refl, good))
message_takes op.UnknownNumber = says op.UnknownNumber UnknownNumber (number w32) exact32 (λ x good. (refl, refl, good))
message_takes op.AgentWithdrawn =
    says op.AgentWithdrawn AgentWithdrawn (number w32) exact32 (λ x good. (refl, refl, good))

again : {X : Type 0} (of : X → Message) (format : Format X) {P : X → Type 0} → IsExact format P
    → (end : ℕ) (rest : List ℕ) (x : X) → P x
    → made of format (record { end = end; rest = format.spelled x ++ rest })
    ≡ Ok (of x, record { end = end; rest = rest })
again of format exact end rest x good =
    ap (λ (read : Reading _). read >>= λ x. Ok (of x.0, x.1)) (exact.again end x rest good)

pub message_again : (m : Message) (end : ℕ) (rest : List ℕ) → IsRight m
    → read (operation m) (record { end = end; rest = fields m ++ rest }) ≡ Ok (m, record { end = end; rest = rest })
message_again (Check question) end rest good = again Check field.question question_exact end rest question good
message_again (SimpleCheck question) end rest good =
    again SimpleCheck field.question question_exact end rest question good
message_again (SetBucket bucket fallback) end rest good =
    again (λ x. SetBucket x.0 x.1) (field.bucket ⊗ field.ruling)
    (pair_exact field.bucket field.ruling bucket_exact ruling_exact) end rest (bucket, fallback) good
message_again (RemoveBucket bucket) end rest good = again RemoveBucket field.bucket bucket_exact end rest bucket good
message_again (SetPolicies changes) end rest good =
    again SetPolicies (counted field.change) changes_exact end rest changes good
message_again (Erase bucket filter) end rest good =
    again (λ x. Erase x.0 x.1) (field.bucket ⊗ field.filter)
    (pair_exact field.bucket field.filter bucket_exact filter_exact) end rest (bucket, filter) good
message_again Layout end rest good = again (λ none. Layout) nothing nothing_exact end rest tt good
message_again (SetTemplate template) end rest good =
    again SetTemplate field.template template_exact end rest template good
message_again (UserSet uid kind) end rest good =
    again (λ x. UserSet x.0 x.1) ((number w32) ⊗ field.user_type)
    (pair_exact (number w32) field.user_type exact32 user_type_exact) end rest (uid, kind) good
message_again (UserRemove uid) end rest good = again UserRemove (number w32) exact32 end rest uid good
message_again (Install install) end rest good =
    again Install (field.install false) (install_exact false) end rest install good
message_again (Uninstall app scope) end rest good =
    again (λ x. Uninstall x.0 x.1) (field.ident ⊗ field.scope)
    (pair_exact field.ident field.scope ident_exact scope_exact) end rest (app, scope) good
message_again (Listing bucket filter) end rest good =
    again (λ x. Listing x.0 x.1) (field.bucket ⊗ field.filter)
    (pair_exact field.bucket field.filter bucket_exact filter_exact) end rest (bucket, filter) good
message_again (AdminCheck bucket recursive question) end rest good =
    again (λ x. AdminCheck x.0 x.1.0 x.1.1) (field.bucket ⊗ (flag ⊗ field.question))
    (pair_exact field.bucket (flag ⊗ field.question) bucket_exact
    (pair_exact flag field.question flag_exact question_exact)) end rest (bucket, (recursive, question)) good
message_again Stop end rest good = again (λ none. Stop) nothing nothing_exact end rest tt good
message_again (InstallHybrid install) end rest good =
    again InstallHybrid (field.install true) (install_exact true) end rest install good
message_again (Convert name hybrid) end rest good =
    again (λ x. Convert x.0 x.1) (field.ident ⊗ flag) (pair_exact field.ident flag ident_exact flag_exact) end rest
    (name, hybrid) good
message_again ReadState end rest good = again (λ none. ReadState) nothing nothing_exact end rest tt good
message_again ReadService end rest good = again (λ none. ReadService) nothing nothing_exact end rest tt good
message_again (Register kind) end rest good = again Register field.agent_kind agent_kind_exact end rest kind good
message_again (AgentAnswer asked allowed) end rest good =
    again (λ x. AgentAnswer x.0 x.1) ((number w32) ⊗ flag) (pair_exact (number w32) flag exact32 flag_exact) end rest
    (asked, allowed) good
message_again (Judged verdict) end rest good = again Judged field.verdict verdict_exact end rest verdict good
message_again (FromAgent commit kind asked allowed) end rest good =
    again (λ x. FromAgent x.0 x.1.0 x.1.1.0 x.1.1.1) ((number w64) ⊗ (field.kind ⊗ ((number w32) ⊗ flag)))
    (pair_exact (number w64) (field.kind ⊗ ((number w32) ⊗ flag)) exact64
    (pair_exact field.kind ((number w32) ⊗ flag) kind_exact (pair_exact (number w32) flag exact32 flag_exact))) end rest
    (commit, (kind, (asked, allowed))) good
message_again (NotResolved commit kind) end rest good =
    again (λ x. NotResolved x.0 x.1) ((number w64) ⊗ field.kind) (pair_exact (number w64) field.kind exact64 kind_exact)
    end rest (commit, kind) good
message_again (NoAgent commit kind) end rest good =
    again (λ x. NoAgent x.0 x.1) ((number w64) ⊗ field.kind) (pair_exact (number w64) field.kind exact64 kind_exact) end
    rest (commit, kind) good
message_again (AgentGone commit asked) end rest good =
    again (λ x. AgentGone x.0 x.1) ((number w64) ⊗ (number w32)) (pair_exact (number w64) (number w32) exact64 exact32)
    end rest (commit, asked) good
message_again (AgentFull commit kind most) end rest good =
    again (λ x. AgentFull x.0 x.1.0 x.1.1) ((number w64) ⊗ (field.kind ⊗ field.most))
    (pair_exact (number w64) (field.kind ⊗ field.most) exact64 (pair_exact field.kind field.most kind_exact most_exact))
    end rest (commit, (kind, most)) good
message_again (Done commit erased) end rest good =
    again (λ x. Done x.0 x.1) ((number w64) ⊗ (number w32)) (pair_exact (number w64) (number w32) exact64 exact32) end
    rest (commit, erased) good
message_again (Refused refusal) end rest good = again Refused refused refused_exact end rest refusal good
message_again (ListRow policy) end rest good = again ListRow field.policy policy_exact end rest policy good
message_again (ListEnd count) end rest good = again ListEnd (number w32) exact32 end rest count good
message_again StoreFault end rest good = again (λ none. StoreFault) nothing nothing_exact end rest tt good
message_again (StoreDamaged file line) end rest good =
    again (λ x. StoreDamaged x.0 x.1) (field.file_name ⊗ (number w32))
    (pair_exact field.file_name (number w32) file_name_exact exact32) end rest (file, line) good
message_again (StateFile name bytes) end rest good =
    again (λ x. StateFile x.0 x.1) (field.file_name ⊗ field.file_part)
    (pair_exact field.file_name field.file_part file_name_exact file_part_exact) end rest (name, bytes) good
message_again (StateEnd commit) end rest good = again StateEnd (number w64) exact64 end rest commit good
message_again (AgentHere kind) end rest good = again AgentHere field.kind kind_exact end rest kind good
message_again (ServiceEnd workers served) end rest good =
    again (λ x. ServiceEnd x.0 x.1) ((number w32) ⊗ (number w32)) (pair_exact (number w32) (number w32) exact32 exact32)
    end rest (workers, served) good
message_again (Registered kind) end rest good = again Registered field.kind kind_exact end rest kind good
message_again (KindTaken kind) end rest good = again KindTaken field.kind kind_exact end rest kind good
message_again (AgentQuestion asked question result) end rest good =
    again (λ x. AgentQuestion x.0 x.1.0 x.1.1) ((number w32) ⊗ (field.question ⊗ field.ruling))
    (pair_exact (number w32) (field.question ⊗ field.ruling) exact32
    (pair_exact field.question field.ruling question_exact ruling_exact)) end rest (asked, (question, result)) good
message_again (UnknownNumber asked) end rest good = again UnknownNumber (number w32) exact32 end rest asked good
message_again (AgentWithdrawn asked) end rest good = again AgentWithdrawn (number w32) exact32 end rest asked good
