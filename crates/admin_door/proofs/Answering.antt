-- What a command is answered, put together from what its parts are.
use Rattle.std.proofs.Common.{◌≡◌, ◌∙◌, inl, inr, ℕ, List, [], ◌∷◌, Option, Some, None, Result, Ok, Err, MatchResult, refl, sym, ap, subst}
use Rattle.desk_ports.specs.Disk.{DiskState}
use Rattle.desk_state.specs.DeskState.{DeskState}
use Rattle.desk_state.specs.Next.{next, erased_by}
use Rattle.desk_state.specs.Rules.{fault, Refuses}
use Rattle.desk_state.specs.declared.commands.Command.{Command}
use Rattle.desk_state.specs.declared.refusals.Refusal.{Refusal}
use Rattle.desk_state.specs.declared.refusals.Refusal.TheVariants as rule
use Rattle.wire_messages.specs.Commands.{command_of, IsByRule}
use Rattle.wire_fields.specs.declared.messages.Message.{Message}
use Rattle.wire_fields.specs.declared.messages.Message.TheVariants as message
use Rattle.admin_door.specs.Side.{AdminSide, with_kept, with_shown}
use Rattle.admin_door.specs.Settling.{IsFound, Settles, Unsettles, LacksMemoryAlone, with_last_shown}
use Rattle.admin_door.specs.Answering.{Commits, LacksMemory, Obeys, Answers, AnswersBy, RefusesBy}
use Rattle.admin_door.specs.parts.Showing.{Shows, IsUnshown}
use Rattle.desk_keeper.specs.declared.refusals.KeeperRefusal.{KeeperRefusal}
use Rattle.desk_keeper.specs.declared.refusals.KeeperRefusal.TheVariants.{StoreFault, Damaged, Memory}

-- what follows from either outcome
pub either-way : {V E : Type 0} (result : Result V E) (P Q : V → Type 0) (R S : E → Type 0) → ((value : V) → P value → Q value)
    → ((error : E) → R error → S error) → MatchResult result P R → MatchResult result Q S
either-way (Ok value) P Q R S right wrong is = right value is
either-way (Err error) P Q R S right wrong is = wrong error is

-- ---- settling

pub settles-shown : (told : Option DiskState) (old found now : AdminSide) → IsFound told old found
    → now ≡ with_last_shown found → Settles told old now
settles-shown told old found now is_found shown = record { found = found; is_found = is_found; shown = shown }

pub unsettles-unshown : (told : Option DiskState) (old found now : AdminSide) (reason : KeeperRefusal) → IsFound told old found
    → LacksMemoryAlone reason × (now ≡ found) → Unsettles told old now reason
unsettles-unshown told old found now StoreFault is_found (is, same) = absurd is
unsettles-unshown told old found now (Damaged file line) is_found (is, same) = absurd is
unsettles-unshown told old found now (Memory error) is_found (is, same) =
    inr (subst (λ (side : AdminSide). IsFound told old side) (sym same) is_found)

-- ---- a commit

pub commits-shown : (command : Command) (settled now : AdminSide) (desk : DeskState) (erased : ℕ) (replies : List Message)
    → fault settled.desk command ≡ None → desk ≡ next settled.desk command → erased ≡ erased_by settled.desk command
    → Shows desk erased settled now replies → Commits command settled now replies
commits-shown command settled now desk erased replies accepted is count (inl (shown, told)) =
    inl (record {
      accepted = accepted;
      leaves = shown ∙ ap (λ (desk : DeskState). with_shown desk (with_kept desk settled)) is;
      answered = told ∙ (λ i. message.Done (is i).commit (count i) ∷ []);
    })
commits-shown command settled now desk erased replies accepted is count (inr (failed, told)) =
    inr (inr (record { accepted = accepted; leaves = failed; answered = told }))

pub lacks-unshown : (command : Command) (settled now : AdminSide) (desk : DeskState) → fault settled.desk command ≡ None
    → desk ≡ next settled.desk command → IsUnshown desk settled now → LacksMemory command settled now
lacks-unshown command settled now desk accepted is (inl same) = inl same
lacks-unshown command settled now desk accepted is (inr kept) =
    inr (accepted, kept ∙ ap (λ (desk : DeskState). with_kept desk settled) is)

-- a refusal by a rule names the fault
names-fault : (desk : DeskState) (command : Command) (refusal : Refusal) → IsByRule refusal → Refuses desk command refusal
    → fault desk command ≡ Some refusal
names-fault desk command (rule.Reserved name) by refused = refused
names-fault desk command rule.LayoutThere by refused = refused
names-fault desk command rule.NoLayout by refused = refused
names-fault desk command (rule.NoBucket name) by refused = refused
names-fault desk command rule.RootBucket by refused = refused
names-fault desk command (rule.BadKind kind) by refused = refused
names-fault desk command (rule.UnknownUser uid) by refused = refused
names-fault desk command (rule.OtherPackage name) by refused = refused
names-fault desk command (rule.OtherAuthor author) by refused = refused
names-fault desk command (rule.OtherHybrid hybrid) by refused = refused
names-fault desk command rule.NotInstalled by refused = refused
names-fault desk command (rule.Limit counted most) by refused = refused
names-fault desk command (rule.Cycle name) by refused = refused
names-fault desk command (rule.Memory error) by refused = absurd by

pub commits-refused : (command : Command) (settled : AdminSide) (refusal : Refusal) (replies : List Message)
    → Refuses settled.desk command refusal → IsByRule refusal × (replies ≡ message.Refused refusal ∷ [])
    → Commits command settled settled replies
commits-refused command settled refusal replies refused (by, told) =
    inr (inl (record {
      refusal = refusal;
      rule = names-fault settled.desk command refusal by refused;
      leaves = refl;
      answered = told;
    }))

-- ---- a message

pub answers-command : (told : Option DiskState) (asked : Message) (found : Option Command) (command : Command) (old now : AdminSide)
    (replies : List Message) → found ≡ command_of asked → found ≡ Some command → Obeys told command old now replies
    → Answers told asked old now replies
answers-command told asked found command old now replies is some obeys =
    subst (λ (found : Option Command). AnswersBy told found asked old now replies) (sym some ∙ is) obeys

pub answers-other : (told : Option DiskState) (asked : Message) (found : Option Command) (old now : AdminSide)
    (replies : List Message) → found ≡ command_of asked → found ≡ None → AnswersBy told None asked old now replies
    → Answers told asked old now replies
answers-other told asked found old now replies is none answers =
    subst (λ (found : Option Command). AnswersBy told found asked old now replies) (sym none ∙ is) answers

pub refuses-by : (told : Option DiskState) (asked : Message) (found other : Option Command) (old now : AdminSide)
    → found ≡ command_of asked → found ≡ other → RefusesBy told other old now → RefusesBy told (command_of asked) old now
refuses-by told asked found other old now is same refuses =
    subst (λ (found : Option Command). RefusesBy told found old now) (sym same ∙ is) refuses

-- nothing was done
pub unbegun : (told : Option DiskState) (found : Option Command) (side : AdminSide) → RefusesBy told found side side
unbegun told (Some command) side = inr (inr refl)
unbegun told None side = refl
