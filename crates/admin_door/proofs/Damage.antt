-- A damage that is told is what is read behind the command.
use Rattle.std.proofs.Common.{◌≡◌, ◌∙◌, inl, inr, ℕ, List, [], ◌∷◌, Option, Result, Ok, Err, MatchResult, IfOk, IfErr, sym, subst}
use Rattle.desk_ports.specs.Disk.{DiskState}
use Rattle.desk_state.specs.DeskState.{DeskState}
use Rattle.desk_state.specs.declared.commands.Command.{Command}
use Rattle.wire_fields.specs.declared.messages.Message.{Message}
use Rattle.wire_fields.specs.declared.messages.Message.TheVariants.{StoreDamaged}
use Rattle.admin_door.specs.Side.{AdminSide}
use Rattle.admin_door.specs.Settling.{LacksMemoryAlone, ReadsDamaged, IsStillDamaged, TellsDamage}
use Rattle.admin_door.specs.Answering.{AnswersUnsettled, Commits}
use Rattle.desk_keeper.specs.declared.refusals.KeeperRefusal.{KeeperRefusal}
use Rattle.desk_keeper.specs.declared.refusals.KeeperRefusal.TheVariants as why

-- what follows from one outcome
pub ok-way : {V E : Type 0} (result : Result V E) (P Q : V → Type 0) (R : E → Type 0) → ((value : V) → P value → Q value)
    → MatchResult result P R → IfOk result Q
ok-way (Ok value) P Q R right is = right value is
ok-way (Err error) P Q R right is = tt

pub err-way : {V E : Type 0} (result : Result V E) (P : V → Type 0) (R S : E → Type 0) → ((error : E) → R error → S error)
    → MatchResult result P R → IfErr result S
err-way (Ok value) P R S wrong is = tt
err-way (Err error) P R S wrong is = wrong error is

-- nothing was damaged where memory was wanting
pub unharmed : (last : DeskState) (told : Option DiskState) (reason : KeeperRefusal) → LacksMemoryAlone reason
    → IsStillDamaged last told reason
unharmed last told why.StoreFault is = absurd is
unharmed last told (why.Damaged file line) is = absurd is
unharmed last told (why.Memory error) is = tt

pub commits-undamaged : (last : DeskState) (told : Option DiskState) (command : Command) (settled now : AdminSide) (replies : List Message)
    → Commits command settled now replies → TellsDamage last told replies
commits-undamaged last told command settled now replies (inl done) file line is = let same = sym done.answered ∙ is in cc
commits-undamaged last told command settled now replies (inr (inl refused)) file line is = let same = sym refused.answered ∙ is in cc
commits-undamaged last told command settled now replies (inr (inr failed)) file line is = let same = sym failed.answered ∙ is in cc

same-file : (file other : List ℕ) (line number : ℕ) → StoreDamaged file line ∷ [] ≡ StoreDamaged other number ∷ [] → file ≡ other
same-file file other line number same = cc

same-line : (file other : List ℕ) (line number : ℕ) → StoreDamaged file line ∷ [] ≡ StoreDamaged other number ∷ [] → line ≡ number
same-line file other line number same = cc

pub unsettled-damaged : (last : DeskState) (told : Option DiskState) (reason : KeeperRefusal) (replies : List Message)
    → AnswersUnsettled reason replies → IsStillDamaged last told reason → TellsDamage last told replies
unsettled-damaged last told why.StoreFault replies answers damaged file line is = let same = sym answers ∙ is in cc
unsettled-damaged last told (why.Damaged found number) replies answers damaged file line is =
    let same = sym answers ∙ is in
    subst (λ file. ReadsDamaged last told file line) (same-file found file number line same)
    (subst (λ line. ReadsDamaged last told found line) (same-line found file number line same) damaged)
unsettled-damaged last told (why.Memory error) replies answers damaged file line is = absurd answers
