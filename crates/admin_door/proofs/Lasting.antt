-- What was answered as done lasts: from then on no stop leaves an older state.
use Rattle.std.proofs.Common.{◌≡◌, ◌≤◌, ◌∙◌, inl, inr, ℕ, ◌+◌, List, [], ◌∷◌, ◌++◌, Option, Some, Ok, refl, sym, ap, subst, arith}
use Rattle.desk_ports.specs.FileMap.{FileMap}
use Rattle.desk_ports.specs.Disk.{DiskState}
use Rattle.desk_ports.specs.declared.file_sets.SetFile.{SetFile}
use Rattle.desk_state.specs.DeskState.{DeskState}
use Rattle.desk_state.specs.declared.commands.Command.{Command}
use Rattle.desk_keeper.specs.Kept.{Standing, standing}
use Rattle.desk_keeper.proofs.Keeping.{standing-kept}
use Rattle.desk_keeper.specs.Keeping.{IsKept}
use Rattle.wire_messages.specs.Commands.{command_of}
use Rattle.wire_fields.specs.declared.messages.Message.{Message}
use Rattle.wire_fields.specs.declared.messages.Message.TheVariants.{Done}
use Rattle.admin_door.specs.Serving.{Exchange}
use Rattle.admin_door.specs.Running.{Makes, IsBehind, LeadsTo, LeadsWithin, StandsSince, HasCommit}
use Rattle.admin_door.proofs.Running.{leads-split}

same-desk : (found : Standing) (one other : DeskState) → found ≡ Ok one → found ≡ Ok other → one ≡ other
same-desk found one other first second = let same = sym first ∙ second in cc

-- a command's state has the next commit
grows : (desk : DeskState) (message : Message) (after : DeskState) → Makes (Ok desk) message after → desk.commit ≤ after.commit
grows desk message after makes =
    let same : desk.commit ≡ makes.desk.commit =
    ap (λ (desk : DeskState). desk.commit) (same-desk (Ok desk) desk makes.desk refl makes.stood) in
    let next : after.commit ≡ makes.desk.commit + 1 = ap (λ (desk : DeskState). desk.commit) makes.makes in
    omega (arith, same, next)

more-commits : (least : ℕ) (one : DeskState) (left : Standing) → least ≤ one.commit → HasCommit one.commit left → HasCommit least left
more-commits least one left within (desk, is, count) = (desk, is, omega (arith, within, count))

within-commit : (desk : DeskState) (es : List Exchange) (left : Standing) → LeadsWithin (Ok desk) es left → HasCommit desk.commit left
within-commit desk [] left is = (desk, is, omega arith)
within-commit desk (e ∷ es) left (inl (inl is)) = (desk, is, omega arith)
within-commit desk (e ∷ es) left (inl (inr (after, makes, is))) = (after, is, grows desk e.framed.message after makes)
within-commit desk (e ∷ es) left (inr (between, behind, rest)) =
    by_behind behind (λ (at : DeskState) within. within-commit at es left within)
  where
    by_behind : IsBehind (Ok desk) e between
        → ((at : DeskState) → LeadsWithin (Ok at) es left → HasCommit at.commit left) → HasCommit desk.commit left
    by_behind (inl (not_done, is)) again = again desk (subst (λ (at : Standing). LeadsWithin at es left) is rest)
    by_behind (inr (after, makes, tells, is)) again =
        more-commits desk.commit after left (grows desk e.framed.message after makes)
        (again after (subst (λ (at : Standing). LeadsWithin at es left) is rest))

-- behind a command that was answered as done stands a state with its commit
done-commit : (found : Standing) (exchange : Exchange) (left : Standing) (command : Command) (commit erased : ℕ)
    → command_of exchange.framed.message ≡ Some command → exchange.replies ≡ Done commit erased ∷ [] → IsBehind found exchange left
    → (after : DeskState) × (left ≡ Ok after) × (commit ≡ after.commit)
done-commit found exchange left command commit erased asks done (inl (not_done, is)) = absurd (not_done command commit erased asks done)
done-commit found exchange left command commit erased asks done (inr (after, makes, tells, is)) = (after, is, tells commit erased done)

pub lasts : (before : DiskState) (front back : List Exchange) (exchange : Exchange) (command : Command) (commit erased : ℕ)
    (left : FileMap) → command_of exchange.framed.message ≡ Some command → exchange.replies ≡ Done commit erased ∷ []
    → StandsSince before (front ++ exchange ∷ []) back left → HasCommit commit (standing left)
lasts before front back exchange command commit erased left asks done (other, between, may, leads, within) =
    let parts = leads-split (standing other) front (exchange ∷ []) between leads in
    let (at, behind, is_last) = parts.2 in
    let made = done-commit parts.0 exchange at command commit erased asks done behind in
    let is : between ≡ Ok made.0 = is_last ∙ made.1 in
    more-commits commit made.0 (standing left) (omega (arith, made.2))
    (within-commit made.0 back (standing left) (subst (λ (at : Standing). LeadsWithin at back (standing left)) is within))

-- from a folder of which it is known what it keeps
pub leads-on : (desk : DeskState) (held : Option (List SetFile)) (before : DiskState) (front back : List Exchange) (left : FileMap)
    → IsKept desk held before → StandsSince before front back left
    → (between : Standing) × LeadsTo (Ok desk) front between × LeadsWithin between back (standing left)
leads-on desk held before front back left known (other, between, may, leads, within) =
    (between, subst (λ (at : Standing). LeadsTo at front between) (standing-kept other desk (known.alone other may)) leads, within)
