-- The calls that were made for checks whose replies were not sent.
use Rattle.std.proofs.Common.{◌≡◌, ◌≤◌, ℕ, true, List, [], ◌∷◌, ◌++◌, Option, refl, sym, subst, append_assoc, arith}
use Rattle.std.specs.List.{AllByRecursion}
use Rattle.desk_state.specs.DeskState.{DeskState}
use Rattle.live_desk.specs.History.{last_commit}
use Rattle.live_desk.specs.Seat.{SeatState}
use Rattle.desk_world.specs.Links.{may_read}
use Rattle.desk_world.specs.declared.links.Reading.{Reading}
use Rattle.desk_world.specs.declared.links.Reading.TheVariants.{Nothing, Ready, Due, Waiting}
use Rattle.desk_world.specs.declared.replies.Reply.{Reply}
use Rattle.wire_reading.specs.Stream.{Hears}
use Rattle.wire_fields.specs.declared.messages.Framed.{Framed}
use Rattle.wire_fields.specs.declared.operations.Heard.TheVariants.{AtClient}
use Rattle.server_hall.specs.Call.{AskMade}
use Rattle.client_door.specs.Check.{framed_of}
use Rattle.client_door.specs.Reading.{reading}
use Rattle.client_door.specs.Answered.{Answered, Answers, IsRight, call_list, calls_for, frames_of, StandsIn, AreReadIn, read_up_to}
use Rattle.client_door.specs.Serving.{IsCallFor}
use Rattle.client_door.specs.declared.checks.Check.{Check}
use Rattle.client_door.proofs.Published.{reads_between, read_from, read_to}

pub back_right : (answered more : List Answered) → AllByRecursion IsRight (answered ++ more) → AllByRecursion IsRight more
back_right [] more all = all
back_right (one ∷ answered) more (first, rest) = back_right answered more rest

pub back_read : (seen : List DeskState) (low : ℕ) (answered more : List Answered) → AreReadIn seen low (answered ++ more)
    → AreReadIn seen (read_up_to low answered) more
back_read seen low [] more read = read
back_read seen low (one ∷ answered) more (there, fresh, others) = back_read seen one.desk.commit answered more others

-- no check was read above the last of the states
pub read_below : (seen : List DeskState) (low : ℕ) (answered more : List Answered) → low ≤ last_commit 0 seen
    → AreReadIn seen low (answered ++ more) → read_up_to low answered ≤ last_commit 0 seen
read_below seen low [] more below read = below
read_below seen low (one ∷ answered) more below (there, fresh, others) =
    read_below seen one.desk.commit answered more (read_to low (last_commit 0 seen) one.desk.commit fresh) others

pub all_calls : (P : AskMade → Type 0) (calls more : List AskMade) → AllByRecursion P calls → AllByRecursion P more
    → AllByRecursion P (calls ++ more)
all_calls P [] more first others = others
all_calls P (call ∷ calls) more (first, rest) others = (first, all_calls P calls more rest others)

-- the call that was made for one check, if one was
call_of : (seat : SeatState) (received : List ℕ) (sent : List Answered) (between behind : List Framed) (rest : List ℕ) (check : Check)
    (desk : DeskState) (call : Option AskMade) (reply : Reply) (seen : Reading) → reading desk check ≡ seen
    → Answers seen check.question call reply → StandsIn desk seat.seen
    → may_read (read_up_to seat.note sent) (last_commit 0 seat.seen) desk.commit ≡ true
    → Hears AtClient received (frames_of sent ++ (between ++ framed_of check ∷ behind)) rest
    → AllByRecursion (IsCallFor seat received sent) (call_list call)
call_of seat received sent between behind rest check desk call reply (Ready read) is (none, said) there fresh heard =
    subst (λ (made : Option AskMade). AllByRecursion (IsCallFor seat received sent) (call_list made)) (sym none) tt
call_of seat received sent between behind rest check desk call reply (Due commit kind metadata) is (result, made, leads) there fresh heard =
    subst (λ (made : Option AskMade). AllByRecursion (IsCallFor seat received sent) (call_list made)) (sym made) (
      record {
        check = check;
        desk = desk;
        commit = commit;
        read = is;
        question = refl;
        stands = there;
        fresh = fresh;
        heard = (between, behind, rest, heard);
      },
      tt,
    )
call_of seat received sent between behind rest check desk call reply Nothing is wrong there fresh heard = absurd wrong
call_of seat received sent between behind rest check desk call reply (Waiting commit kind number) is wrong there fresh heard = absurd wrong

-- those that were made for checks in turn
pub unsent_calls : (seat : SeatState) (received : List ℕ) (sent : List Answered) (between : List Framed) (more : List Answered)
    (behind : List Framed) (rest : List ℕ) (low : ℕ) → read_up_to seat.note sent ≤ low → AllByRecursion IsRight more
    → AreReadIn seat.seen low more
    → Hears AtClient received (frames_of sent ++ (between ++ (frames_of more ++ behind))) rest
    → AllByRecursion (IsCallFor seat received sent) (calls_for more)
unsent_calls seat received sent between [] behind rest low note right read heard = tt
unsent_calls seat received sent between (one ∷ more) behind rest low note (right, others) (there, fresh, read) heard =
    let up : low ≤ one.desk.commit = read_from low (last_commit 0 seat.seen) one.desk.commit fresh in
    let may : may_read (read_up_to seat.note sent) (last_commit 0 seat.seen) one.desk.commit ≡ true =
    reads_between (read_up_to seat.note sent) (last_commit 0 seat.seen) one.desk.commit (omega (arith, note, up))
    (read_to low (last_commit 0 seat.seen) one.desk.commit fresh) in
    all_calls (IsCallFor seat received sent) (call_list one.call) (calls_for more)
    (call_of seat received sent between (frames_of more ++ behind) rest one.check one.desk one.call one.reply
    (reading one.desk one.check) refl right there may heard)
    (unsent_calls seat received sent (between ++ framed_of one.check ∷ []) more behind rest one.desk.commit (omega (arith, note, up))
    others read
    (subst (λ (list : List Framed). Hears AtClient received (frames_of sent ++ list) rest)
    (sym (append_assoc between (framed_of one.check ∷ []) (frames_of more ++ behind))) heard))
