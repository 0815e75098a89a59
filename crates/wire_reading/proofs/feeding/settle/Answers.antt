use Rattle.std.proofs.Common.{rules, arith, ◌≡◌, ◌≤◌, ◌<◌, ◌+◌, ◌++◌, ◌∷◌, [], length, Some, None, Result, Ok, refl, ap}
use Rattle.std.proofs.Common.{◌∙◌}
use Rattle.wire_fields.specs.declared.messages.Framed.{Framed}
use Rattle.wire_fields.specs.declared.refusals.WireRefusal.{WireRefusal}
use Rattle.wire_fields.specs.Left.{Refuses}
use Rattle.wire_reading.specs.Frame.{length_of, length_fault, frame_of}
use Rattle.wire_reading.specs.Stream.{Whole, first_of, front_of}
use Rattle.wire_reading.proofs.Settling.{kept, short_open, begins_wrong, length_wrong, not_finished, finished}
use Rattle.wire_reading.proofs.Settling.{heard_whole, refused_whole}
use Rattle.wire_reading.specs.Hearing.{IsHeard}
use Rattle.wire_reading.proofs.Hearings.{all_and_one}
use Rattle.wire_reading.proofs.feeding.settle.Goals as goal

pub returns-then-bytes-lt4-clause-settled : goal.returns-then-bytes-lt4-clause-settled
returns-then-bytes-lt4-clause-settled c =
    let bytes = c.args.bytes.now in
    let short : length bytes < 4 = omega arith in
    kept c.args.heard bytes c.args.waiting.now.items (short_open c.args.heard bytes short)

pub returns-in-Some-clause-refused : goal.returns-in-Some-clause-refused
returns-in-Some-clause-refused c =
    let bytes = c.args.bytes.now in
    let long : 4 ≤ length bytes = omega arith in
    let fault : length_fault (length_of bytes) ≡ Some c.in-Some.fault = search rules in
    record {
      waiting = refl;
      wrong = begins_wrong c.args.heard bytes c.in-Some.fault
          (length_wrong c.args.heard bytes c.in-Some.fault long fault);
    }

pub returns-then-bytes-length-clause-settled : goal.returns-then-bytes-length-clause-settled
returns-then-bytes-length-clause-settled c =
    let bytes = c.args.bytes.now in
    let long : 4 ≤ length bytes = omega arith in
    let none : length_fault (length_of bytes) ≡ None = search rules in
    let size : c.length_of-length.result ≡ length_of bytes = search rules in
    let less : length bytes < length_of bytes + 4 = omega (arith, size) in
    kept c.args.heard bytes c.args.waiting.now.items (not_finished c.args.heard bytes long none less)

pub returns-in-Ok-push_back-clause-settled : goal.returns-in-Ok-push_back-clause-settled
returns-in-Ok-push_back-clause-settled c =
    let bytes = c.args.bytes.now in
    let long : 4 ≤ length bytes = omega arith in
    let none : length_fault (length_of bytes) ≡ None = search rules in
    let size : c.length_of-length.result ≡ length_of bytes = search rules in
    let same : length bytes ≡ length_of bytes + 4 = omega (arith, size, c.requires) in
    let read : frame_of c.args.heard bytes ≡ Ok c.in-Ok.framed = search rules in
    let whole : first_of c.args.heard bytes ≡ Whole c.in-Ok.framed [] =
    finished c.args.heard bytes long none same ∙ ap (λ (r : Result Framed WireRefusal). front_of r []) read in
    let pushed : c.push_back.new.self.items ≡ c.args.waiting.now.items ++ c.in-Ok.framed ∷ [] = search rules in
    rw pushed (heard_whole c.args.heard bytes c.in-Ok.framed c.args.waiting.now.items whole)

pub returns-in-Err-clause-refused : goal.returns-in-Err-clause-refused
returns-in-Err-clause-refused c =
    let bytes = c.args.bytes.now in
    let long : 4 ≤ length bytes = omega arith in
    let none : length_fault (length_of bytes) ≡ None = search rules in
    let size : c.length_of-length.result ≡ length_of bytes = search rules in
    let same : length bytes ≡ length_of bytes + 4 = omega (arith, size, c.requires) in
    let refused : Refuses c.in-Err.refusal (frame_of c.args.heard bytes) = search rules in
    record {
      waiting = refl;
      wrong = refused_whole c.args.heard bytes c.in-Err.refusal (finished c.args.heard bytes long none same) refused;
    }

pub returns-in-Ok-push_back-clause-right : goal.returns-in-Ok-push_back-clause-right
returns-in-Ok-push_back-clause-right c all =
    let pushed : c.push_back.new.self.items ≡ c.args.waiting.now.items ++ c.in-Ok.framed ∷ [] = search rules in
    rw pushed
    (all_and_one (IsHeard c.args.heard) c.args.waiting.now.items c.in-Ok.framed all c.in-Ok.ensures.found.0)
