use Rattle.std.proofs.Common.{◌∷◌, ◌++◌, [], ℕ, List}
use Rattle.std.specs.Int.{w64, to_be_bytes}
use Rattle.wire_fields.specs.Format.{text}
use Rattle.wire_fields.proofs.Appending.{then_last}
use Rattle.wire_messages.proofs.list_writers.put_number.Goals as goal

pub returns : goal.returns
returns c =
    let rule : List ℕ = c.args.rule ∷ [] in
    let none = text.spelled [] in
    let value = to_be_bytes w64 c.args.value in
    then_last c.put8.result c.args.out.now c.put1.new.out c.put8.new.out rule (none ++ value) c.in_ok-put1.ensures
    (then_last c.put8.result c.put1.new.out c.put_text.new.out c.put8.new.out none value
    c.in_ok-put_text.ensures.appended c.put8.ensures)
