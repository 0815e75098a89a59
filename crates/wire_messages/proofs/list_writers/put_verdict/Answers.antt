use Rattle.std.proofs.Common.{◌++◌, ◌≡◌, rules}
use Rattle.std.specs.Int.{w64, to_be_bytes}
use Rattle.wire_fields.specs.Field.{ruling, bucket, optional, row}
use Rattle.wire_fields.specs.Appended.{Appended}
use Rattle.wire_fields.proofs.Appending.{then_last}
use Rattle.wire_messages.proofs.list_writers.put_verdict.Goals as goal

pub returns : goal.returns
returns c =
    let verdict = c.args.verdict.now in
    let answer = verdict.answer in
    let commit = to_be_bytes w64 verdict.commit in
    let result = ruling.spelled (record { kind = answer.kind.0; metadata = answer.metadata }) in
    let name = bucket.spelled answer.cause.bucket in
    let last = (optional row).spelled answer.cause.row in
    let out = c.args.out.now in
    let one = c.put8.new.out in
    let two = c.put_kind_and_metadata.new.out in
    let three = c.put_text.new.out in
    let all = c.put_optional_row.new.out in
    let first : one ≡ out ++ commit = search rules in
    let second : two ≡ one ++ result = search rules in
    let third : three ≡ two ++ name = search rules in
    let fourth : Appended c.put_optional_row.result three all last = search rules in
    then_last c.put_optional_row.result out one all commit (result ++ (name ++ last)) first
    (then_last c.put_optional_row.result one two all result (name ++ last) second
    (then_last c.put_optional_row.result two three all name last third fourth))
