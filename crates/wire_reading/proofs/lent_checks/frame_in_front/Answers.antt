use Rattle.std.proofs.Common.{rules, arith, ◌≡◌, ◌≤◌, ◌<◌, ◌+◌, true, false, length, take}
use Rattle.std.specs.Prelude.{is_none}
use Rattle.wire_reading.specs.Frame.{length_of, length_fault}
use Rattle.wire_fields.proofs.FieldLaws.{none_is}
use Rattle.wire_reading.proofs.LentChecks.{short_none, fault_none, unfinished_none, front_frame}
use Rattle.wire_reading.proofs.lent_checks.frame_in_front.Goals as goal

pub returns-then-bytes-lt4-clause-none : goal.returns-then-bytes-lt4-clause-none
returns-then-bytes-lt4-clause-none c =
    let short : length c.args.bytes.now < 4 = omega arith in
    short_none c.args.bytes.now short

pub returns-then-not-is_right_length-clause-none : goal.returns-then-not-is_right_length-clause-none
returns-then-not-is_right_length-clause-none c =
    let bytes = c.args.bytes.now in
    let long : 4 ≤ length bytes = omega arith in
    let some : is_none (length_fault (length_of bytes)) ≡ false = search rules in
    fault_none bytes long some

pub returns-then-bytes-size-clause-none : goal.returns-then-bytes-size-clause-none
returns-then-bytes-size-clause-none c =
    let bytes = c.args.bytes.now in
    let long : 4 ≤ length bytes = omega arith in
    let right : is_none (length_fault (length_of bytes)) ≡ true = search rules in
    let size : c.length_of-length.result ≡ length_of bytes = search rules in
    let less : length bytes < length_of bytes + 4 = omega (arith, size) in
    unfinished_none bytes long (none_is (length_fault (length_of bytes)) right) less

pub returns-clause-whole : goal.returns-clause-whole
returns-clause-whole c =
    let bytes = c.args.bytes.now in
    let long : 4 ≤ length bytes = omega arith in
    let right : is_none (length_fault (length_of bytes)) ≡ true = search rules in
    let size : c.length_of-length.result ≡ length_of bytes = search rules in
    let whole : length_of bytes + 4 ≤ length bytes = omega (arith, size) in
    let front : c.split_at.result.0.now ≡ take (length_of bytes + 4) bytes = search rules in
    front_frame bytes c.split_at.result.0.now long (none_is (length_fault (length_of bytes)) right) whole front
