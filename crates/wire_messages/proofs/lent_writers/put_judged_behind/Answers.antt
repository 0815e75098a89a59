use Rattle.std.proofs.Common.{rules, ◌≡◌, ℕ, ◌+◌, List, ◌++◌, ◌∷◌, length, ap, ◌∙◌}
use Rattle.bucket_eval.specs.Found.{answer_of}
use Rattle.bucket_eval.specs.Lent.{outcome_lent}
use Rattle.wire_fields.specs.Format.{text}
use Rattle.bucket_eval.specs.declared.answers.Verdict.{Verdict}
use Rattle.wire_messages.proofs.Lending.{verdict_short}
use Rattle.wire_messages.proofs.Behind.{head, key_few, parts_are}
use Rattle.wire_messages.proofs.lent_writers.put_judged_behind.Goals as goal

pub judged_length-length-requires-clause-key : goal.judged_length-length-requires-clause-key
judged_length-length-requires-clause-key c =
    let verdict : Verdict = record { commit = c.args.commit; answer = answer_of (outcome_lent c.args.answer.now) } in
    key_few c.flag_and_key-flag.result.0 c.flag_and_key-flag.result.1.now verdict.answer.cause.row
    c.flag_and_key-flag.ensures.spelled (verdict_short verdict c.requires).row

pub returns-in-Ok-clause-spelled : goal.returns-in-Ok-clause-spelled
returns-in-Ok-clause-spelled c =
    let verdict : Verdict = record { commit = c.args.commit; answer = answer_of (outcome_lent c.args.answer.now) } in
    let metadata = verdict.answer.metadata in
    let bucket = verdict.answer.cause.bucket in
    let flag = c.flag_and_key-flag.result.0 in
    let key = c.flag_and_key-flag.result.1.now in
    let size = c.judged_length-length.result in
    let is_size : size ≡ 18 + length metadata + length bucket + length key = search rules in
    let is_metadata : c.as_slice-metadata.result.now ≡ metadata = search rules in
    let is_bucket : c.as_slice-bucket.result.now ≡ bucket = search rules in
    let is_kind : c.kind-kind.result.0 ≡ verdict.answer.kind.0 = search rules in
    let is_head : c.judged_head-head.result
    ≡ head size c.args.sequence verdict.commit verdict.answer.kind.0 (length metadata) =
    c.judged_head-head.ensures
    ∙ (λ i. head size c.args.sequence verdict.commit (is_kind i) (length (is_metadata i))) in
    let put : c.put_parts.new.out ≡ c.args.out.now ++ ((c.judged_head-head.result ++ c.as_slice-metadata.result.now)
    ++ (text.spelled c.as_slice-bucket.result.now ++ (flag ∷ key))) = c.in-Ok.ensures.spelled in
    let same : (c.judged_head-head.result ++ c.as_slice-metadata.result.now)
    ++ (text.spelled c.as_slice-bucket.result.now ++ (flag ∷ key))
    ≡ (head size c.args.sequence verdict.commit verdict.answer.kind.0 (length metadata) ++ metadata)
    ++ (text.spelled bucket ++ (flag ∷ key)) =
    (λ i. (is_head i ++ is_metadata i) ++ (text.spelled (is_bucket i) ++ (flag ∷ key))) in
    put ∙ ap (λ (frame : List ℕ). c.args.out.now ++ frame)
    (same ∙ parts_are c.args.sequence size flag key verdict c.flag_and_key-flag.ensures.spelled is_size)
