-- A check that is read where it stands, in the piece that was received.
use Rattle.std.specs.Prelude.{◌≡◌, ◌==◌, ℕ, List, ◌++◌}
use Rattle.bucket_eval.specs.declared.answers.Verdict.{Verdict}
use Rattle.desk_world.specs.declared.links.Reading.{Reading}
use Rattle.desk_world.specs.declared.links.Reading.TheVariants.{Ready}
use Rattle.desk_world.specs.declared.replies.Reply.TheVariants.{Judged as IsJudged}
use Rattle.wire_reading.specs.Frame.{spelling, with_sequence}
use Rattle.wire_reading.specs.declared.lent_checks.LentCheck.{LentCheck}
use Rattle.client_door.specs.Check.{message_of}
use Rattle.client_door.specs.declared.checks.Check.{Check}
use Rattle.client_door.specs.declared.judging.Ruling.{Ruling}
use Rattle.client_door.specs.declared.judging.Ruling.TheVariants.{Ruled, Left, Memory}

-- the check that it is
abbrev pub check_read : LentCheck → Check
check_read lent = record { sequence = lent.sequence; simple = lent.simple; question = lent.question }

-- Where the policies judge what was read, their reply stands behind what the buffer had; else the buffer is as it was.
abbrev pub Rules : ℕ → Reading → List ℕ → List ℕ → Ruling → Type 0
Rules sequence seen old new (Ruled commit allowed) = (verdict : Verdict)
    × (seen ≡ Ready (IsJudged verdict))
    × (new ≡ old ++ spelling (with_sequence sequence (message_of (IsJudged verdict))))
    × (commit ≡ verdict.commit)
    × (allowed ≡ (verdict.answer.kind.0 == 65535))
Rules sequence seen old new Left = new ≡ old
Rules sequence seen old new Memory = new ≡ old

-- how many replies were put
abbrev pub replies_of : Ruling → ℕ
replies_of (Ruled commit allowed) = 1
replies_of other = 0
