-- Reading up to the next line, one reading after another.
use Rattle.std.proofs.Common.{◌+◌, ◌-◌, ℕ, cond, List, ◌++◌, length, Option, Err, sym, ap, ◌∙◌, subst, arith, append_assoc}
use Rattle.desk_ports.proofs.Readings.{Took-then}
use Rattle.text_lines.specs.Lines.{HasNoNewline}
use Rattle.text_lines.specs.LineReader.{LineReading, Keeps, IsUnfinished, GoesPast}
use Rattle.text_lines.specs.parts.Gathering.{Gathers, IsPastLimit, FailsToRead}
use Rattle.text_lines.specs.declared.refusal.ReadRefusal.{ReadRefusal}
use Rattle.text_lines.specs.declared.refusal.ReadRefusal.TheVariants.{PastLimit, Source, Memory}

module _ {left left_now left_after : Option (List ℕ)} {old now new : LineReading} where
  pub Keeps-then : Keeps left left_now old now → Keeps left_now left_after now new → Keeps left left_after old new
  Keeps-then first second =
      record {
        given = first.given ++ second.given;
        took = Took-then left left_now left_after first.given second.given first.took second.took;
        ended = λ ended. ap (λ given. given ++ second.given) (first.ended ended) ∙ second.ended (first.stays_ended ended);
        stays_ended = λ ended. second.stays_ended (first.stays_ended ended);
        waiting = second.waiting
            ∙ (ap (λ waiting. waiting ++ second.given) first.waiting ∙ append_assoc old.waiting first.given second.given);
        number = second.number ∙ first.number;
        room = second.room ∙ first.room;
        longest = second.longest ∙ first.longest;
      }

-- the line that waits is past a limit
pub Gathers-past : {left left_after : Option (List ℕ)} {old new : LineReading} (refusal : ReadRefusal)
    → Keeps left left_after old new → IsPastLimit new refusal → Gathers left left_after old new (Err refusal)
Gathers-past {old = old} {new = new} (PastLimit number) kept past = (
  kept,
  past.0 ∙ ap (λ n. n + 1) kept.number,
  subst (λ longest. GoesPast longest old.room new.waiting) kept.longest
      (subst (λ room. GoesPast new.longest room new.waiting) kept.room past.1),
)
Gathers-past Source kept past = absurd past
Gathers-past (Memory error) kept past = absurd past

-- a reading failed
pub Gathers-failed : {left left_now left_after : Option (List ℕ)} {old now new : LineReading} (refusal : ReadRefusal)
    → Keeps left left_now old now → IsUnfinished now → Keeps left_now left_after now new → FailsToRead now new refusal
    → Gathers left left_after old new (Err refusal)
Gathers-failed (PastLimit number) before unfinished behind failed = absurd failed.outside
Gathers-failed {now = now} {new = new} Source before unfinished behind failed = (
  Keeps-then before behind,
  record {
    no_newline = subst HasNoNewline (sym failed.waiting) unfinished.no_newline;
    short = omega (arith, unfinished.short, behind.longest, ap length failed.waiting);
    within = omega (arith, unfinished.within, behind.room, ap length failed.waiting);
  },
)
Gathers-failed (Memory error) before unfinished behind failed = Keeps-then before behind

-- how far the reading is from the end of the text, or from its limit
abbrev pub distance : LineReading → ℕ
distance reading = (reading.room + 1 - length reading.waiting) + cond reading.is_ended 0 1
