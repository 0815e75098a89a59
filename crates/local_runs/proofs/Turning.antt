-- One turn of answering a script, from its parts.
use Rattle.std.proofs.Common.{◌≡◌, ◌++◌, ◌∷◌, [], ℕ, true, false, List, Option, Ok, Err, inl, inr, refl, sym, ap, ◌∙◌}
use Rattle.std.proofs.Common.{subst, append-nil, append_assoc}
use Rattle.desk_ports.specs.Content.{Took, Appended, AppendedPart}
use Rattle.desk_ports.proofs.Appends.{Appended-then, AppendedPart-then}
use Rattle.text_lines.specs.Lines.{HasNoNewline}
use Rattle.text_lines.specs.LineReader.{LineReading, HandsOut, HandsOutNext, Ends, EndsReading, has_line}
use Rattle.text_lines.specs.declared.refusal.ReadRefusal.{ReadRefusal}
use Rattle.text_lines.specs.declared.refusal.ReadRefusal.TheVariants.{PastLimit, Source as SourceFailed}
use Rattle.text_lines.specs.declared.refusal.ReadRefusal.TheVariants.{Memory as NoMemory}
use Rattle.text_lines.proofs.Newlines.{list_any-none}
use Rattle.desk_state.specs.DeskState.{DeskState}
use Rattle.line_script.specs.Grammar.{step_at}
use Rattle.script_replies.specs.Reply.{reply, shares_after}
use Rattle.run_endings.specs.Reading.{reading_ending}
use Rattle.local_runs.specs.parts.Local.{Hands, HandsOver, AnswersLine, RefusesLine, Turns}
use Rattle.local_runs.specs.declared.local_script.LocalScript.{LocalScript}
use Rattle.run_endings.specs.declared.endings.Ending.{Ending}
use Rattle.run_endings.specs.declared.endings.Ending.TheVariants.{Done, Memory, Words, Line, Source, Sink, Disk, Net}
use Rattle.run_endings.specs.declared.endings.Ending.TheVariants.{Damaged, Reply, TooLong}

front_is_nil : (xs ys : List ℕ) → [] ≡ xs ++ ys → xs ≡ []
front_is_nil [] ys same = refl
front_is_nil (x ∷ xs) ys same = cc

HasNoNewline-front : (xs ys : List ℕ) → HasNoNewline (xs ++ ys) → HasNoNewline xs
HasNoNewline-front [] ys none = tt
HasNoNewline-front (x ∷ xs) ys none = (none.0, HasNoNewline-front xs ys none.1)

all_handed : (taken taken_after : Option (List ℕ)) (answers waiting : List ℕ) → Hands taken taken_after answers waiting
    → waiting ≡ [] → Appended taken answers taken_after
all_handed taken taken_after answers waiting hands none =
    subst (λ bytes. Appended taken bytes taken_after)
    (sym (hands.parts ∙ (ap (λ rest. hands.handed ++ rest) none ∙ append-nil hands.handed))) hands.appended

-- some answers are handed over, and then some of those that wait
Hands-then : (first second third : Option (List ℕ)) (answers waiting last : List ℕ) → Hands first second answers waiting
    → Hands second third waiting last → Hands first third answers last
Hands-then first second third answers waiting last one two =
    record {
      handed = one.handed ++ two.handed;
      appended = Appended-then first second third one.handed two.handed one.appended two.appended;
      parts = one.parts ∙ ap (λ rest. one.handed ++ rest) two.parts ∙ sym (append_assoc one.handed two.handed last);
    }

-- some answers are handed over, and then all of those that wait, or a part of them
handed-all : (first second third : Option (List ℕ)) (answers waiting : List ℕ) → Hands first second answers waiting
    → Appended second waiting third → Appended first answers third
handed-all first second third answers waiting one two =
    subst (λ bytes. Appended first bytes third) (sym one.parts)
    (Appended-then first second third one.handed waiting one.appended two)

handed-part : (first second third : Option (List ℕ)) (answers waiting : List ℕ) → Hands first second answers waiting
    → AppendedPart second waiting third → AppendedPart first answers third
handed-part first second third answers waiting one two =
    subst (λ bytes. AppendedPart first bytes third) (sym one.parts)
    (AppendedPart-then first second third one.handed waiting one.appended two)

-- the answers that waited were not all taken
pub Turns-unhanded : (left left_after taken taken_after : Option (List ℕ)) (old new : LocalScript) (desk : DeskState)
    (reading reading_after : LineReading) (ending : Ending) → HandsOver taken taken_after old new reading (Err ending)
    → Took left [] left_after
    → Turns left left_after taken taken_after old new desk desk reading reading_after (Err ending)
Turns-unhanded left left_after taken taken_after old new desk reading reading_after Sink handed took =
    record { appended = handed.0; gives = record { given = []; took = took; ended = λ ended. refl }; state = refl }
Turns-unhanded left left_after taken taken_after old new desk reading reading_after Done handed took = absurd handed
Turns-unhanded left left_after taken taken_after old new desk reading reading_after Memory handed took = absurd handed
Turns-unhanded left left_after taken taken_after old new desk reading reading_after Words handed took = absurd handed
Turns-unhanded left left_after taken taken_after old new desk reading reading_after
    (Line number) handed took = absurd handed
Turns-unhanded left left_after taken taken_after old new desk reading reading_after Source handed took = absurd handed
Turns-unhanded left left_after taken taken_after old new desk reading reading_after Disk handed took = absurd handed
Turns-unhanded left left_after taken taken_after old new desk reading reading_after Net handed took = absurd handed
Turns-unhanded left left_after taken taken_after old new desk reading reading_after Reply handed took = absurd handed
Turns-unhanded left left_after taken taken_after old new desk reading reading_after
    (TooLong size) handed took = absurd handed
Turns-unhanded left left_after taken taken_after old new desk reading reading_after
    (Damaged file line) handed took = absurd handed

module _ (left left_after taken taken_mid : Option (List ℕ)) (old mid : LocalScript) (desk : DeskState)
    (reading reading_after : LineReading) (handed : HandsOver taken taken_mid old mid reading (Ok tt)) where
  -- no line was handed out
  pub Turns-refused : (refusal : ReadRefusal) → EndsReading left left_after reading reading_after
      → HandsOutNext left left_after reading reading_after (Err refusal)
      → Turns left left_after taken taken_mid old mid desk desk reading reading_after (Err (reading_ending refusal))
  Turns-refused (PastLimit number) ends next =
      record { hands = handed.0; ends = ends; number = next.1; wrong = inl (next.0, next.2); state = refl }
  Turns-refused SourceFailed ends next =
      let kept = next.0 in
      let none = HasNoNewline-front reading.waiting kept.given (subst HasNoNewline kept.waiting next.1.no_newline) in
      let nothing = handed.1 (list_any-none reading.waiting none) in
      record {
        appended = all_handed taken taken_mid old.answers mid.answers handed.0 nothing;
        nothing = nothing;
        kept = kept;
        unfinished = next.1;
        state = refl;
      }
  Turns-refused (NoMemory error) ends next =
      record { hands = handed.0; gives = record { given = next.given; took = next.took; ended = next.ended }; state = refl }

  -- no line is left
  pub Turns-ended : Ends left left_after reading reading_after → EndsReading left left_after reading reading_after
      → Turns left left_after taken taken_mid old mid desk desk reading reading_after (Ok false)
  Turns-ended ended ends =
      let empty = front_is_nil reading.waiting ended.kept.given (sym ended.nothing ∙ ended.kept.waiting) in
      let nothing = handed.1 (ap (λ waiting. has_line (record reading { waiting = waiting })) empty) in
      record {
        appended = all_handed taken taken_mid old.answers mid.answers handed.0 nothing;
        nothing = nothing;
        same = handed.2;
        state = refl;
        ended = ended;
        ends = ends;
      }

  module _ (taken_after : Option (List ℕ)) (new : LocalScript) (desk_after : DeskState)
      (line : HandsOut left left_after reading reading_after) (ends : EndsReading left left_after reading reading_after) where
    -- a line was handed out and answered
    pub Turns-answered : (text : List ℕ) → text ≡ reading_after.line
        → AnswersLine taken_mid taken_after mid new desk desk_after text
        → Turns left left_after taken taken_after old new desk desk_after reading reading_after (Ok true)
    Turns-answered text same answered =
        let answers = subst (λ text. AnswersLine taken_mid taken_after mid new desk desk_after text) same answered in
        let done = answers.done in
        record {
          line = line;
          ends = ends;
          answers = record {
            step = answers.step;
            reads = ap (λ reader. step_at reader reading_after.line) (sym handed.2.reader) ∙ answers.reads;
            done = record {
              waiting = done.waiting;
              hands = Hands-then taken taken_mid taken_after old.answers mid.answers done.waiting handed.0 done.hands;
              answer = done.answer ∙ ap (λ shares. done.waiting ++ reply desk shares answers.step) handed.2.shares;
              state = done.state;
              sharing = done.sharing ∙ ap (λ shares. shares_after desk shares answers.step) handed.2.shares;
              in_turn = done.in_turn;
            };
          };
        }

    unanswered : (ending : Ending)
        → RefusesLine taken_mid taken_after mid new desk desk_after reading_after.line reading_after.number ending
        → Turns left left_after taken taken_after old new desk desk_after reading reading_after (Err ending)
    unanswered (Line wrong) refuses =
        record {
          hands = rw (refuses.3, refuses.2) handed.0;
          ends = ends;
          number = refuses.0 ∙ line.handed_out.number;
          wrong = inr (line, ap (λ reader. step_at reader reading_after.line) (sym handed.2.reader) ∙ refuses.1);
          state = refuses.4;
        }
    unanswered Memory refuses =
        record {
          hands = Hands-then taken taken_mid taken_after old.answers mid.answers new.answers handed.0 refuses.0;
          gives = record { given = line.given; took = line.took; ended = line.ended };
          state = refuses.1;
        }
    unanswered Sink refuses =
        record {
          appended = handed-part taken taken_mid taken_after old.answers mid.answers handed.0 refuses.0;
          gives = record { given = line.given; took = line.took; ended = line.ended };
          state = refuses.1;
        }
    unanswered Disk refuses =
        let fails = refuses.fails in
        record {
          line = line;
          ends = ends;
          fails = record {
            step = refuses.step;
            reads = ap (λ reader. step_at reader reading_after.line) (sym handed.2.reader) ∙ refuses.reads;
            fails = record {
              command = fails.command;
              is = fails.is;
              accepted = fails.accepted;
              appended = handed-all taken taken_mid taken_after old.answers mid.answers handed.0 fails.appended;
              nothing = fails.nothing;
              state = fails.state;
            };
          };
        }
    unanswered Done refuses = absurd refuses
    unanswered Words refuses = absurd refuses
    unanswered Source refuses = absurd refuses
    unanswered Net refuses = absurd refuses
    unanswered Reply refuses = absurd refuses
    unanswered (TooLong size) refuses = absurd refuses
    unanswered (Damaged file number) refuses = absurd refuses

    -- a line was handed out and not answered
    pub Turns-unanswered : (text : List ℕ) (number : ℕ) → text ≡ reading_after.line → number ≡ reading_after.number
        → (ending : Ending) → RefusesLine taken_mid taken_after mid new desk desk_after text number ending
        → Turns left left_after taken taken_after old new desk desk_after reading reading_after (Err ending)
    Turns-unanswered text number same is ending refuses =
        unanswered ending
        (subst (λ number. RefusesLine taken_mid taken_after mid new desk desk_after reading_after.line number ending) is
        (subst (λ text. RefusesLine taken_mid taken_after mid new desk desk_after text number ending) same refuses))
