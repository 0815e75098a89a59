-- A run of `check` or `simple` that no failing call stops.
use Rattle.std.proofs.Common.{◌≡◌, ◌≤◌, ◌<◌, ◌⊎◌, ◌++◌, ◌∷◌, inl, inr, ℕ, zero, suc, Bool, true, false, cond, List, [], length, Option, None, Result, Ok, Err, refl, sym, ap, ◌∙◌, subst, append-nil, arith}
use Rattle.std.specs.declared.alloc.AllocError.{AllocError}
use Rattle.desk_ports.specs.Faults.{next_count, last_count}
use Rattle.link_ports.specs.Told.{AppendsTold}
use Rattle.link_ports.specs.Traffic.{Traffic}
use Rattle.link_ports.specs.LinkMarks.{LinkMarks}
use Rattle.link_ports.specs.NetCounts.{gave_trouble}
use Rattle.link_ports.specs.declared.dials.Dial.{Ghosts as DialTells}
use Rattle.link_ports.specs.declared.links.Link.{Ghosts as LinkTells}
use Rattle.command_words.specs.declared.commands.AskedNames.{AskedNames}
use Rattle.wire_fields.specs.declared.messages.Framed.{Framed}
use Rattle.wire_fields.specs.declared.refusals.WireRefusal.{WireRefusal}
use Rattle.client_connection.specs.Asking.{counted, dials_in, Asks, Replies, RepliesWrong}
use Rattle.client_connection.specs.Giving.{Appends, GivesBack, GivesBackAny}
use Rattle.client_connection.specs.declared.asking.Outcome.{Outcome}
use Rattle.client_connection.specs.declared.asking.Outcome.TheVariants as outcome
use Rattle.client_connection.specs.declared.faults.Broken.{Broken}
use Rattle.client_connection.specs.declared.faults.Broken.TheVariants.{Wrong}
use Rattle.cynara_client.specs.declared.refusals.Checked.{Checked}
use Rattle.cynara_client.specs.declared.refusals.ClientRefusal.{ClientRefusal}
use Rattle.cynara_client.specs.declared.refusals.ClientRefusal.TheVariants as refusal
use Rattle.run_endings.specs.Ending.{Unraised}
use Rattle.run_endings.specs.Outside.{SinkSeen}
use Rattle.run_endings.specs.Saying.{Said, silence, WritesAnswers}
use Rattle.run_endings.specs.declared.endings.Ending.{Ending}
use Rattle.run_endings.specs.declared.endings.Ending.TheVariants.{Done, Memory, Sink, Reply}
use Rattle.client_runs.specs.AskedOnce.{first_frame, answer_of, answer_in, link_of, AsksOnce, AskedOverOne}
use Rattle.client_runs.specs.AnswerLine.{line_of, SaysLine, Says}
use Rattle.client_runs.specs.CheckRun.{question_of, RunsCheck, SaysReply, CompletesCheck}
use Rattle.client_runs.proofs.Counting.{IsReached, reply_reached, refusal_reached, left_faults, counted-more}

-- ---- counts that did not rise

no_less : (n count : ℕ) → count ≤ last_count → count ≤ counted n count
no_less zero count below = omega arith
no_less (suc n) count below = let more = no_less n (next_count count) (omega arith) in omega (arith, below, more)

-- a count that rose once and so often is another one
rose : (n before after : ℕ) → before < last_count → after ≡ before → after ≡ counted n (next_count before) → ⊥
rose n before after below same is =
    let more = no_less n (next_count before) (omega arith) in omega (arith, below, same, is, more)

-- nor does giving a link back take it away
rose_then : (n before between after : ℕ) → before < last_count → after ≡ before → between ≡ counted n (next_count before)
    → (after ≡ between) ⊎ (after ≡ next_count between) → ⊥
rose_then n before between after below same is (inl stays) = rose n before after below same (stays ∙ is)
rose_then n before between after below same is (inr next) =
    rose (suc n) before after below same (next ∙ (ap next_count is ∙ counted-more n (next_count before)))

-- a link that counts nothing where it is given back gave no trouble
no_trouble : (trouble : Bool) (before between after : ℕ) → before < last_count → after ≡ before → between ≡ before
    → after ≡ cond trouble (next_count between) between → trouble ≡ false
no_trouble false before between after below same is counts = refl
no_trouble true before between after below same is counts =
    let next : after ≡ next_count between = counts in absurd (omega (arith, below, same, is, next))

-- where none was given back before
gives_one : {L : Type 0} (link : L) (old between new : Option (List L)) → Appends [] old between → AppendsTold between link new
    → Appends (link ∷ []) old new
gives_one {L} link old between new none one = λ after told.
    let (middle, middle_told, after_is) = one after told in
    let (before, old_told, middle_is) = none middle middle_told in
    (before, old_told, after_is ∙ ap (λ (links : List L). links ++ link ∷ []) (middle_is ∙ append-nil before))

-- ---- what came of the question

-- no memory was found
abbrev IsWanting : Result Checked ClientRefusal → Type 0
IsWanting answer = (error : AllocError) × (answer ≡ Err (refusal.Memory error))

module _ {N L : Type 0} (link_faults : L → ℕ) (marks : L → LinkMarks) (traffic : L → Option Traffic)
    (faults dials : N → ℕ) (given_back : N → Option (List L)) (frame : List ℕ) (before between after : N)
    (still : Unraised (faults before) (faults after)) where
  abbrev One : Result Framed Broken → Type 0
  One read = AskedOverOne link_faults marks traffic faults dials given_back frame read before after

  -- a reply came over the first link
  replied : (link : L) (is_new : Bool) (framed : Framed) (lost : List (Option L))
      → Replies link_faults marks traffic frame faults dials given_back None lost link is_new framed before between
      → dials between ≡ counted (dials_in false (suc (length lost))) (dials before)
      → GivesBack faults dials given_back link_faults marks link between after → One (Ok framed)
  replied link is_new framed [] replies dialled gives = record {
    link = link;
    came = replies.came;
    dialled = gives.dialled ∙ dialled;
    given = gives_one link (given_back before) (given_back between) (given_back after) replies.loses.given gives.given;
    unfailed = no_trouble (gave_trouble (marks link) (link_faults link)) (faults before) (faults between) (faults after) still.0 still.1
        replies.loses.counted_each gives.counted;
  }
  replied link is_new framed (try ∷ lost) replies dialled gives =
      absurd (rose_then (length lost) (faults before) (faults between) (faults after) still.0 still.1 replies.loses.counted_each
      (subst (λ count. (count ≡ faults between) ⊎ (count ≡ next_count (faults between))) (sym gives.counted)
      (left_faults (marks link) (link_faults link) (faults between))))

  -- what came over it is no frame
  replied_wrong : (fault : WireRefusal) (lost : List (Option L))
      → RepliesWrong link_faults marks traffic frame faults dials given_back None lost (Wrong fault) before between
      → dials between ≡ counted (dials_in false (suc (length lost))) (dials before) → after ≡ between → One (Err (Wrong fault))
  replied_wrong fault [] wrong dialled same = record {
    link = wrong.link;
    came = wrong.came;
    dialled = ap dials same ∙ dialled;
    given = subst (λ (now : Option (List L)). Appends (wrong.link ∷ []) (given_back before) now) (sym (ap given_back same)) wrong.given;
    unfailed = no_trouble (gave_trouble (marks wrong.link) (link_faults wrong.link)) (faults before) (faults before) (faults after)
        still.0 still.1 refl (ap faults same ∙ wrong.counted_each);
  }
  replied_wrong fault (try ∷ lost) wrong dialled same =
      absurd (rose_then (length lost) (faults before) (counted (length lost) (next_count (faults before))) (faults after)
      still.0 still.1 refl
      (subst (λ count. (count ≡ counted (length lost) (next_count (faults before)))
      ⊎ (count ≡ next_count (counted (length lost) (next_count (faults before)))))
      (sym (ap faults same ∙ wrong.counted_each))
      (left_faults (marks wrong.link) (link_faults wrong.link) (counted (length lost) (next_count (faults before))))))

  abbrev Came : Result Checked ClientRefusal → Type 0
  Came answer = IsWanting answer
      ⊎ ((read : Result Framed Broken) × One read × (answer ≡ answer_in read) × IsReached answer)

  came : (came_of : Outcome L) → Asks link_faults marks traffic frame faults dials given_back 3 false None came_of before between
      → GivesBackAny faults dials given_back link_faults marks (link_of came_of) between after → Came (answer_of came_of)
  came (outcome.Replied link is_new framed) sent given =
      inr (Ok framed, replied link is_new framed sent.lost sent.came.1 sent.dialled given, refl, reply_reached framed)
  came (outcome.Wrong fault) sent given =
      inr (Err (Wrong fault), replied_wrong fault sent.lost sent.came.1 sent.dialled given, refl, refusal_reached fault)
  came (outcome.Unavailable is_tried) sent given =
      absurd (rose 2 (faults before) (faults after) still.0 still.1
      (ap faults given ∙ (sent.came.2.counted_each ∙ ap (λ n. counted n (faults before)) sent.came.0)))
  came (outcome.Memory error is_tried) sent given = inl (error, refl)

-- ---- what is said of it

abbrev Ended : Result (List ℕ) Ending → Said → Ending → Type 0
Ended found said ending = SaysReply found said ending ⊎ ((ending ≡ Memory) × (said ≡ silence))

by_line : (line : List ℕ) (said : Said) (ending : Ending) → SaysLine (Ok line) said ending → (ending ≡ Sink → ⊥)
    → Ended (Ok line) said ending
by_line line said Done says other = inl says
by_line line said Memory says other = inr (refl, says)
by_line line said Sink says other = absurd (other refl)
by_line line said ending says other = absurd says

by_none : (said : Said) (ending : Ending) → (ending ≡ Reply) × (said ≡ silence) → Ended (Err Reply) said ending
by_none said ending (is, silent) = inl (subst (λ (ending : Ending). SaysReply (Err Reply) said ending) (sym is) silent)

ended : (answer : Result Checked ClientRefusal) (said : Said) (ending : Ending) → IsReached answer → Says answer said ending
    → (ending ≡ Sink → ⊥) → Ended (line_of answer) said ending
ended (Ok checked) said ending reached says other = by_line _ said ending says other
ended (Err (refusal.NotResolved commit kind)) said ending reached says other = by_line _ said ending says other
ended (Err (refusal.NoAgent commit kind)) said ending reached says other = by_line _ said ending says other
ended (Err (refusal.AgentGone commit number)) said ending reached says other = by_line _ said ending says other
ended (Err (refusal.AgentFull commit kind most)) said ending reached says other = by_line _ said ending says other
ended (Err refusal.Unavailable) said ending reached says other = absurd reached
ended (Err (refusal.Older told got)) said ending reached says other = by_none said ending says
ended (Err (refusal.BadReply fault)) said ending reached says other = by_none said ending says
ended (Err (refusal.Memory error)) said ending reached says other = inr says

wanting : (answer : Result Checked ClientRefusal) (said : Said) (ending : Ending) → IsWanting answer → Says answer said ending
    → (ending ≡ Memory) × (said ≡ silence)
wanting answer said ending (error, is) says = subst (λ answer. Says answer said ending) is says

-- ---- the whole

module _ {N L H : Type 0} (dial : DialTells N L H) (link : LinkTells L H) (asked : AskedNames) (simple : Bool) (said : Said)
    (ending : Ending) (before after : N) (other : ending ≡ Sink → ⊥) (still : Unraised (dial.faults before) (dial.faults after)) where
  abbrev frame : List ℕ
  frame = first_frame simple (question_of asked)

  abbrev Whole : Type 0
  Whole = CompletesCheck dial link asked simple said ending before after

  over_one : (answer : Result Checked ClientRefusal) (read : Result Framed Broken)
      → AskedOverOne link.faults link.marks link.traffic dial.faults dial.dials dial.given_back frame read before after
      → answer ≡ answer_in read → Ended (line_of answer) said ending → Whole
  over_one answer read one is (inl says) =
      inl (read, one, subst (λ answer. SaysReply (line_of answer) said ending) is says)
  over_one answer read one is (inr none) = inr none

  by_answer : (answer : Result Checked ClientRefusal) (between : N)
      → Came link.faults link.marks link.traffic dial.faults dial.dials dial.given_back frame before between after still answer
      → Says answer said ending → Whole
  by_answer answer between (inl wants) says = inr (wanting answer said ending wants says)
  by_answer answer between (inr (read, one, is, reached)) says =
      over_one answer read one is (ended answer said ending reached says other)

  asked_so : (answer : Result Checked ClientRefusal)
      → AsksOnce link.faults link.marks link.traffic dial.faults dial.dials dial.given_back frame answer before after
      → Says answer said ending → Whole
  asked_so answer (inl once) says =
      by_answer answer once.between
      (subst (λ answer. Came link.faults link.marks link.traffic dial.faults dial.dials dial.given_back frame before once.between after
      still answer) (sym once.answer_is)
      (came link.faults link.marks link.traffic dial.faults dial.dials dial.given_back frame before once.between after still once.came_of
      once.sent once.given)) says
  asked_so answer (inr none) says = inr (wanting answer said ending (none.error, none.answer_is) says)

  pub completes-check : RunsCheck dial link asked simple said ending before after → Whole
  completes-check (answer, asks, says) = asked_so answer asks says

-- a run whose sink did not fail does not end for it
pub not-sink : (ending : Ending) (said : Said) (before after : SinkSeen) → WritesAnswers ending said before after
    → Unraised before.faults after.faults → ending ≡ Sink → ⊥
not-sink ending said before after writes (below, same) is =
    let risen : after.faults ≡ next_count before.faults =
    (subst (λ (ending : Ending). WritesAnswers ending said before after) is writes).are_written.0 in
    omega (arith, below, same, risen)
