-- A script that is being answered goes on by one line.
use Rattle.std.proofs.Common.{◌≡◌, ◌≤◌, ◌⊎◌, inl, inr, ℕ, List, [], ◌∷◌, ◌++◌, length, Option, refl, sym, ap, ◌∙◌}
use Rattle.std.proofs.Common.{arith, append_assoc, append-nil, length-append}
use Rattle.desk_ports.proofs.Appends.{Appended-none, Appended-then}
use Rattle.text_lines.specs.LineReader.{LineReading}
use Rattle.line_script.specs.declared.steps.Step.{Step}
use Rattle.line_script.specs.Block.{outside}
use Rattle.script_words.specs.declared.places.Place.TheVariants.{Local}
use Rattle.desk_state.specs.DeskState.{DeskState}
use Rattle.script_replies.specs.Reply.{reply, after, shares_after}
use Rattle.script_replies.specs.Script.{replies, state_after, shares_behind, AreInTurn}
use Rattle.script_replies.specs.Reading.{Reads}
use Rattle.script_replies.proofs.Going.{goes_first, goes_on, unread}
use Rattle.local_runs.specs.parts.Local.{AnswersNext}
use Rattle.local_runs.specs.parts.Progress.{Progress, GoesOn}
use Rattle.local_runs.specs.declared.local_script.LocalScript.{LocalScript}
use Rattle.script_replies.proofs.Steps.{state_after-then, shares_behind-then, replies-next, in-turn-none, in-turn-more}
use Rattle.script_replies.proofs.Steps.{in-turn-next}

-- nothing was read yet
pub goes-start : (Kept : List Step → Type 0) (start : DeskState) (left taken : Option (List ℕ)) (now : LocalScript)
    → now.reader ≡ outside Local → now.answers ≡ [] → now.shares ≡ [] → Kept []
    → GoesOn Kept start left left taken taken now start unread
goes-start Kept start left taken now reader none unshared kept =
    goes_first Local left now.reader reader (λ steps. Progress start taken taken now start steps × Kept steps) (
      record {
        written = [];
        appended = Appended-none taken;
        answered = sym none;
        state = refl;
        sharing = sym unshared;
        in_turn = in-turn-none start [];
      },
      kept,
    )

module _ {start : DeskState} {left left_now left_after taken taken_now taken_after : Option (List ℕ)} {now new : LocalScript}
    {desk desk_after : DeskState} {reading reading_after : LineReading}
    (p : Reads Local left left_now now.reader reading)
    (a : Progress start taken taken_now now desk p.steps)
    (n : AnswersNext left_now left_after taken_now taken_after now new desk desk_after reading reading_after) where
  state_is : state_after start (p.steps ++ n.answers.step ∷ []) ≡ desk_after
  state_is =
      state_after-then start p.steps (n.answers.step ∷ [])
      ∙ ap (λ desk. after desk n.answers.step) a.state ∙ sym n.answers.done.state

  -- the shares behind the step
  sharing_is : shares_behind start [] (p.steps ++ n.answers.step ∷ []) ≡ new.shares
  sharing_is =
      shares_behind-then start [] p.steps (n.answers.step ∷ [])
      ∙ (λ i. shares_after (a.state i) (a.sharing i) n.answers.step) ∙ sym n.answers.done.sharing

  answered_after : replies start [] (p.steps ++ n.answers.step ∷ [])
      ≡ (a.written ++ n.answers.done.hands.handed) ++ new.answers
  answered_after =
      let done = n.answers.done in
      let handed = done.hands.handed in
      let text = reply desk now.shares n.answers.step in
      replies-next start [] p.steps n.answers.step
      ∙ ((λ i. replies start [] p.steps ++ reply (a.state i) (a.sharing i) n.answers.step)
      ∙ (ap (λ texts. texts ++ text) (a.answered ∙ ap (λ answers. a.written ++ answers) done.hands.parts)
      ∙ (ap (λ texts. texts ++ text) (sym (append_assoc a.written handed done.waiting))
      ∙ (append_assoc (a.written ++ handed) done.waiting text
      ∙ ap (λ answers. (a.written ++ handed) ++ answers) (sym done.answer)))))

  -- the state stays, or all earlier answers are written
  changes : (after (state_after start p.steps) n.answers.step ≡ state_after start p.steps)
      ⊎ (length (replies start [] p.steps) ≤ length (a.written ++ n.answers.done.hands.handed))
  changes =
      let done = n.answers.done in
      elim done.in_turn [
        | inl same ↦ inl (ap (λ desk. after desk n.answers.step) a.state ∙ (sym done.state ∙ (same ∙ sym a.state)))
        | inr none ↦
            inr (omega (
              arith,
              ap length (a.answered ∙ ap (λ answers. a.written ++ answers)
                  (done.hands.parts ∙ ap (λ waiting. done.hands.handed ++ waiting) none)),
              ap length (append-nil done.hands.handed),
              length-append a.written (done.hands.handed ++ []),
              length-append a.written done.hands.handed,
            ))
      ]

  in_turn_after : AreInTurn start (p.steps ++ n.answers.step ∷ []) (a.written ++ n.answers.done.hands.handed)
  in_turn_after =
      let written = a.written ++ n.answers.done.hands.handed in
      in-turn-next start p.steps n.answers.step written
      (in-turn-more start p.steps a.written n.answers.done.hands.handed a.in_turn) changes

  answers_more : Progress start taken taken_after new desk_after (p.steps ++ n.answers.step ∷ [])
  answers_more =
      let hands = n.answers.done.hands in
      record {
        written = a.written ++ hands.handed;
        appended = Appended-then taken taken_now taken_after a.written hands.handed a.appended hands.appended;
        answered = answered_after;
        state = state_is;
        sharing = sharing_is;
        in_turn = in_turn_after;
      }

  pub goes-next : (Kept : List Step → Type 0) → Kept (p.steps ++ n.answers.step ∷ [])
      → GoesOn Kept start left left_after taken taken_after new desk_after reading_after
  goes-next Kept kept =
      goes_on p n.answers.step n.line n.ends n.answers.reads
      (λ steps. Progress start taken taken_after new desk_after steps × Kept steps) (answers_more, kept)
