-- Steps that leave the policy state, and requests for levels as the commands that they come to.
use Rattle.std.proofs.Common.{◌≡◌, ◌++◌, ℕ, true, List, Option, None, Some, Result, Ok, Err, MatchResult, inl, refl}
use Rattle.std.proofs.Common.{sym, ap, subst, ◌∙◌}
use Rattle.desk_state.specs.DeskState.{DeskState}
use Rattle.desk_state.specs.declared.commands.Command.{Command}
use Rattle.level_requests.specs.declared.requests.LevelRequest.{LevelRequest}
use Rattle.policy_levels.specs.Command.{command_of}
use Rattle.policy_levels.specs.Refusal.{fault as level_fault, Refuses as RefusesLevel}
use Rattle.policy_levels.specs.declared.refusals.LevelRefusal.{LevelRefusal}
use Rattle.policy_levels.specs.declared.refusals.LevelRefusal.TheVariants as level
use Rattle.private_sharing.specs.declared.shares.Share.{Share}
use Rattle.line_script.specs.declared.steps.Step.{Step}
use Rattle.line_script.specs.declared.steps.Step.TheVariants as step
use Rattle.script_replies.specs.Reply.{reply, after, shares_after, level_reply, after_level, shares_after_level}
use Rattle.script_replies.specs.Reply.{level_command}
use Rattle.script_replies.specs.Levels.{level_refusal_text, names_level_rule}
use Rattle.script_replies.specs.Sharing.{names_share_rule}
use Rattle.private_sharing.specs.Refusal.{Refuses, RefusesLast}
use Rattle.private_sharing.specs.declared.refusals.ShareRefusal.{ShareRefusal}
use Rattle.private_sharing.specs.declared.refusals.ShareRefusal.TheVariants as share
use Rattle.local_runs.specs.parts.Local.{is_question, AnswersStep, RefusesStep}
use Rattle.run_endings.specs.declared.endings.Ending.{Ending}
use Rattle.run_endings.specs.declared.endings.Ending.TheVariants.{Done, Memory, Words, Line, Source, Sink, Disk, Net}
use Rattle.run_endings.specs.declared.endings.Ending.TheVariants.{Damaged, Reply, TooLong}
use Rattle.local_runs.proofs.Obeying.{hands-none}

-- ---- steps that leave the policy state

-- the answer waits, and no earlier one was taken
pub answers-still : (taken : Option (List ℕ)) (answers answers_after : List ℕ) (desk : DeskState)
    (shares shares_now : List Share) (asked : Step)
    → answers_after ≡ answers ++ reply desk shares asked → desk ≡ after desk asked
    → shares_now ≡ shares_after desk shares asked
    → AnswersStep taken taken answers answers_after desk desk shares shares_now asked
answers-still taken answers answers_after desk shares shares_now asked text state sharing =
    record {
      waiting = answers;
      hands = hands-none taken answers answers refl;
      answer = text;
      state = state;
      sharing = sharing;
      in_turn = inl refl;
    }

-- the same of a step, where the answer is said at another name of the state
pub answers-told : (taken : Option (List ℕ)) (answers answers_after : List ℕ) (desk told : DeskState)
    (shares shares_now : List Share)
    (did asked : Step) → told ≡ desk → did ≡ asked → answers_after ≡ answers ++ reply told shares asked
    → desk ≡ after desk asked
    → shares_now ≡ shares_after told shares asked
    → AnswersStep taken taken answers answers_after desk desk shares shares_now did
answers-told taken answers answers_after desk told shares shares_now did asked same is text state sharing =
    subst (λ (did : Step). AnswersStep taken taken answers answers_after desk desk shares shares_now did) (sym is)
    (answers-still taken answers answers_after desk shares shares_now asked
    (text ∙ ap (λ desk. answers ++ reply desk shares asked) same) state
    (sharing ∙ ap (λ desk. shares_after desk shares asked) same))

-- ---- requests for levels

-- a refusal that is answered names what stands against the request
pub level-broken : (desk : DeskState) (request : LevelRequest) (broken : LevelRefusal) → names_level_rule broken ≡ true
    → RefusesLevel broken (level_fault desk request) → level_fault desk request ≡ Some broken
level-broken desk request (level.Memory error) names refuses = cc
level-broken desk request level.NoLayout names refuses = refuses
level-broken desk request (level.UnknownUser uid) names refuses = refuses
level-broken desk request (level.NotAdministrator kind) names refuses = refuses

-- a request was refused
pub answers-level-refusal : (taken : Option (List ℕ)) (answers answers_after : List ℕ) (desk : DeskState)
    (shares : List Share)
    (request : LevelRequest) (broken : LevelRefusal) → level_fault desk request ≡ Some broken
    → answers_after ≡ answers ++ level_refusal_text broken
    → AnswersStep taken taken answers answers_after desk desk shares shares (step.Level request)
answers-level-refusal taken answers answers_after desk shares request broken breaks text =
    answers-still taken answers answers_after desk shares shares (step.Level request)
    (text ∙ ap (λ fault. answers ++ level_reply desk request fault) (sym breaks))
    (ap (after_level desk request) (sym breaks)) (ap (shares_after_level desk shares request) (sym breaks))

module _ (desk : DeskState) (request : LevelRequest) (accepted : level_fault desk request ≡ None) where
  pub level-after : after desk (step.Level request) ≡ after desk (step.Command (command_of request))
  level-after = ap (after_level desk request) accepted

  module _ (taken taken_after : Option (List ℕ)) (answers answers_after : List ℕ) (desk_after : DeskState)
      (shares shares_now : List Share) where
    level-answers : AnswersStep taken taken_after answers answers_after desk desk_after shares shares_now
        (step.Command (command_of request))
        → AnswersStep taken taken_after answers answers_after desk desk_after shares shares_now (step.Level request)
    level-answers done =
        record {
          waiting = done.waiting;
          hands = done.hands;
          answer = done.answer ∙ ap (λ fault. done.waiting ++ level_reply desk request fault) (sym accepted);
          state = done.state ∙ sym level-after;
          sharing = done.sharing ∙ ap (shares_after_level desk shares request) (sym accepted);
          in_turn = done.in_turn;
        }

    level-refuses : (ending : Ending)
        → RefusesStep taken taken_after answers answers_after desk desk_after (step.Command (command_of request)) ending
        → RefusesStep taken taken_after answers answers_after desk desk_after (step.Level request) ending
    level-refuses Memory refuses = refuses
    level-refuses Sink refuses = refuses
    level-refuses Disk fails =
        record {
          command = fails.command;
          is = ap (level_command request) accepted ∙ fails.is;
          accepted = fails.accepted;
          appended = fails.appended;
          nothing = fails.nothing;
          state = fails.state;
        }
    level-refuses Done refuses = absurd refuses
    level-refuses Words refuses = absurd refuses
    level-refuses Source refuses = absurd refuses
    level-refuses (Line number) refuses = absurd refuses
    level-refuses Net refuses = absurd refuses
    level-refuses Reply refuses = absurd refuses
    level-refuses (TooLong size) refuses = absurd refuses
    level-refuses (Damaged file line) refuses = absurd refuses

    -- the command was done, or not; so was the request
    pub level-step : (command : Command) → command ≡ command_of request → (result : Result (Unit {0}) Ending)
        → MatchResult result
        (λ value. AnswersStep taken taken_after answers answers_after desk desk_after shares shares_now
        (step.Command command))
        (RefusesStep taken taken_after answers answers_after desk desk_after (step.Command command))
        → MatchResult result
        (λ value. AnswersStep taken taken_after answers answers_after desk desk_after shares shares_now
        (step.Level request))
        (RefusesStep taken taken_after answers answers_after desk desk_after (step.Level request))
    level-step command same (Ok value) done =
        level-answers (subst (λ command. AnswersStep taken taken_after answers answers_after desk desk_after shares shares_now (step.Command command)) same done)
    level-step command same (Err ending) refuses =
        level-refuses ending (subst (λ command. RefusesStep taken taken_after answers answers_after desk desk_after (step.Command command) ending) same refuses)
