-- A run of `smack-access` that no failing call stops.
use Rattle.std.proofs.Common.{◌≡◌, ◌⊎◌, inl, inr, ℕ, List, Option, Some, Ok, Err, refl, sym, ap, ◌∙◌, subst}
use Rattle.smack_rules.specs.declared.modes.Modes.{Modes}
use Rattle.smack_rules.specs.declared.rule.Rule.{Rule}
use Rattle.smack_rules.specs.Effective.{effective}
use Rattle.smack_rules.specs.Decision.{decision}
use Rattle.run_endings.specs.Ending.{IsUnfailed}
use Rattle.run_endings.specs.Outside.{SourceSeen, HadInput}
use Rattle.run_endings.specs.Saying.{Said}
use Rattle.run_endings.specs.declared.endings.Ending.{Ending}
use Rattle.run_endings.specs.declared.endings.Ending.TheVariants.{Done, Memory, Words, Line, Source, Sink, Disk, Net}
use Rattle.run_endings.specs.declared.endings.Ending.TheVariants.{Damaged, Reply, TooLong}
use Rattle.line_answers.specs.Answers.{decided_text}
use Rattle.access_runs.specs.AccessRun.{rules_read, AccessAnswers, RunsAccess}

module _ (subject object : List ℕ) (asked : Modes) (said : Said) (source source_after : SourceSeen) (input : List ℕ)
    (rules : List Rule) (told : source.left ≡ Some input) (right : rules_read input ≡ Ok rules) where
  abbrev pub answer : List ℕ
  answer = decided_text (decision subject object asked (effective rules subject object))

  accesses : (ending : Ending) (other rest : List ℕ) → input ≡ other → IsUnfailed ending
      → AccessAnswers subject object asked ending other rest said.due → ((ending ≡ Done) × (said.due ≡ answer))
      ⊎ (ending ≡ Memory)
  accesses Done other rest same unfailed answers =
      let other_right = answers.right in
      let read_same = ap rules_read same in
      let rules_same : answers.rules ≡ rules = cc in
      inl (
        refl,
        answers.answered ∙ ap
            (λ rules. decided_text (decision subject object asked (effective rules subject object))) rules_same,
      )
  accesses Memory other rest same unfailed answers = inr refl
  accesses (Line number) other rest same unfailed answers =
      let wrong = answers.1 in
      let read_same = ap rules_read same in
      cc
  accesses Source other rest same unfailed answers = absurd unfailed
  accesses Sink other rest same unfailed answers = absurd unfailed
  accesses ending other rest same unfailed answers = absurd answers

  pub completes-access : (ending : Ending) → IsUnfailed ending
      → RunsAccess subject object asked said ending source source_after
      → ((ending ≡ Done) × (said.due ≡ answer)) ⊎ (ending ≡ Memory)
  completes-access ending unfailed run =
      let same : input ≡ run.input =
      (subst (λ (left : Option (List ℕ)). HadInput left source_after.left run.input run.rest) told run.had).0 in
      accesses ending run.input run.rest same unfailed run.answered
