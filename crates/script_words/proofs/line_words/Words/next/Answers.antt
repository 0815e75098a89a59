use Rattle.std.proofs.Common.{◌==◌, sym, ap, ◌∙◌}
use Rattle.std.proofs.lemmas.List.{take_rest}
use Rattle.script_words.specs.parts.WordsLeft.{words_left}
use Rattle.script_words.proofs.Parts.{slice_split-position, slice_split-no_position}
use Rattle.script_words.proofs.line_words.Words.next.Goals as goal

pub returns-in-Some-clause-word : goal.returns-in-Some-clause-word
returns-in-Some-clause-word c =
    let cut = slice_split-position (λ byte. byte == 32) _ _ (sym c.in-Some.ensures.place) in
    rw take_rest (sym c.self.view_is ∙ (ap words_left c.in_ok-line.was ∙ cut))

pub returns-in-None-clause-word : goal.returns-in-None-clause-word
returns-in-None-clause-word c =
    let whole = slice_split-no_position (λ byte. byte == 32) _ (sym c.in-None.ensures.place) in
    sym c.self.view_is ∙ (ap words_left c.in_ok-line.was ∙ whole)
