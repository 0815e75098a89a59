use Rattle.std.proofs.Common.{Result, Ok, Err, OnOk}
use Rattle.smack_rules.proofs.Spelled.{line_rule-set, line_rule-adjust}
use Rattle.smack_rules.proofs.spelling.append_words.Goals as goal

always : {T E P : Type 0} (r : Result T E) → P → OnOk r P
always (Ok x) h = h
always (Err e) h = tt

pub returns-in_ok-append_pair-in-Set-clause-again : goal.returns-in_ok-append_pair-in-Set-clause-again
returns-in_ok-append_pair-in-Set-clause-again c =
    let labels = c.in_ok-append_pair-in-Set.ensures in
    rw c.in-Set.is (always c.append_to.result (line_rule-set c.in-Set.subject c.in-Set.object c.in-Set.modes labels.subject labels.object))

pub returns-in_ok-push-in-Adjust-clause-again : goal.returns-in_ok-push-in-Adjust-clause-again
returns-in_ok-push-in-Adjust-clause-again c =
    let labels = c.in_ok-append_pair-in-Adjust.ensures in
    rw c.in-Adjust.is
    (always c.append_to-in-Adjust-2.result
    (line_rule-adjust c.in-Adjust.subject c.in-Adjust.object c.in-Adjust.allow c.in-Adjust.deny labels.subject labels.object))
