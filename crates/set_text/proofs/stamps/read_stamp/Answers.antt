use Rattle.std.proofs.Common.{◌≡◌, ◌==◌, length, true, false, rules}
use Rattle.set_text.proofs.Stamping.{commits-open, commits-wrong, commits-more, commits-one}
use Rattle.set_text.proofs.stamps.read_stamp.Goals as goal

pub returns-in_default : goal.returns-in_default
returns-in_default c = commits-open c.args.text.now c.in_default.ensures.none

pub returns-in_default-decimal_of : goal.returns-in_default-decimal_of
returns-in_default-decimal_of c =
    commits-wrong c.args.text.now c.in-Some.line.now c.in-Some.rest.now c.in-Some.ensures.cut c.in-Some.ensures.first
    (search rules)

pub returns-then-not-is_empty : goal.returns-then-not-is_empty
returns-then-not-is_empty c =
    let more : (length c.in-Some.rest.now == 0) ≡ false = search rules in
    commits-more c.args.text.now c.in-Some.line.now c.in-Some.rest.now c.in-Some-decimal_of.commit c.in-Some.ensures.cut
    c.in-Some.ensures.first (search rules) more

pub returns : goal.returns
returns c =
    let done : (length c.in-Some.rest.now == 0) ≡ true = search rules in
    commits-one c.args.text.now c.in-Some.line.now c.in-Some.rest.now c.in-Some-decimal_of.commit c.in-Some.ensures.cut
    c.in-Some.ensures.first (search rules) done
