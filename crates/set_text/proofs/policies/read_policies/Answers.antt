use Rattle.std.proofs.Common.{◌≡◌, ◌==◌, ◌+◌, ◌<◌, ◌++◌, ◌∷◌, [], List, length, Err, false, rules, arith, subst, ap}
use Rattle.std.proofs.Common.{sym, ◌∙◌, length-append}
use Rattle.set_text.specs.Buckets.{read_policy, policies_of}
use Rattle.cynara_keys.specs.declared.keys.Policy.{Policy}
use Rattle.set_text.specs.parts.Reads.{RefusesLine, RefusesFile}
use Rattle.set_text.proofs.Refusing.{refuses-at}
use Rattle.set_text.proofs.TextLines.{values_behind-value, values_behind-wrong, values_behind-open, some-bytes}
use Rattle.set_text.proofs.policies.read_policies.Goals as goal

pub returns-in_default-clause-read : goal.returns-in_default-clause-read
returns-in_default-clause-read c =
    let before = c.loop-rest.policies.items in
    let rest = c.loop-rest.rest.now in
    let some : (length rest == 0) ≡ false = search rules in
    sym c.loop-rest.invariant.taken
    ∙ values_behind-open (read_policy c.args.headings.now c.args.earlier) before rest c.in_default.ensures.none
    (some-bytes rest some)
    ∙ ap (λ line. Err line) (sym c.loop-rest.invariant.counted)

pub returns-in-Err-clause-read : goal.returns-in-Err-clause-read
returns-in-Err-clause-read c =
    let before = c.loop-rest.policies.items in
    let line = c.in-Some.line.now in
    let told = subst (λ (list : List Policy). RefusesLine c.in-Err.fault
    (read_policy c.args.headings.now c.args.earlier list line)) c.deref.ensures.value c.in-Err.ensures.read in
    subst (λ fault. RefusesFile fault (policies_of c.args.headings.now c.args.earlier c.args.text.now))
    (sym c.at.ensures)
    (refuses-at c.in-Err.fault c.loop-rest.number ((read_policy c.args.headings.now c.args.earlier) before line)
    (policies_of c.args.headings.now c.args.earlier c.args.text.now) told (λ wrong.
    sym c.loop-rest.invariant.taken
    ∙ values_behind-wrong (read_policy c.args.headings.now c.args.earlier) before c.loop-rest.rest.now line
    c.in-Some.after.now c.in-Some.ensures.cut c.in-Some.ensures.first wrong
    ∙ ap (λ line. Err line) (sym c.loop-rest.invariant.counted)))

pub loop-rest-preserved : goal.loop-rest-preserved
loop-rest-preserved c =
    let before = c.loop-rest.policies.items in
    let policy = c.in-Ok.policy in
    let pushed : c.push.new.self.items ≡ before ++ policy ∷ [] = search rules in
    let room : c.args.earlier + length before < 65536 = subst
    (λ (list : List Policy). c.args.earlier + length list < 65536) c.deref.ensures.value c.in-Ok.ensures.room in
    record {
      counted = rw pushed (omega (arith, length-append before (policy ∷ []), c.loop-rest.invariant.counted));
      few = rw pushed (omega (arith, length-append before (policy ∷ []), room));
      taken = rw pushed (sym (values_behind-value (read_policy c.args.headings.now c.args.earlier) before
          c.loop-rest.rest.now c.in-Some.line.now c.in-Some.after.now policy
          c.in-Some.ensures.cut c.in-Some.ensures.first (search rules))
          ∙ c.loop-rest.invariant.taken);
    }
