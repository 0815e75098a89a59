use Rattle.std.proofs.Common.{◌≡◌, ◌==◌, ◌<◌, ◌++◌, ◌∷◌, [], List, length, Err, false, rules, arith, subst, ap, sym}
use Rattle.std.proofs.Common.{◌∙◌, length-append}
use Rattle.set_text.specs.Lines.{values_of}
use Rattle.set_text.specs.Buckets.{read_heading}
use Rattle.bucket_store.specs.Database.{Heading}
use Rattle.bucket_store.specs.Refusal.{most_buckets}
use Rattle.set_text.specs.parts.Reads.{RefusesLine, RefusesFile}
use Rattle.set_text.proofs.Refusing.{refuses-at}
use Rattle.set_text.proofs.TextLines.{values_behind-value, values_behind-wrong, values_behind-open, some-bytes}
use Rattle.set_text.proofs.headings.heading_lines.Goals as goal

pub returns-in_default : goal.returns-in_default
returns-in_default c =
    let before = c.loop-rest.headings.items in
    let rest = c.loop-rest.rest.now in
    let some : (length rest == 0) ≡ false = search rules in
    sym c.loop-rest.invariant.taken
    ∙ values_behind-open read_heading before rest c.in_default.ensures.none (some-bytes rest some)
    ∙ ap (λ line. Err line) (sym c.loop-rest.invariant.counted)

pub returns-in-Err : goal.returns-in-Err
returns-in-Err c =
    let before = c.loop-rest.headings.items in
    let line = c.in-Some.line.now in
    let told = subst (λ (list : List Heading). RefusesLine c.in-Err.fault (read_heading list line))
    c.deref.ensures.value c.in-Err.ensures.read in
    subst (λ fault. RefusesFile fault (values_of read_heading c.args.text.now)) (sym c.at.ensures)
    (refuses-at c.in-Err.fault c.loop-rest.number (read_heading before line)
    (values_of read_heading c.args.text.now) told (λ wrong.
    sym c.loop-rest.invariant.taken
    ∙ values_behind-wrong read_heading before c.loop-rest.rest.now line c.in-Some.after.now c.in-Some.ensures.cut
    c.in-Some.ensures.first wrong
    ∙ ap (λ line. Err line) (sym c.loop-rest.invariant.counted)))

pub loop-rest-preserved : goal.loop-rest-preserved
loop-rest-preserved c =
    let before = c.loop-rest.headings.items in
    let heading = c.in-Ok.heading in
    let pushed : c.push.new.self.items ≡ before ++ heading ∷ [] = search rules in
    let room : length before < most_buckets =
    subst (λ (list : List Heading). length list < most_buckets) c.deref.ensures.value c.in-Ok.ensures.room in
    record {
      counted = rw pushed (omega (arith, length-append before (heading ∷ []), c.loop-rest.invariant.counted));
      few = rw pushed (omega (arith, length-append before (heading ∷ []), room));
      taken = rw pushed (sym
          (values_behind-value read_heading before c.loop-rest.rest.now c.in-Some.line.now c.in-Some.after.now heading
          c.in-Some.ensures.cut c.in-Some.ensures.first (search rules))
          ∙ c.loop-rest.invariant.taken);
    }
