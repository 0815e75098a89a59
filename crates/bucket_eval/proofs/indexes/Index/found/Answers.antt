use Rattle.std.proofs.Common.{◌≡◌, Option, Some, sym, ap, ◌∙◌, subst, IfSome}
use Rattle.bucket_store.specs.Database.{Database}
use Rattle.bucket_eval.specs.Found.{outcome_at as outcome_found}
use Rattle.bucket_eval.specs.Root.{root_outcome}
use Rattle.bucket_eval.specs.parts.Sheets.{AreSheets, AreSheetsOf}
use Rattle.bucket_eval.proofs.Marks.{sought-mark-is}
use Rattle.bucket_eval.proofs.Root.{root-found, root-heading, root-there}
use Rattle.bucket_eval.proofs.indexes.Index.found.Goals as goal

-- by `plain`
pub plain_borrowed-requires : goal.plain_borrowed-requires
plain_borrowed-requires c = root-there c.self.inside.database c.buckets-buckets.ensures.well_formed

pub returns-in_default : goal.returns-in_default
returns-in_default c =
    subst (λ (d : Database). outcome_found d c.plain_borrowed.result ≡ Some (root_outcome d c.args.question.now)) c.self.view_is
    (root-heading c.self.inside.database c.args.question.now c.plain_borrowed.result c.buckets-buckets.ensures.well_formed
    c.plain_borrowed.ensures.answer)

of-some : {X : Type 0} (o : Option X) (x : X) → o ≡ Some x → (P : X → Type 0) → IfSome o P → P x
of-some o x is P holds = subst (λ o. IfSome o P) is holds

-- by the sheets
pub from_the_root-requires-clause-right : goal.from_the_root-requires-clause-right
from_the_root-requires-clause-right c = record {
  names = c.self.inside.names;
  kept = c.buckets-buckets.ensures.in_order;
  sheets = subst (AreSheets c.self.inside.names c.buckets-buckets.result.now) (sym c.as_slice.ensures.value)
      (of-some c.self.inside.sheets c.in-Some.sheets c.in-Some.is
      (λ sheets. AreSheetsOf c.self.inside.names c.self.inside.database sheets.items) c.self.invariant.1
      c.buckets-buckets.result.now c.buckets-buckets.ensures.buckets c.buckets-buckets.ensures.in_order);
  marks = record {
    count = c.marks_of-marks.ensures.count;
    each = λ shape less.
        c.marks_of-marks.ensures.each shape less
        ∙ ap Some (sought-mark-is c.self.inside.names c.args.question.now c.numbers_of.result shape c.numbers_of.ensures.are);
  };
}

pub returns : goal.returns
returns c =
    subst (λ (d : Database). outcome_found d c.from_the_root.result ≡ Some (root_outcome d c.args.question.now)) c.self.view_is
    (root-found c.self.inside.database c.buckets-buckets.result.now c.args.question.now c.from_the_root.result
    c.buckets-buckets.ensures.buckets c.buckets-buckets.ensures.in_order c.buckets-buckets.ensures.well_formed
    c.from_the_root.ensures)
