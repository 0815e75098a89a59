use Rattle.std.proofs.Common.{◌≡◌, Option, Some, IfSome, subst}
use Rattle.bucket_eval.specs.parts.Sheets.{AreSheets}
use Rattle.bucket_eval.proofs.Tabling.{sheets-of-database}
use Rattle.bucket_eval.proofs.indexes.Index.taken_over.Goals as goal

if-made : {X : Type 0} (P : X → Type 0) (o : Option X) (x : X) → IfSome o P → o ≡ Some x → P x
if-made P o x holds is = subst (λ o. IfSome o P) is holds

pub of-requires : goal.of-requires
of-requires c =
    sheets-of-database c.next_sheets.new.names c.args.database.now c.buckets-buckets.result.now
    c.in-Some-made.next.items c.buckets-buckets.ensures.buckets c.buckets-buckets.ensures.in_order
    (if-made (λ next. AreSheets c.next_sheets.new.names c.buckets-buckets.result.now next.items) c.in_ok-made.made
    c.in-Some-made.next c.in_ok-made.ensures c.in-Some-made.is)
