use Rattle.std.proofs.Common.{List, ℕ, IfSome, sym, subst}
use Rattle.bucket_eval.specs.parts.Sheets.{AreSheetsOf}
use Rattle.bucket_eval.proofs.Tabling.{sheets-for}
use Rattle.bucket_eval.proofs.indexes.Index.build.Goals as goal

pub of-requires : goal.of-requires
of-requires c =
    subst (λ (names : List (List ℕ)). IfSome c.in_ok-sheets.sheets
    (λ sheets. AreSheetsOf names c.args.database.now sheets.items)) (sym c.in_ok-settled.ensures)
    (sheets-for c.sheets_of.new.names c.args.database.now c.buckets.result.now (λ sheets. sheets.items)
    c.in_ok-sheets.sheets c.buckets.ensures.buckets c.buckets.ensures.in_order c.in_ok-sheets.ensures)
