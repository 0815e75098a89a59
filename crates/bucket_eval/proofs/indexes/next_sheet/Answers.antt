use Rattle.std.proofs.Common.{sym, ◌∙◌, subst}
use Rattle.std.proofs.lemmas.Option.{same_Some}
use Rattle.bucket_store.specs.Bucket.{Bucket}
use Rattle.bucket_eval.specs.declared.sheets.Sheet.{Sheet}
use Rattle.bucket_eval.specs.parts.Sheets.{IsSheetOf}
use Rattle.bucket_eval.proofs.Staying.{sheet-stayed}
use Rattle.bucket_eval.proofs.indexes.next_sheet.Goals as goal

-- the sheet of a bucket that stayed
pub returns-clause-sheet : goal.returns-clause-sheet
returns-clause-sheet c = λ bucket there.
    subst (λ (b : Bucket). IsSheetOf c.args.names.now c.args.buckets.now b c.in_ok-sheet.sheet)
    (same_Some _ _ (sym c.bucket_at-2.ensures ∙ there))
    (sheet-stayed c.args.before.now c.args.buckets.now c.requires.alike c.args.names.now c.bucket_at.result.now
    c.bucket_at-2.result.now c.in_ok-sheet.sheet c.if-not-stayed.ensures
    (subst (λ (sheet : Sheet). IsSheetOf c.args.names.now c.args.before.now c.bucket_at.result.now sheet)
    (sym c.in_ok-sheet.ensures)
    (c.requires.sheets.each c.args.at c.bucket_at.result.now c.shared_at.result.now c.bucket_at.ensures
    c.shared_at.ensures)))
