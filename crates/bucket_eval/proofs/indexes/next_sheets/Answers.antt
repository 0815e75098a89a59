use Rattle.std.proofs.Common.{◌≡◌, ◌++◌, ◌∷◌, [], List, Option, Some, IfSome, length, sym, ap, subst, arith, rules, length-append}
use Rattle.bucket_eval.specs.declared.sheets.Sheet.{Sheet}
use Rattle.bucket_eval.specs.parts.Sheets.{EachIsSheet, IsSheetAt}
use Rattle.bucket_eval.proofs.Tabling.{sheets-kept, sheets-more}
use Rattle.bucket_eval.proofs.indexes.next_sheets.Goals as goal

if-made : {X : Type 0} (P : X → Type 0) (o : Option X) (x : X) → IfSome o P → o ≡ Some x → P x
if-made P o x holds is = subst (λ o. IfSome o P) is holds

-- those that are taken over are still right
pub next_sheet-requires-clause-sheets : goal.next_sheet-requires-clause-sheets
next_sheet-requires-clause-sheets c =
    record { count = c.requires.sheets.count; each = c.loop-at.invariant.taken }

-- the sheet of one bucket more
pub loop-at-preserved : goal.loop-at-preserved
loop-at-preserved c =
    let pushed : c.push.new.self.items ≡ c.loop-at.next.items ++ c.in-Some.sheet ∷ [] = search rules in
    let at = c.loop-at.invariant.count in
    let names = c.next_sheet.new.names in
    let kept = c.in_ok-made.ensures.kept in
    record {
      taken = sheets-kept c.loop-at.names names kept c.args.before.now c.args.sheets.now c.loop-at.invariant.taken;
      each = subst (EachIsSheet names c.args.buckets.now) (sym pushed)
          (sheets-more names c.args.buckets.now c.loop-at.next.items c.in-Some.sheet c.loop-at.at
          (sheets-kept c.loop-at.names names kept c.args.buckets.now c.loop-at.next.items c.loop-at.invariant.each) at
          (if-made (IsSheetAt names c.args.buckets.now c.loop-at.at) c.in_ok-made.made c.in-Some.sheet
          c.in_ok-made.ensures.sheet c.in-Some.is));
      count = (let more = length-append c.loop-at.next.items (c.in-Some.sheet ∷ []) in
          let new = ap (λ (sheets : List Sheet). length sheets) pushed in
          omega (arith, at, more, new));
    }
