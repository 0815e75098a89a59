use Rattle.std.proofs.Common.{sym, ap, ◌∙◌}
use Rattle.run_endings.specs.LastLine.{last_line}
use Rattle.run_endings.proofs.Trying.{tried}
use Rattle.run_endings.proofs.endings.Ending.try_last_line.Goals as goal

pub returns-in-Words : goal.returns-in-Words
returns-in-Words g c =
    tried c.write_all.result _ _ c.words_line.result.now (last_line c.args.self.now) _ _
    (c.words_line.ensures ∙ ap last_line (sym c.in-Words.is))
    c.write_all.ensures.ok c.write_all.ensures.err c.write_all.ensures.count

pub returns-in-Line : goal.returns-in-Line
returns-in-Line g c =
    tried c.write_line_fault.result _ _ _ (last_line c.args.self.now) _ _ (ap last_line (sym c.in-Line.is))
    c.write_line_fault.ensures.ok c.write_line_fault.ensures.err c.write_line_fault.ensures.count

pub returns-in-Damaged : goal.returns-in-Damaged
returns-in-Damaged g c =
    tried c.write_damage.result _ _ _ (last_line c.args.self.now) _ _ (ap last_line (sym c.in-Damaged.is))
    c.write_damage.ensures.ok c.write_damage.ensures.err c.write_damage.ensures.count

pub returns-in-Reply : goal.returns-in-Reply
returns-in-Reply g c =
    tried c.write_all-in-Reply.result _ _ c.reply_line.result.now (last_line c.args.self.now) _ _
    (c.reply_line.ensures ∙ ap last_line (sym c.in-Reply.is))
    c.write_all-in-Reply.ensures.ok c.write_all-in-Reply.ensures.err c.write_all-in-Reply.ensures.count

pub returns-in-TooLong : goal.returns-in-TooLong
returns-in-TooLong g c =
    tried c.write_too_long.result _ _ _ (last_line c.args.self.now) _ _ (ap last_line (sym c.in-TooLong.is))
    c.write_too_long.ensures.ok c.write_too_long.ensures.err c.write_too_long.ensures.count
