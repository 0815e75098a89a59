use Rattle.std.proofs.Common.{List, ℕ, subst}
use Rattle.monitor_journal.specs.Journal.{entries_text}
use Rattle.monitor_journal.specs.parts.Spelling.{SpellsEntries}
use Rattle.monitor_journal.proofs.Lines.{writes_spelled}
use Rattle.monitor_journal.proofs.journals.hand_on.Goals as goal

pub returns : goal.returns
returns g c =
    let s = subst (λ (list : List ℕ). SpellsEntries 1024 c.args.reader.now c.spell_entries-spelled.new.reader c.args.writing c.spell_entries-spelled.result list
    c.spell_entries-spelled.new.room) c.clear.ensures c.spell_entries-spelled.ensures in
    record {
      entries = s.entries;
      few = s.few;
      known = s.known;
      handed = s.handed;
      written = writes_spelled c.args.writing c.spell_entries-spelled.result c.write_room.result (entries_text s.entries)
          c.spell_entries-spelled.new.room _ _ s.spelled c.write_room.ensures;
    }
