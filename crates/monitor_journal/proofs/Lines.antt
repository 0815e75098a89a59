-- Lines that are spelled one after the other, and written.
use Rattle.std.proofs.Common.{◌≡◌, ◌∙◌, ◌≤◌, ◌<◌, ◌+◌, ℕ, List, [], ◌∷◌, ◌++◌, length, Option, Some, None, refl, sym, ap, subst, append_assoc, append-nil, arith}
use Rattle.std.proofs.lemmas.List.{length-append}
use Rattle.std.proofs.lemmas.Grind.{flat_map-append}
use Rattle.desk_ports.specs.Content.{Appended}
use Rattle.monitor_rule.specs.Steps.{AreKnown}
use Rattle.run_endings.specs.Outside.{SinkSeen}
use Rattle.monitor_rule.specs.declared.entries.Entry.{Entry}
use Rattle.monitor_journal.specs.Lines.{entry_text}
use Rattle.check_monitor.specs.Monitor.{ReaderState, HandsOut}
use Rattle.monitor_journal.specs.Journal.{entries_text, Writes}
use Rattle.monitor_journal.specs.parts.Spelling.{Spells, SpellsEntries}
use Rattle.monitor_journal.specs.declared.writing.Writing.{Writing}
use Rattle.monitor_journal.specs.declared.writing.Writing.TheVariants.{GoesOn, SinkFailed, OutOfMemory}

pub spells_none : (writing : Writing) (room : List ℕ) → Spells writing room [] writing room
spells_none GoesOn room = sym (append-nil room)
spells_none SinkFailed room = refl
spells_none OutOfMemory room = refl

pub spells_more : (first second third : Writing) (before between after text more : List ℕ) → Spells first before text second between
    → Spells second between more third after → Spells first before (text ++ more) third after
spells_more GoesOn GoesOn GoesOn before between after text more one then =
    then ∙ (ap (λ list. list ++ more) one ∙ append_assoc before text more)
spells_more GoesOn GoesOn SinkFailed before between after text more one then = then
spells_more GoesOn GoesOn OutOfMemory before between after text more one then = tt
spells_more GoesOn SinkFailed third before between after text more one then = absurd one
spells_more GoesOn OutOfMemory third before between after text more one then =
    subst (λ (w : Writing). Spells GoesOn before (text ++ more) w after) (sym then) tt
spells_more SinkFailed second third before between after text more one then = stays SinkFailed second third between more after one then
  where
    stays : (first second third : Writing) (between more after : List ℕ) → second ≡ SinkFailed → Spells second between more third after
        → third ≡ SinkFailed
    stays first SinkFailed third between more after one then = then
    stays first GoesOn third between more after one then = cc
    stays first OutOfMemory third between more after one then = cc
spells_more OutOfMemory second third before between after text more one then = stays OutOfMemory second third between more after one then
  where
    stays : (first second third : Writing) (between more after : List ℕ) → second ≡ OutOfMemory → Spells second between more third after
        → third ≡ OutOfMemory
    stays first OutOfMemory third between more after one then = then
    stays first GoesOn third between more after one then = cc
    stays first SinkFailed third between more after one then = cc

pub known-more : (made : ℕ) (entries more : List Entry) → AreKnown made entries → AreKnown made more → AreKnown made (entries ++ more)
known-more made [] more first then = then
known-more made (entry ∷ entries) more (one, first) then = (one, known-more made entries more first then)

pub spells_nothing : (reader : ReaderState) (writing : Writing) (room : List ℕ) → SpellsEntries 0 reader reader writing writing room room
spells_nothing reader writing room = record {
  entries = [];
  few = omega arith;
  known = tt;
  handed = ap (λ list. record reader { handed = list }) (sym (append-nil reader.handed));
  spelled = spells_none writing room;
}

pub spells_next : (count : ℕ) (reader then now : ReaderState) (writing spelled next : Writing) (before between room : List ℕ) (entry : Entry)
    → SpellsEntries count reader then writing spelled before between → HandsOut then entry now → entry.worker < then.made
    → Spells spelled between (entry_text entry) next room
    → SpellsEntries (count + 1) reader now writing next before room
spells_next count reader then now writing spelled next before between room entry s handed is-known one =
    let longer : length (s.entries ++ entry ∷ []) ≡ length s.entries + 1 = length-append s.entries (entry ∷ []) in
    let few = s.few in
    let text : entries_text (s.entries ++ entry ∷ []) ≡ entries_text s.entries ++ entry_text entry =
    flat_map-append entry_text s.entries (entry ∷ []) ∙ ap (λ list. entries_text s.entries ++ list) (append-nil (entry_text entry)) in
    record {
      entries = s.entries ++ entry ∷ [];
      few = omega (arith, longer, few);
      known = known-more reader.made s.entries (entry ∷ []) s.known
          (subst (λ (n : ℕ). entry.worker < n) (ap (λ (r : ReaderState). r.made) s.handed) is-known, tt);
      handed = handed.0 ∙ (ap (λ (r : ReaderState). record r { handed = r.handed ++ entry ∷ [] }) s.handed
          ∙ ap (λ list. record reader { handed = list }) (append_assoc reader.handed s.entries (entry ∷ [])));
      spelled = subst (λ list. Spells writing before list next room) (sym text)
          (spells_more writing spelled next before between room (entries_text s.entries) (entry_text entry) s.spelled one);
    }

pub spells_fewer : (few most : ℕ) (reader now : ReaderState) (writing next : Writing) (before room : List ℕ) → few ≤ most
    → SpellsEntries few reader now writing next before room → SpellsEntries most reader now writing next before room
spells_fewer few most reader now writing next before room low s = let at = s.few in record {
  entries = s.entries;
  few = omega (arith, low, at);
  known = s.known;
  handed = s.handed;
  spelled = s.spelled;
}

takes_none : (told : Option (List ℕ)) → Appended told [] told
takes_none None = tt
takes_none (Some before) = ap (λ list. Some list) (sym (append-nil before))

-- what was spelled is written
pub writes_spelled : (writing spelled now : Writing) (text room : List ℕ) (before after : SinkSeen) → Spells writing [] text spelled room
    → Writes spelled room before now after → Writes writing text before now after
writes_spelled GoesOn GoesOn now text room before after one then =
    subst (λ list. Writes GoesOn list before now after) one then
writes_spelled GoesOn SinkFailed now text room before after one then = absurd one
writes_spelled GoesOn OutOfMemory now text room before after one (same, still) =
    subst (λ (w : Writing). Writes GoesOn text before w after) (sym same) (
      ap (λ (x : SinkSeen). x.faults) still,
      (
        0,
        omega arith,
        subst (λ (x : SinkSeen). Appended before.taken [] x.taken) (sym still) (takes_none before.taken),
      ),
    )
writes_spelled SinkFailed spelled now text room before after one then = stays spelled now room before after one then
  where
    stays : (spelled now : Writing) (room : List ℕ) (before after : SinkSeen) → spelled ≡ SinkFailed → Writes spelled room before now after
        → (now ≡ SinkFailed) × (after ≡ before)
    stays SinkFailed now room before after one then = then
    stays GoesOn now room before after one then = cc
    stays OutOfMemory now room before after one then = cc
writes_spelled OutOfMemory spelled now text room before after one then = stays spelled now room before after one then
  where
    stays : (spelled now : Writing) (room : List ℕ) (before after : SinkSeen) → spelled ≡ OutOfMemory → Writes spelled room before now after
        → (now ≡ OutOfMemory) × (after ≡ before)
    stays OutOfMemory now room before after one then = then
    stays GoesOn now room before after one then = cc
    stays SinkFailed now room before after one then = cc
