-- Lines that are spelled at the end.
use Rattle.std.proofs.Common.{◌≡◌, ◌∙◌, ◌<◌, ◌+◌, ℕ, List, [], ◌∷◌, ◌++◌, length, take, get_or, refl, sym, ap, subst, append_assoc, append-nil}
use Rattle.std.proofs.lemmas.List.{take_more}
use Rattle.std.proofs.lemmas.Grind.{flat_map-append}
use Rattle.monitor_rule.specs.declared.entries.Entry.{Entry}
use Rattle.monitor_journal.specs.Lines.{entry_text, missed_text}
use Rattle.check_monitor.specs.Monitor.{RecorderState}
use Rattle.monitor_journal.specs.Journal.{entries_text, missed_lines}
use Rattle.monitor_journal.specs.parts.Spelling.{Spells, SpellsLeft}
use Rattle.monitor_journal.proofs.Lines.{spells_none, spells_more}
use Rattle.monitor_journal.specs.declared.writing.Writing.{Writing}
use Rattle.monitor_journal.specs.declared.writing.Writing.TheVariants.{GoesOn}

pub nothing_spelled : (room : List ℕ) → Spells GoesOn room (missed_lines []) GoesOn room
nothing_spelled room = spells_none GoesOn room

-- one recorder more
pub missed_next : (recorders : List RecorderState) (at : ℕ) (recorder : RecorderState) (before between room : List ℕ) (spelled next : Writing)
    → at < length recorders → recorder ≡ get_or recorders at recorder → Spells GoesOn before (missed_lines (take at recorders)) spelled between
    → Spells spelled between (missed_text recorder.worker recorder.missed) next room
    → Spells GoesOn before (missed_lines (take (at + 1) recorders)) next room
missed_next recorders at recorder before between room spelled next low is so_far one =
    let line : List ℕ = missed_text recorder.worker recorder.missed in
    let text : missed_lines (take (at + 1) recorders) ≡ missed_lines (take at recorders) ++ line =
    ap missed_lines (take_more recorders at recorder low ∙ ap (λ (r : RecorderState). take at recorders ++ r ∷ []) (sym is))
    ∙ (flat_map-append (λ (r : RecorderState). missed_text r.worker r.missed) (take at recorders) (recorder ∷ [])
    ∙ ap (λ (list : List ℕ). missed_lines (take at recorders) ++ list) (append-nil line)) in
    subst (λ (list : List ℕ). Spells GoesOn before list next room) (sym text)
    (spells_more GoesOn spelled next before between room (missed_lines (take at recorders)) line so_far one)

pub missed_all : (recorders : List RecorderState) (at : ℕ) (before room : List ℕ) (spelled : Writing) → take at recorders ≡ recorders
    → Spells GoesOn before (missed_lines (take at recorders)) spelled room → Spells GoesOn before (missed_lines recorders) spelled room
missed_all recorders at before room spelled all spells =
    subst (λ (list : List RecorderState). Spells GoesOn before (missed_lines list) spelled room) all spells

-- ---- what is left

pub left_none : (left : List Entry) (room : List ℕ) → SpellsLeft left left GoesOn room room
left_none left room = record { entries = []; first = refl; spelled = spells_none GoesOn room }

pub left_next : (left mid now : List Entry) (entry : Entry) (spelled next : Writing) (before between room : List ℕ)
    → SpellsLeft left mid spelled before between → mid ≡ entry ∷ now → Spells spelled between (entry_text entry) next room
    → SpellsLeft left now next before room
left_next left mid now entry spelled next before between room s is one =
    let text : entries_text (s.entries ++ entry ∷ []) ≡ entries_text s.entries ++ entry_text entry =
    flat_map-append entry_text s.entries (entry ∷ []) ∙ ap (λ list. entries_text s.entries ++ list) (append-nil (entry_text entry)) in
    record {
      entries = s.entries ++ entry ∷ [];
      first = s.first ∙ (ap (λ (list : List Entry). s.entries ++ list) is ∙ sym (append_assoc s.entries (entry ∷ []) now));
      spelled = subst (λ (list : List ℕ). Spells GoesOn before list next room) (sym text)
          (spells_more GoesOn spelled next before between room (entries_text s.entries) (entry_text entry) s.spelled one);
    }

pub left_all : (left now : List Entry) (spelled : Writing) (before room : List ℕ) → SpellsLeft left now spelled before room → now ≡ []
    → Spells GoesOn before (entries_text left) spelled room
left_all left now spelled before room s none =
    let all : left ≡ s.entries =
    s.first ∙ (ap (λ (list : List Entry). s.entries ++ list) none ∙ append-nil s.entries) in
    subst (λ (list : List Entry). Spells GoesOn before (entries_text list) spelled room) (sym all) s.spelled

-- a room that was empty
pub from_empty : (text : List ℕ) (spelled : Writing) (empty room : List ℕ) → empty ≡ [] → Spells GoesOn empty text spelled room
    → Spells GoesOn [] text spelled room
from_empty text spelled empty room none spells = subst (λ (list : List ℕ). Spells GoesOn list text spelled room) none spells
