-- Texts that are written one behind the other.
use Rattle.std.proofs.Common.{◌≡◌, ◌∙◌, ◌≤◌, ◌+◌, ℕ, zero, suc, List, [], ◌∷◌, ◌++◌, length, take, Option, Some, None, refl, sym, ap, subst, append_assoc, append-nil, arith}
use Rattle.std.proofs.lemmas.List.{length-append}
use Rattle.desk_ports.specs.Content.{Appended}
use Rattle.desk_ports.specs.Faults.{next_count}
use Rattle.run_endings.specs.Outside.{SinkSeen}
use Rattle.monitor_rule.specs.declared.entries.Entry.{Entry}
use Rattle.check_monitor.specs.Monitor.{ReaderState}
use Rattle.monitor_journal.specs.Lines.{entry_text}
use Rattle.std.proofs.lemmas.Grind.{flat_map-append}
use Rattle.monitor_rule.specs.Steps.{AreKnown}
use Rattle.monitor_journal.proofs.Lines.{known-more}
use Rattle.monitor_journal.specs.Journal.{entries_text, Writes, HandsOn, Journals}
use Rattle.monitor_journal.specs.declared.writing.Writing.{Writing}
use Rattle.monitor_journal.specs.declared.writing.Writing.TheVariants.{GoesOn, SinkFailed, OutOfMemory}

-- ---- fronts of a text

take_first : (n : ℕ) (text more : List ℕ) → n ≤ length text → take n (text ++ more) ≡ take n text
take_first zero text more low = refl
take_first (suc n) [] more low = absurd (omega (arith, low))
take_first (suc n) (x ∷ text) more low = ap (λ list. x ∷ list) (take_first n text more (omega (arith, low)))

past : (m n : ℕ) (text more : List ℕ) → m ≡ length text + n → take m (text ++ more) ≡ text ++ take n more
past m n [] more is =
    let same : m ≡ n = omega (arith, is) in ap (λ (k : ℕ). take k more) same
past zero n (x ∷ text) more is = absurd (omega (arith, is))
past (suc m) n (x ∷ text) more is = ap (λ list. x ∷ list) (past m n text more (omega (arith, is)))

take_past : (n : ℕ) (text more : List ℕ) → take (length text + n) (text ++ more) ≡ text ++ take n more
take_past n text more = past (length text + n) n text more refl

-- ---- what a sink took

pub took_none : (told : Option (List ℕ)) → Appended told [] told
took_none None = tt
took_none (Some before) = ap (λ list. Some list) (sym (append-nil before))

took_then : (a b c : Option (List ℕ)) (text more : List ℕ) → Appended a text b → Appended b more c → Appended a (text ++ more) c
took_then None b c text more first then = tt
took_then (Some before) b c text more first then =
    subst (λ (told : Option (List ℕ)). Appended told more c) first then ∙ ap (λ list. Some list) (append_assoc before text more)

took_same : (a b : Option (List ℕ)) (text other : List ℕ) → other ≡ text → Appended a text b → Appended a other b
took_same a b text other is took = subst (λ (list : List ℕ). Appended a list b) (sym is) took

-- ---- one text behind the other

stays : (first second : Writing) (more : List ℕ) (before after : SinkSeen) → first ≡ SinkFailed → Writes first more before second after
    → (second ≡ SinkFailed) × (after ≡ before)
stays SinkFailed second more before after is writes = writes
stays GoesOn second more before after is writes = cc
stays OutOfMemory second more before after is writes = cc

ceases : (first second : Writing) (more : List ℕ) (before after : SinkSeen) → first ≡ OutOfMemory → Writes first more before second after
    → (second ≡ OutOfMemory) × (after ≡ before)
ceases OutOfMemory second more before after is writes = writes
ceases GoesOn second more before after is writes = cc
ceases SinkFailed second more before after is writes = cc

pub writes_then : (first second third : Writing) (text more : List ℕ) (before between after : SinkSeen) → Writes first text before second between
    → Writes second more between third after → Writes first (text ++ more) before third after
writes_then GoesOn GoesOn GoesOn text more before between after (count, took) (count', took') =
    (count' ∙ count, took_then before.taken between.taken after.taken text more took took')
writes_then GoesOn GoesOn SinkFailed text more before between after (count, took) (count', (n, low, took')) = (
  count' ∙ ap next_count count,
  (
    length text + n,
    (let long = length-append text more in omega (arith, low, long)),
    took_same before.taken after.taken (text ++ take n more) (take (length text + n) (text ++ more)) (take_past n text more)
        (took_then before.taken between.taken after.taken text (take n more) took took'),
  ),
)
writes_then GoesOn GoesOn OutOfMemory text more before between after (count, took) (count', (n, low, took')) = (
  count' ∙ count,
  (
    length text + n,
    (let long = length-append text more in omega (arith, low, long)),
    took_same before.taken after.taken (text ++ take n more) (take (length text + n) (text ++ more)) (take_past n text more)
        (took_then before.taken between.taken after.taken text (take n more) took took'),
  ),
)
writes_then GoesOn SinkFailed third text more before between after (count, (n, low, took)) then =
    let is = stays SinkFailed third more between after refl then in
    subst (λ (w : Writing). Writes GoesOn (text ++ more) before w after) (sym is.0)
    (subst (λ (s : SinkSeen). Writes GoesOn (text ++ more) before SinkFailed s) (sym is.1) (
      count,
      (
        n,
        (let long = length-append text more in omega (arith, low, long)),
        took_same before.taken between.taken (take n text) (take n (text ++ more)) (take_first n text more (omega (arith, low))) took,
      ),
    ))
writes_then GoesOn OutOfMemory third text more before between after (count, (n, low, took)) then =
    let is = ceases OutOfMemory third more between after refl then in
    subst (λ (w : Writing). Writes GoesOn (text ++ more) before w after) (sym is.0)
    (subst (λ (s : SinkSeen). Writes GoesOn (text ++ more) before OutOfMemory s) (sym is.1) (
      count,
      (
        n,
        (let long = length-append text more in omega (arith, low, long)),
        took_same before.taken between.taken (take n text) (take n (text ++ more)) (take_first n text more low) took,
      ),
    ))
writes_then SinkFailed second third text more before between after (is, same) then =
    let (third_is, after_is) = stays second third more between after is then in (third_is, after_is ∙ same)
writes_then OutOfMemory second third text more before between after (is, same) then =
    let (third_is, after_is) = ceases second third more between after is then in (third_is, after_is ∙ same)

pub writes_none : (writing : Writing) (sink : SinkSeen) → Writes writing [] sink writing sink
writes_none GoesOn sink = (refl, took_none sink.taken)
writes_none SinkFailed sink = (refl, refl)
writes_none OutOfMemory sink = (refl, refl)

-- ---- journals

-- nothing was handed out
pub journals_none : (reader : ReaderState) (writing : Writing) (sink : SinkSeen) → Journals 0 reader reader writing writing sink sink
journals_none reader writing sink =
    record {
      entries = [];
      few = omega arith;
      known = tt;
      handed = ap (λ list. record reader { handed = list }) (sym (append-nil reader.handed));
      written = writes_none writing sink;
    }

-- in one turn
pub journals_once : (reader now : ReaderState) (writing next : Writing) (before after : SinkSeen)
    → HandsOn 1024 reader now writing next before after → Journals 1 reader now writing next before after
journals_once reader now writing next before after hands =
    record { entries = hands.entries; few = hands.few; known = hands.known; handed = hands.handed; written = hands.written }

pub journals_then : (some more : ℕ) (a b c : ReaderState) (first second third : Writing) (before between after : SinkSeen)
    → Journals some a b first second before between → Journals more b c second third between after
    → Journals (some + more) a c first third before after
journals_then some more a b c first second third before between after one then =
    let text : entries_text (one.entries ++ then.entries) ≡ entries_text one.entries ++ entries_text then.entries =
    flat_map-append entry_text one.entries then.entries in
    record {
      entries = one.entries ++ then.entries;
      few = (let long = length-append one.entries then.entries in omega (arith, long, one.few, then.few));
      known = known-more a.made one.entries then.entries one.known
          (subst (λ (n : ℕ). AreKnown n then.entries) (ap (λ (r : ReaderState). r.made) one.handed) then.known);
      handed = then.handed ∙ (ap (λ (r : ReaderState). record r { handed = r.handed ++ then.entries }) one.handed
          ∙ ap (λ (list : List Entry). record a { handed = list }) (append_assoc a.handed one.entries then.entries));
      written = subst (λ (list : List ℕ). Writes first list before third after) (sym text)
          (writes_then first second third (entries_text one.entries) (entries_text then.entries) before between after one.written then.written);
    }
