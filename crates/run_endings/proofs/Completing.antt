-- A run in which no call fails.
use Rattle.std.proofs.Common.{◌≡◌, ◌<◌, ◌⊎◌, ◌++◌, inl, inr, ℕ, List, sym, ap, ◌∙◌, subst, append-nil, arith}
use Rattle.desk_ports.specs.Faults.{next_count, last_count}
use Rattle.desk_ports.specs.Content.{Appended}
use Rattle.run_endings.specs.Outside.{Outside, SinkSeen}
use Rattle.run_endings.specs.Ending.{status_of, CountsFaults, NoCallFails, IsUnfailed}
use Rattle.run_endings.specs.Saying.{Said, Writes}
use Rattle.run_endings.specs.declared.endings.Ending.{Ending}
use Rattle.run_endings.specs.declared.endings.Ending.TheVariants.{Done, Memory, Source, Sink, Disk}

-- a count that rises is another one
moves : (count : ℕ) → count < last_count → next_count count ≡ count → ⊥
moves count below same = omega (arith, same, below)

pub is-unfailed : (ending : Ending) (said : Said) (before after : Outside) → CountsFaults ending before after
    → Writes ending said before.sink after.sink → NoCallFails before after → IsUnfailed ending
is-unfailed Source said before after counts writes none =
    moves before.source.faults none.source.0 (sym counts.source ∙ none.source.1)
is-unfailed Sink said before after counts writes none = moves before.sink.faults none.sink.0 (sym writes.counts ∙ none.sink.1)
is-unfailed Disk said before after counts writes none = moves before.disk.faults none.disk.0 (sym counts.disk ∙ none.disk.1)
is-unfailed ending said before after counts writes none = tt

-- what is written by a run that ends with this answer, or by want of memory
pub gives : (ending : Ending) (said : Said) (status : ℕ) (sink sink_after : SinkSeen) (answer : List ℕ)
    → status ≡ status_of ending → Writes ending said sink sink_after
    → ((ending ≡ Done) × (said.due ≡ answer)) ⊎ (ending ≡ Memory)
    → ((status ≡ 0) × Appended sink.taken answer sink_after.taken) ⊎ (status ≡ 1)
gives ending said status sink sink_after answer is writes (inl (done, due)) =
    let w : Writes Done said sink sink_after = subst (λ ending. Writes ending said sink sink_after) done writes in
    let text : said.written ++ w.last ≡ answer =
    ap (λ last. said.written ++ last) w.is_written.1 ∙ (append-nil said.written ∙ (w.is_written.0 ∙ due)) in
    inl (is ∙ ap status_of done, subst (λ text. Appended sink.taken text sink_after.taken) text w.taken)
gives ending said status sink sink_after answer is writes (inr memory) = inr (is ∙ ap status_of memory)
