-- What records add up to.
use Rattle.std.proofs.Common.{◌≡◌, ◌∙◌, ◌≤◌, ◌⊎◌, inl, inr, ℕ, suc, ◌+◌, List, [], ◌∷◌, ◌++◌, length, refl, sym, ap}
use Rattle.std.proofs.Common.{subst, append_assoc}
use Rattle.std.proofs.Common.{append-nil, arith}
use mathlib.Core.Logic.{dite}
use native.Mathlib.Decide.{dec_le}
use Rattle.std.proofs.lemmas.List.{length-append}
use Rattle.desk_ports.specs.Faults.{next_count, last_count}
use Rattle.monitor_rule.specs.declared.entries.Entry.{Entry}
use Rattle.check_monitor.specs.Monitor.{RecorderState, Records}
use Rattle.check_monitor.specs.declared.recording.Recorded.{Recorded}
use Rattle.check_monitor.specs.declared.recording.Recorded.TheVariants.{Put, Full, Spent}
use Rattle.client_door.specs.declared.judgements.Judgement.{Judgement}
use Rattle.desk_server.specs.Monitoring.{entry_for, AreEntriesFrom, RecordsEach, IsPart}

-- ---- counts

-- a count of misses rises, unless it is at its last value
missed_one : (put put' missed missed' : ℕ) → missed' ≤ last_count → put ≡ put' → missed ≡ next_count missed'
    → (missed ≤ last_count) × ((put + missed ≡ suc (put' + missed')) ⊎ (missed ≡ last_count)) × (missed' ≤ missed)
missed_one put put' missed missed' fits same is = (
  omega (arith, fits, is),
  dite (dec_le (suc missed') last_count) (λ (low : suc missed' ≤ last_count). inl (omega (arith, low, same, is)))
      (λ (high : suc missed' ≤ last_count → ⊥). inr (omega (arith, high, fits, is))),
  omega (arith, fits, is),
)

-- a record leaves both counts but one, which it raises, unless the count of misses is at its last value
one_more : (old new : RecorderState) (entry : Entry) (recorded : Recorded) → old.missed ≤ last_count
    → Records old entry recorded new
    → (new.missed ≤ last_count)
    × ((length new.put + new.missed ≡ suc (length old.put + old.missed)) ⊎ (new.missed ≡ last_count))
    × (old.missed ≤ new.missed)
one_more old new entry (Put number) fits (below, is, same) =
    let put : length new.put ≡ length old.put + 1 =
    ap (λ (x : RecorderState). length x.put) same ∙ length-append old.put (entry ∷ []) in
    let missed : new.missed ≡ old.missed = ap (λ (x : RecorderState). x.missed) same in
    (omega (arith, missed, fits), inl (omega (arith, put, missed)), omega (arith, missed))
one_more old new entry (Full number) fits (below, is, same, full) =
    let put : length new.put ≡ length old.put = ap (λ (x : RecorderState). length x.put) same in
    let missed : new.missed ≡ next_count old.missed = ap (λ (x : RecorderState). x.missed) same in
    missed_one (length new.put) (length old.put) new.missed old.missed fits put missed
one_more old new entry (Spent number) fits (at, is, same) =
    let put : length new.put ≡ length old.put = ap (λ (x : RecorderState). length x.put) same in
    let missed : new.missed ≡ next_count old.missed = ap (λ (x : RecorderState). x.missed) same in
    missed_one (length new.put) (length old.put) new.missed old.missed fits put missed

pub adds_up : (judged : List Judgement) (old new : RecorderState) → old.missed ≤ last_count → RecordsEach old judged new
    → (length new.put + new.missed ≡ length old.put + old.missed + length judged) ⊎ (new.missed ≡ last_count)
adds_up [] old new fits same = inl (ap (λ (x : RecorderState). length x.put + x.missed) same ∙ omega arith)
adds_up (judgement ∷ more) old new fits (time, recorded, between, one, rest) =
    let first = one_more old between (entry_for old.worker (length old.put) time judgement) recorded fits one in
    join (length old.put + old.missed) (length between.put + between.missed) (length new.put + new.missed) (length more)
    between.missed new.missed
    first.1 (adds_up more between new first.0 rest) (stays more between new first.0 rest)
  where
    join : (a b c n m k : ℕ) → (b ≡ suc a) ⊎ (m ≡ last_count) → (c ≡ b + n) ⊎ (k ≡ last_count) → (m ≤ k)
        × (k ≤ last_count)
        → (c ≡ a + suc n) ⊎ (k ≡ last_count)
    join a b c n m k (inr last) then low = inr (omega (arith, last, low.0, low.1))
    join a b c n m k (inl one) (inr last) low = inr last
    join a b c n m k (inl one) (inl then) low = inl (omega (arith, one, then))

    stays : (judged : List Judgement) (old new : RecorderState) → old.missed ≤ last_count → RecordsEach old judged new
        → (old.missed ≤ new.missed) × (new.missed ≤ last_count)
    stays [] old new fits same =
        let missed : new.missed ≡ old.missed = ap (λ (x : RecorderState). x.missed) same in
        (omega (arith, missed), omega (arith, missed, fits))
    stays (judgement ∷ more) old new fits (time, recorded, between, one, rest) =
        let first = one_more old between (entry_for old.worker (length old.put) time judgement) recorded fits one in
        let then = stays more between new first.0 rest in
        (omega (arith, first.2, then.0), then.1)

-- ---- entries

left_out : (judgement : Judgement) (put more : List Judgement) → IsPart put more → IsPart put (judgement ∷ more)
left_out judgement [] more part = part
left_out judgement (one ∷ put) more part = inr part

-- what was put of these checks
abbrev Puts : RecorderState → List Judgement → RecorderState → Type 0
Puts old judged new = (put : List Judgement) × (entries : List Entry) × IsPart put judged
    × AreEntriesFrom old.worker (length old.put) put entries × (new.put ≡ old.put ++ entries)

-- a check that was missed
after_miss : (judgement : Judgement) (more : List Judgement) (old between new : RecorderState) → between.put ≡ old.put
    → between.worker ≡ old.worker → Puts between more new → Puts old (judgement ∷ more) new
after_miss judgement more old between new same worker (put, entries, part, are, is) = (
  put,
  entries,
  left_out judgement put more part,
  subst (λ (count : ℕ). AreEntriesFrom old.worker count put entries) (ap (λ (list : List Entry). length list) same)
      (subst (λ (n : ℕ). AreEntriesFrom n (length between.put) put entries) worker are),
  is ∙ ap (λ (list : List Entry). list ++ entries) same,
)

pub is_judged : (judged : List Judgement) (old new : RecorderState) → RecordsEach old judged new → Puts old judged new
is_judged [] old new same = ([], [], tt, refl, ap (λ (x : RecorderState). x.put) same ∙ sym (append-nil old.put))
is_judged (judgement ∷ more) old new (time, Put number, between, (below, is, same), rest) =
    let (put, entries, part, are, then) = is_judged more between new rest in
    let entry = entry_for old.worker (length old.put) time judgement in
    let put_is : between.put ≡ old.put ++ entry ∷ [] = ap (λ (x : RecorderState). x.put) same in
    let worker : between.worker ≡ old.worker = ap (λ (x : RecorderState). x.worker) same in
    let count : length between.put ≡ suc (length old.put) =
    ap (λ (list : List Entry). length list) put_is ∙ (length-append old.put (entry ∷ []) ∙ omega arith) in
    let others : AreEntriesFrom old.worker (suc (length old.put)) put entries =
    subst (λ (n : ℕ). AreEntriesFrom old.worker n put entries) count
    (subst (λ (n : ℕ). AreEntriesFrom n (length between.put) put entries) worker are) in (
      judgement ∷ put,
      entry ∷ entries,
      inl (refl, part),
      (time, entries, refl, others),
      then ∙ (ap (λ (list : List Entry). list ++ entries) put_is ∙ append_assoc old.put (entry ∷ []) entries),
    )
is_judged (judgement ∷ more) old new (time, Full number, between, (below, is, same, full), rest) =
    after_miss judgement more old between new (ap (λ (x : RecorderState). x.put) same)
    (ap (λ (x : RecorderState). x.worker) same)
    (is_judged more between new rest)
is_judged (judgement ∷ more) old new (time, Spent number, between, (at, is, same), rest) =
    after_miss judgement more old between new (ap (λ (x : RecorderState). x.put) same)
    (ap (λ (x : RecorderState). x.worker) same)
    (is_judged more between new rest)
