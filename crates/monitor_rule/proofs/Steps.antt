-- Each kind of step keeps the rule.
use Rattle.std.proofs.Common.{◌≡◌, ◌≢◌, ℕ, suc, ◌+◌, ◌<◌, ◌≤◌, true, false, List, [], ◌∷◌, ◌++◌, length, set, refl, sym, ap, ◌∙◌, subst, ⊎_elim, inl, inr, zero, eq-eqb, ne_eqb, ◌==◌, append_assoc, lt_of_not-le, arith}
use Rattle.std.proofs.lemmas.List.{length-append}
use mathlib.Core.Option.{Option, some, none, some-injective, some-ne-none}
use mathlib.Core.Bool.{Bool, cond}
use mathlib.Core.Logic.{dite, ◌⊎◌}
use native.Mathlib.Decide.{dec_le, ℕ_discrete}
use lib.ListN.{get_elem?}
use Rattle.crossbeam_queue.specs.Fifo.{Pushes, Pops, Forks, Merges, Learns}
use Rattle.crossbeam_queue.proofs.Lists.{at_set, at_snoc}
use Rattle.monitor_rule.specs.declared.entries.Entry.{Entry}
use Rattle.monitor_rule.specs.declared.knowing.Account.{Account}
use Rattle.monitor_rule.specs.declared.knowing.View.{View}
use Rattle.monitor_rule.specs.Entries.{of_worker, NumberedFrom}
use Rattle.monitor_rule.specs.Rule.{FitsRecorder, FitsReader, IsFinal, FitsEnd, Keeps, Delivers}
use Rattle.monitor_rule.specs.Steps.{new_reader, new_recorder, ended, with_one_made, with_put, with_handed, with_joined, account_of, with_left, AreAllJoined, TellsLeft, TakesLeft, IsNext, IsKnown, AreKnown, IsNumberedNext, StandsIn, AreSettled}
use Rattle.monitor_rule.proofs.Counts.{of-append, of-its, of-others, numbered-more, numbered-at}

false-ne-true : false ≡ true → ⊥
false-ne-true is = cc

-- what holds of a changed pass and of all others holds of all
all_set : (F : ℕ → View → Type 0) (views : List View) (pass : ℕ) (w : View) → F pass w
    → ((j : ℕ) (u : View) → j ≢ pass → get_elem? views j ≡ some u → F j u)
    → (j : ℕ) (u : View) → get_elem? (set views pass w) j ≡ some u → F j u
all_set F views pass w mine others j u e = ⊎_elim
    (λ (t : (j ≡ pass) × (w ≡ u)). subst (λ (k : ℕ). F k u) (sym t.0) (subst (λ (z : View). F pass z) t.1 mine))
    (λ (t : (j ≢ pass) × (get_elem? views j ≡ some u)). others j u t.0 t.1)
    (at_set views pass j w u e)

-- a reader that does not know what is left
not-ended : (seat : ℕ → Option ℕ) (items : List Entry) (v : View) → v.ends ≡ false → FitsEnd seat items v
not-ended seat items v not reads is = absurd (false-ne-true (sym not ∙ is))

-- no other pass reads
no-other : (reader pass : ℕ) (seat seat' : ℕ → Option ℕ) (handed all items : List Entry) (views : List View) → pass ≡ reader
    → ((j : ℕ) (u : View) → get_elem? views j ≡ some u → FitsRecorder seat all j u × FitsReader reader seat handed all j u)
    → (j : ℕ) (u : View) → j ≢ pass → get_elem? views j ≡ some u → FitsEnd seat' items u
no-other reader pass seat seat' handed all items views mine each j u other e reads is = absurd (other (((each j u e).1 reads).0 ∙ sym mine))

-- the queue is made
begins-all : (pass : ℕ) (v : View) → get_elem? (new_reader ∷ []) pass ≡ some v → FitsRecorder (λ _. none) [] pass v × FitsReader 0 (λ _. none) [] [] pass v
begins-all zero v e =
    let F : View → Type 0 = λ u. FitsRecorder (λ _. none) [] 0 u × FitsReader 0 (λ _. none) [] [] 0 u in
    subst F (some-injective new_reader v e)
    ((λ is. absurd (false-ne-true is)), (λ _. (refl, refl, (λ worker _. (refl, refl)), (λ place account at. absurd (some-ne-none account (sym at))))))
begins-all (suc pass) v e = absurd (some-ne-none v (sym e))

begins-ends : (pass : ℕ) (v : View) → get_elem? (new_reader ∷ []) pass ≡ some v → FitsEnd (λ _. none) [] v
begins-ends zero v e = subst (λ (u : View). FitsEnd (λ _. none) [] u) (some-injective new_reader v e) (λ _ (is : false ≡ true). absurd (false-ne-true is))
begins-ends (suc pass) v e = absurd (some-ne-none v (sym e))

pub begins : Delivers [] (new_reader ∷ [])
begins = (0, (λ _. none), [], ((λ worker. tt), begins-all), begins-ends)

-- a seat given away or taken back
abbrev moved : (ℕ → Option ℕ) → ℕ → Option ℕ → ℕ → Option ℕ
moved seat worker to other = cond (other == worker) to (seat other)

moved-here : (seat : ℕ → Option ℕ) (worker : ℕ) (to : Option ℕ) → moved seat worker to worker ≡ to
moved-here seat worker to = ap (λ (b : Bool). cond b to (seat worker)) (eq-eqb worker worker refl)

moved-else : (seat : ℕ → Option ℕ) (worker : ℕ) (to : Option ℕ) (other : ℕ) → other ≢ worker → moved seat worker to other ≡ seat other
moved-else seat worker to other n = ap (λ (b : Bool). cond b to (seat other)) (ne_eqb other worker n)

moved-none : (seat : ℕ → Option ℕ) (worker other : ℕ) → seat other ≡ none → moved seat worker none other ≡ none
moved-none seat worker other is = dite (ℕ_discrete other worker)
    (λ (e : other ≡ worker). ap (λ (b : Bool). cond b none (seat other)) (eq-eqb other worker e))
    (λ (n : other ≢ worker). moved-else seat worker none other n ∙ is)

-- workers whose seats differ differ
unlike : (seat : ℕ → Option ℕ) (pass one other : ℕ) → seat one ≡ some pass → seat other ≡ none → one ≢ other
unlike seat pass one other has lacks is = some-ne-none pass (sym has ∙ ap seat is ∙ lacks)

apart-by : (seat : ℕ → Option ℕ) (pass pass' one other : ℕ) → seat one ≡ some pass → seat other ≡ some pass' → pass ≢ pass' → one ≢ other
apart-by seat pass pass' one other has has' differ is = differ (some-injective pass pass' (sym has ∙ ap seat is ∙ has'))

-- the last pass, or one before it
at_end : (l : List View) (a b : View) (j : ℕ) → get_elem? (l ++ a ∷ []) j ≡ some b → (get_elem? l j ≡ some b) ⊎ ((j ≡ length l) × (a ≡ b))
at_end [] a b zero e = inr (refl, some-injective a b e)
at_end [] a b (suc j) e = absurd (some-ne-none b (sym e))
at_end (x ∷ xs) a b zero e = inl e
at_end (x ∷ xs) a b (suc j) e = ⊎_elim
    (λ (t : get_elem? xs j ≡ some b). inl t)
    (λ (t : (j ≡ length xs) × (a ≡ b)). inr (ap suc t.0, t.1))
    (at_end xs a b j e)

-- a recorder is made
pub makes : (pass : ℕ) (v : View) → v.reads ≡ true → v.joined ≡ [] → v.ends ≡ false → Forks Delivers pass v (with_one_made v) (new_recorder v.made)
makes pass v reads alone not items views (reader, seat, handed, (numbered, each), ends) at =
    let all : List Entry = handed ++ items in
    let mine = (each pass v at).1 reads in
    let left : View = with_one_made v in
    let right : View = new_recorder v.made in
    let vs : List View = set views pass left in
    let free : seat v.made ≡ none = (mine.2 v.made (omega arith)).0 in
    let seat' : ℕ → Option ℕ = moved seat v.made (some (length vs)) in
    let F : ℕ → View → Type 0 = λ j u. FitsRecorder seat' all j u × FitsReader reader seat' handed all j u in
    let recorder : (j : ℕ) (u : View) → FitsRecorder seat all j u → FitsRecorder seat' all j u = λ j u fits records.
    let f = fits records in (moved-else seat v.made (some (length vs)) u.worker (unlike seat j u.worker v.made f.0 free) ∙ f.0, f.1) in
    let here : F pass left = (
      recorder pass v (each pass v at).0,
      (λ _. (
        mine.0,
        mine.1,
        (λ (worker : ℕ) (low : suc v.made ≤ worker). let f = mine.2 worker (omega (arith, low)) in (
          moved-else seat v.made (some (length vs)) worker (λ (is : worker ≡ v.made). omega (arith, low, is)) ∙ f.0,
          f.1,
        )),
        (λ (place : ℕ) (account : Account) e.
            absurd (some-ne-none account (sym (subst (λ (joined : List Account). get_elem? joined place ≡ some account) alone e)))),
      )),
    ) in
    let old = all_set F views pass left here
    (λ (j : ℕ) (u : View) other e. (recorder j u (each j u e).0, (λ reads'. absurd (other (((each j u e).1 reads').0 ∙ sym mine.0))))) in (
      reader,
      seat',
      handed,
      (
        numbered,
        (λ (j : ℕ) (u : View) e. ⊎_elim
            (λ (t : get_elem? vs j ≡ some u). old j u t)
            (λ (t : (j ≡ length vs) × (right ≡ u)). subst (λ (k : ℕ). F k u) (sym t.0) (subst (λ (z : View). F (length vs) z) t.1
            ((λ _. (moved-here seat v.made (some (length vs)), sym (mine.2 v.made (omega arith)).1)), (λ (reads' : false ≡ true). absurd (false-ne-true reads')))))
            (at_end vs right u j e)),
      ),
      (λ (j : ℕ) (u : View) e. ⊎_elim
          (λ (t : get_elem? vs j ≡ some u). all_set (λ _ (z : View). FitsEnd seat' items z) views pass left (not-ended seat' items left not)
          (no-other reader pass seat seat' handed all items views mine.0 each) j u t)
          (λ (t : (j ≡ length vs) × (right ≡ u)). subst (λ (z : View). FitsEnd seat' items z) t.1 (not-ended seat' items right refl))
          (at_end vs right u j e)),
    )

-- what a pass that reads knows where the recorder of another worker puts an entry
reader-grows : (reader : ℕ) (seat : ℕ → Option ℕ) (handed all : List Entry) (entry : Entry) (pass j : ℕ) (u : View) → seat entry.worker ≡ some pass
    → FitsReader reader seat handed all j u → FitsReader reader seat handed (all ++ entry ∷ []) j u
reader-grows reader seat handed all entry pass j u has fits reads = let f = fits reads in (
  f.0,
  f.1,
  (λ (worker : ℕ) (low : u.made ≤ worker). let g = f.2 worker low in (g.0, of-others worker all entry (unlike seat pass entry.worker worker has g.0) ∙ g.1)),
  (λ (place : ℕ) (account : Account) e. let g = f.3 place account e in (
    g.0,
    g.1 ∙ sym (of-others account.worker all entry (unlike seat pass entry.worker account.worker has g.0)),
  )),
)

numbers-grow : (all : List Entry) (entry : Entry) → entry.number ≡ length (of_worker entry.worker all) → ((worker : ℕ) → NumberedFrom 0 (of_worker worker all))
    → (worker : ℕ) → NumberedFrom 0 (of_worker worker (all ++ entry ∷ []))
numbers-grow all entry is numbered worker = dite (ℕ_discrete entry.worker worker)
    (λ (e : entry.worker ≡ worker).
    let count : entry.number ≡ length (of_worker worker all) = is ∙ ap (λ (k : ℕ). length (of_worker k all)) e in
    subst (λ (l : List Entry). NumberedFrom 0 l) (sym (of-its worker all entry e)) (numbered-more 0 (of_worker worker all) entry (numbered worker) (omega (arith, count))))
    (λ (n : entry.worker ≢ worker). subst (λ (l : List Entry). NumberedFrom 0 l) (sym (of-others worker all entry n)) (numbered worker))

-- a recorder puts the next entry
pub pushes : (room pass : ℕ) (v : View) (entry : Entry) → v.records ≡ true → IsNext v entry → Pushes Delivers room pass v entry (λ w. w ≡ with_put entry v)
pushes room pass v entry records next items views short (reader, seat, handed, (numbered, each), ends) at =
    let all : List Entry = handed ++ items in
    let mine = (each pass v at).0 records in
    let w : View = with_put entry v in
    let has : seat entry.worker ≡ some pass = ap seat next.0 ∙ mine.0 in
    let count : entry.number ≡ length (of_worker entry.worker all) =
    next.1 ∙ ap (λ (l : List Entry). length l) mine.1 ∙ ap (λ (k : ℕ). length (of_worker k all)) (sym next.0) in
    let F : ℕ → View → Type 0 = λ j u. FitsRecorder seat (all ++ entry ∷ []) j u × FitsReader reader seat handed (all ++ entry ∷ []) j u in
    let here : F pass w = (
      (λ _. (mine.0, ap (λ (l : List Entry). l ++ entry ∷ []) mine.1 ∙ sym (of-its v.worker all entry next.0))),
      reader-grows reader seat handed all entry pass pass v has (each pass v at).1,
    ) in
    let grown : Keeps reader seat handed (all ++ entry ∷ []) (set views pass w) = (
      numbers-grow all entry count numbered,
      all_set F views pass w here
          (λ (j : ℕ) (u : View) other e. (
            (λ records'. let g = (each j u e).0 records' in (
              g.0,
              g.1 ∙ sym (of-others u.worker all entry (apart-by seat pass j entry.worker u.worker has g.0 (λ (is : pass ≡ j). other (sym is)))),
            )),
            reader-grows reader seat handed all entry pass j u has (each j u e).1,
          )),
    ) in
    let more : List Entry = items ++ entry ∷ [] in
    let never : (j : ℕ) (u : View) → get_elem? views j ≡ some u → FitsEnd seat more u = λ j u e reads' is.
    absurd (some-ne-none pass (sym mine.0 ∙ (ends j u e reads' is).1 v.worker)) in
    let kept = subst (λ (l : List Entry). Keeps reader seat handed l (set views pass w)) (append_assoc handed items (entry ∷ [])) grown in (
      w,
      (reader, seat, handed, kept, all_set (λ _ (z : View). FitsEnd seat more z) views pass w (never pass v at) (λ (j : ℕ) (u : View) _ e. never j u e)),
      refl,
    )

-- the number of an entry that stands behind those that were handed out
number-at : (handed items : List Entry) (entry : Entry) → NumberedFrom 0 (of_worker entry.worker (handed ++ entry ∷ items))
    → entry.number ≡ length (of_worker entry.worker handed)
number-at handed items entry numbered =
    let front : List Entry = of_worker entry.worker handed in
    let behind : List Entry = of_worker entry.worker items in
    let here : of_worker entry.worker (entry ∷ items) ≡ entry ∷ behind = ap (λ (b : Bool). cond b (entry ∷ behind) behind) (eq-eqb entry.worker entry.worker refl) in
    let whole : of_worker entry.worker (handed ++ entry ∷ items) ≡ front ++ entry ∷ behind =
    of-append entry.worker handed (entry ∷ items) ∙ ap (λ (l : List Entry). front ++ l) here in
    let is = numbered-at 0 front entry behind (subst (λ (l : List Entry). NumberedFrom 0 l) whole numbered) in omega (arith, is)

-- the reader, with an entry more that it handed out
handing : (reader pass : ℕ) (seat : ℕ → Option ℕ) (handed items : List Entry) (entry : Entry) (v : View) (views : List View) (ends : Bool) (left : List Entry)
    → v.reads ≡ true → Keeps reader seat handed (handed ++ entry ∷ items) views → get_elem? views pass ≡ some v
    → Keeps reader seat (handed ++ entry ∷ []) ((handed ++ entry ∷ []) ++ items) (set views pass (record (with_handed entry v) { ends = ends; left = left }))
handing reader pass seat handed items entry v views ends left reads (numbered, each) at =
    let all : List Entry = handed ++ entry ∷ items in
    let longer : List Entry = handed ++ entry ∷ [] in
    let mine = (each pass v at).1 reads in
    let w : View = record (with_handed entry v) { ends = ends; left = left } in
    let F : ℕ → View → Type 0 = λ j u. FitsRecorder seat all j u × FitsReader reader seat longer all j u in
    let here : F pass w = ((each pass v at).0, (λ _. (mine.0, ap (λ (l : List Entry). l ++ entry ∷ []) mine.1, mine.2, mine.3))) in
    let kept : Keeps reader seat longer all (set views pass w) = (
      numbered,
      all_set F views pass w here
          (λ (j : ℕ) (u : View) other e. ((each j u e).0, (λ reads'. absurd (other (((each j u e).1 reads').0 ∙ sym mine.0))))),
    ) in
    subst (λ (l : List Entry). Keeps reader seat longer l (set views pass w)) (sym (append_assoc handed (entry ∷ []) items)) kept

-- what ends of the reader and of the others
ending : (reader pass : ℕ) (seat : ℕ → Option ℕ) (handed all items : List Entry) (w : View) (views : List View) → pass ≡ reader
    → ((j : ℕ) (u : View) → get_elem? views j ≡ some u → FitsRecorder seat all j u × FitsReader reader seat handed all j u)
    → FitsEnd seat items w → (j : ℕ) (u : View) → get_elem? (set views pass w) j ≡ some u → FitsEnd seat items u
ending reader pass seat handed all items w views mine each here =
    all_set (λ _ (z : View). FitsEnd seat items z) views pass w here (no-other reader pass seat seat handed all items views mine each)

next-number : (handed items : List Entry) (entry : Entry) (v : View) → v.handed ≡ handed → NumberedFrom 0 (of_worker entry.worker (handed ++ entry ∷ items))
    → IsNumberedNext v entry
next-number handed items entry v is numbered =
    number-at handed items entry numbered ∙ ap (λ (l : List Entry). length (of_worker entry.worker l)) (sym is)

-- where there is nothing of the workers from a number on, an entry is of a worker below it
known-at : (made : ℕ) (handed items : List Entry) (entry : Entry) → ((worker : ℕ) → made ≤ worker → of_worker worker (handed ++ entry ∷ items) ≡ [])
    → entry.worker < made
known-at made handed items entry nothing = dite (dec_le made entry.worker)
    (λ (low : made ≤ entry.worker).
    let front : List Entry = of_worker entry.worker handed in
    let behind : List Entry = of_worker entry.worker items in
    let here : of_worker entry.worker (entry ∷ items) ≡ entry ∷ behind = ap (λ (b : Bool). cond b (entry ∷ behind) behind) (eq-eqb entry.worker entry.worker refl) in
    let whole : of_worker entry.worker (handed ++ entry ∷ items) ≡ front ++ entry ∷ behind =
    of-append entry.worker handed (entry ∷ items) ∙ ap (λ (l : List Entry). front ++ l) here in
    let count : length (front ++ entry ∷ behind) ≡ length front + suc (length behind) = length-append front (entry ∷ behind) in
    let none : length (front ++ entry ∷ behind) ≡ 0 = ap (λ (l : List Entry). length l) (sym whole ∙ nothing entry.worker low) in
    absurd (omega (arith, count, none)))
    (λ (high : ¬ (made ≤ entry.worker)). lt_of_not-le high)

known-all : (made : ℕ) (handed items : List Entry) → ((worker : ℕ) → made ≤ worker → of_worker worker (handed ++ items) ≡ []) → AreKnown made items
known-all made handed [] nothing = tt
known-all made handed (entry ∷ items) nothing = (
  known-at made handed items entry nothing,
  known-all made (handed ++ entry ∷ []) items
      (λ worker low. ap (λ (l : List Entry). of_worker worker l) (append_assoc handed (entry ∷ []) items) ∙ nothing worker low),
)

-- the reader takes an entry
pub takes : (pass : ℕ) (v : View) → v.reads ≡ true → v.ends ≡ false
    → Pops Delivers pass v (λ entry w. (w ≡ with_handed entry v) × IsNumberedNext v entry × IsKnown v entry)
takes pass v reads not entry items views (reader, seat, handed, (numbered, each), ends) at =
    let mine = (each pass v at).1 reads in
    let w : View = with_handed entry v in (
      w,
      (
        reader,
        seat,
        handed ++ entry ∷ [],
        handing reader pass seat handed items entry v views v.ends v.left reads (numbered, each) at,
        ending reader pass seat handed (handed ++ entry ∷ items) items w views mine.0 each (not-ended seat items w not),
      ),
      (refl, next-number handed items entry v mine.1 (numbered entry.worker), known-at v.made handed items entry (λ worker low. (mine.2 worker low).1)),
    )

-- the reader takes an entry once all recorders are joined
pub takes-last : (pass : ℕ) (v : View) → v.reads ≡ true → v.ends ≡ false → AreAllJoined v → Pops Delivers pass v (TellsLeft v)
takes-last pass v reads not joined entry items views (reader, seat, handed, (numbered, each), ends) at =
    let mine = (each pass v at).1 reads in
    let w : View = with_left items (with_handed entry v) in
    let free : (worker : ℕ) → seat worker ≡ none = λ worker. dite (dec_le v.made worker)
    (λ (low : v.made ≤ worker). (mine.2 worker low).0)
    (λ (high : ¬ (v.made ≤ worker)). let (place, account, there, is) = joined worker (lt_of_not-le high) in
    ap seat (sym is) ∙ (mine.3 place account there).0) in (
      w,
      (
        reader,
        seat,
        handed ++ entry ∷ [],
        handing reader pass seat handed items entry v views true items reads (numbered, each) at,
        ending reader pass seat handed (handed ++ entry ∷ items) items w views mine.0 each (λ _ _. (refl, free)),
      ),
      (
        items,
        refl,
        next-number handed items entry v mine.1 (numbered entry.worker),
        (λ (place : ℕ) (account : Account) e.
            (mine.3 place account e).1 ∙ ap (λ (l : List Entry). of_worker account.worker (l ++ entry ∷ items)) (sym mine.1)),
        known-all v.made handed (entry ∷ items) (λ worker low. (mine.2 worker low).1),
      ),
    )

-- the reader takes the first of what is left
pub takes-left : (pass : ℕ) (v : View) → v.reads ≡ true → v.ends ≡ true → Pops Delivers pass v (TakesLeft v)
takes-left pass v reads is entry items views (reader, seat, handed, (numbered, each), ends) at =
    let mine = (each pass v at).1 reads in
    let known = ends pass v at reads is in
    let w : View = with_left items (with_handed entry v) in (
      w,
      (
        reader,
        seat,
        handed ++ entry ∷ [],
        handing reader pass seat handed items entry v views true items reads (numbered, each) at,
        ending reader pass seat handed (handed ++ entry ∷ items) items w views mine.0 each (λ _ _. (refl, known.1)),
      ),
      (items, known.0, refl, next-number handed items entry v mine.1 (numbered entry.worker)),
    )

-- what a reader knows to be left
pub left-told : (pass : ℕ) (v : View) → v.reads ≡ true → v.ends ≡ true → Learns Delivers pass v (λ items. v.left ≡ items)
left-told pass v reads is items views (reader, seat, handed, keeps, ends) at = (ends pass v at reads is).0

-- what a recorder knows at a moment
pub records-told : (pass : ℕ) (v : View) → v.records ≡ true → Learns Delivers pass v (StandsIn v)
records-told pass v records items views (reader, seat, handed, (numbered, each), ends) at = (handed, ((each pass v at).0 records).1)

-- what the reader knows at a moment
pub reads-told : (pass : ℕ) (v : View) → v.reads ≡ true → Learns Delivers pass v (AreSettled v)
reads-told pass v reads items views (reader, seat, handed, (numbered, each), ends) at place account e =
    let mine = (each pass v at).1 reads in
    (mine.3 place account e).1 ∙ ap (λ (l : List Entry). of_worker account.worker (l ++ items)) (sym mine.1)

-- the reader takes in a recorder
pub joins : (pass other : ℕ) (v w : View) → v.reads ≡ true → v.ends ≡ false → w.records ≡ true → Merges Delivers pass v other w (with_joined w v) ended
joins pass other v w reads not records items views (reader, seat, handed, (numbered, each), ends) at apart at' =
    let all : List Entry = handed ++ items in
    let both : View = with_joined w v in
    let vs : List View = set views pass both in
    let was : get_elem? views other ≡ some w = ⊎_elim
    (λ (t : (other ≡ pass) × (both ≡ w)). absurd (apart t.0))
    (λ (t : (other ≢ pass) × (get_elem? views other ≡ some w)). t.1)
    (at_set views pass other both w at') in
    let mine = (each pass v at).1 reads in
    let theirs = (each other w was).0 records in
    let seat' : ℕ → Option ℕ = moved seat w.worker none in
    let F : ℕ → View → Type 0 = λ j u. FitsRecorder seat' all j u × FitsReader reader seat' handed all j u in
    let recorder : (j : ℕ) (u : View) → j ≢ other → FitsRecorder seat all j u → FitsRecorder seat' all j u = λ j u differ fits is.
    let f = fits is in (moved-else seat w.worker none u.worker (apart-by seat j other u.worker w.worker f.0 theirs.0 differ) ∙ f.0, f.1) in
    let final : IsFinal seat' all (account_of w) = (moved-here seat w.worker none, theirs.1) in
    let here : F pass both = (
      recorder pass v (λ (is : pass ≡ other). apart (sym is)) (each pass v at).0,
      (λ _. (
        mine.0,
        mine.1,
        (λ (worker : ℕ) (low : v.made ≤ worker). let f = mine.2 worker low in (moved-none seat w.worker worker f.0, f.1)),
        (λ (place : ℕ) (account : Account) e. ⊎_elim
            (λ (t : get_elem? v.joined place ≡ some account). let f = mine.3 place account t in (moved-none seat w.worker account.worker f.0, f.1))
            (λ (t : account_of w ≡ account). subst (λ (a : Account). IsFinal seat' all a) t final)
            (at_snoc v.joined (account_of w) account place e)),
      )),
    ) in
    let Now : ℕ → View → Type 0 = λ j u. j ≢ other → F j u in
    let now = all_set Now views pass both (λ _. here)
    (λ (j : ℕ) (u : View) (beside : j ≢ pass) e (differ : j ≢ other). (
      recorder j u differ (each j u e).0,
      (λ reads'. absurd (beside (((each j u e).1 reads').0 ∙ sym mine.0))),
    )) in (
      reader,
      seat',
      handed,
      (
        numbered,
        all_set F vs other ended ((λ (is : false ≡ true). absurd (false-ne-true is)), (λ (is : false ≡ true). absurd (false-ne-true is)))
            (λ (j : ℕ) (u : View) (differ : j ≢ other) e. now j u e differ),
      ),
      all_set (λ _ (z : View). FitsEnd seat' items z) vs other ended (not-ended seat' items ended refl)
          (λ (j : ℕ) (u : View) _ e. all_set (λ _ (z : View). FitsEnd seat' items z) views pass both (not-ended seat' items both not)
          (no-other reader pass seat seat' handed all items views mine.0 each) j u e),
    )
