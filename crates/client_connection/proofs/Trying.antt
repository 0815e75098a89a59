-- One try behind another.
use Rattle.std.proofs.Common.{◌≡◌, ◌<◌, ◌∙◌, ℕ, zero, suc, ◌-◌, Bool, true, false, ◌||◌, not, List, [], ◌∷◌, ◌++◌, length, Option, Some, None, Result, Ok, Err, is_some, refl, sym, ap, subst, arith, append_assoc, append-nil, length-append}
use Rattle.std.specs.declared.alloc.AllocError.{AllocError}
use Rattle.desk_ports.specs.Faults.{next_count}
use Rattle.link_ports.specs.Traffic.{Traffic}
use Rattle.link_ports.specs.LinkMarks.{LinkMarks}
use Rattle.link_ports.specs.NetCounts.{count_after_give_back}
use Rattle.wire_fields.specs.declared.messages.Framed.{Framed}
use Rattle.client_connection.specs.declared.faults.Broken.{Broken}
use Rattle.client_connection.specs.declared.faults.Broken.TheVariants.{Wrong}
use Rattle.client_connection.specs.Giving.{Appends}
use Rattle.client_connection.specs.Asking.{counted, links_of, has_link, link_behind, tries_made, dials_in, IsBase, CameOver, AreLost, Loses, ComesOf, Asks}
use Rattle.client_connection.specs.parts.Over.{GoesOver}
use Rattle.client_connection.specs.declared.asking.Outcome.{Outcome}
use Rattle.client_connection.specs.declared.asking.Outcome.TheVariants as outcome

-- ---- tries that were lost, behind others

links_of-append : {L : Type 0} → (first rest : List (Option L)) → links_of (first ++ rest) ≡ links_of first ++ links_of rest
links_of-append [] rest = refl
links_of-append (None ∷ first) rest = links_of-append first rest
links_of-append (Some link ∷ first) rest = ap (λ links. link ∷ links) (links_of-append first rest)

has_link-append : {L : Type 0} → (first rest : List (Option L)) → has_link (first ++ rest) ≡ (has_link first || has_link rest)
has_link-append [] rest = refl
has_link-append (None ∷ first) rest = has_link-append first rest
has_link-append (Some link ∷ first) rest = refl

counted-append : {L : Type 0} → (first rest : List (Option L)) (count : ℕ)
    → counted (length (first ++ rest)) count ≡ counted (length rest) (counted (length first) count)
counted-append [] rest count = refl
counted-append (try ∷ first) rest count = counted-append first rest (next_count count)

or_assoc : (a b c : Bool) → (a || (b || c)) ≡ ((a || b) || c)
or_assoc true b c = refl
or_assoc false b c = refl

pub or_true : (a : Bool) → true ≡ (a || true)
or_true true = refl
or_true false = refl

pub or_false : (a : Bool) → a ≡ (a || false)
or_false true = refl
or_false false = refl

-- none is there behind a try that was lost
behind_none : {L : Type 0} → (rest : List (Option L)) → link_behind None rest ≡ None
behind_none [] = refl
behind_none (try ∷ rest) = refl

behind : {L : Type 0} → (entry : Option L) (first rest : List (Option L)) → length first ≡ 1
    → link_behind None rest ≡ link_behind entry (first ++ rest)
behind entry [] rest one = absurd (omega (arith, one))
behind entry (try ∷ first) rest one = behind_none rest

dials_later : (had : Bool) (m d between after : ℕ) → between ≡ counted (dials_in had 1) d
    → after ≡ counted (dials_in false m) between → after ≡ counted (dials_in had (suc m)) d
dials_later true zero d between after one more = more ∙ one
dials_later true (suc m) d between after one more = more ∙ ap (λ n. counted (suc m) n) one
dials_later false zero d between after one more = more ∙ one
dials_later false (suc m) d between after one more = more ∙ ap (λ n. counted (suc m) n) one

made_later : {L : Type 0} → (result : Outcome L) (first rest : List (Option L)) → length first ≡ 1
    → tries_made result (first ++ rest) ≡ suc (tries_made result rest)
made_later (outcome.Replied link is_new framed) first rest one = omega (arith, length-append first rest, one)
made_later (outcome.Wrong refusal) first rest one = omega (arith, length-append first rest, one)
made_later (outcome.Unavailable is_tried) first rest one = omega (arith, length-append first rest, one)
made_later (outcome.Memory error is_tried) first rest one = omega (arith, length-append first rest, one)

-- ---- what was given back

appends_nothing : {A : Type 0} → (old new : Option (List A)) → new ≡ old → Appends [] old new
appends_nothing old new same after told = (after, sym same ∙ told, sym (append-nil after))

appends_more : {A : Type 0} → (first more : List A) (old between new : Option (List A))
    → Appends first old between → Appends more between new → Appends (first ++ more) old new
appends_more first more old between new one two after told =
    let late = two after told in
    let early = one late.0 late.1 in
    (early.0, early.1, late.2 ∙ (ap (λ links. links ++ more) early.2 ∙ append_assoc early.0 first more))

appends_from : {A : Type 0} → (values : List A) (start old new : Option (List A)) → old ≡ start → Appends values old new
    → Appends values start new
appends_from values start old new same given after told =
    let there = given after told in
    (there.0, sym same ∙ there.1, there.2)

module _ {L : Type 0} (link_faults : L → ℕ) (marks : L → LinkMarks) (traffic : L → Option Traffic) (frame : List ℕ) where
  lost_after : (first rest : List (Option L)) → AreLost link_faults marks traffic frame None first
      → AreLost link_faults marks traffic frame None rest → AreLost link_faults marks traffic frame None (first ++ rest)
  lost_after [] rest early late = late
  lost_after (None ∷ first) rest early late = (early.0, lost_after first rest early.1 late)
  lost_after (Some link ∷ first) rest early late = (early.0, lost_after first rest early.1 late)

  lost_more : (entry : Option L) (first rest : List (Option L)) → length first ≡ 1
      → AreLost link_faults marks traffic frame entry first → AreLost link_faults marks traffic frame None rest
      → AreLost link_faults marks traffic frame entry (first ++ rest)
  lost_more entry [] rest one early late = absurd (omega (arith, one))
  lost_more entry (None ∷ first) rest one early late = (early.0, lost_after first rest early.1 late)
  lost_more entry (Some link ∷ first) rest one early late = (early.0, lost_after first rest early.1 late)

  came_behind : (entry : Option L) (first rest : List (Option L)) (result : Result Framed Broken) (link : L) → length first ≡ 1
      → CameOver link_faults marks traffic frame (link_behind None rest) result link
      → CameOver link_faults marks traffic frame (link_behind entry (first ++ rest)) result link
  came_behind entry first rest result link one came =
      subst (λ (there : Option L). CameOver link_faults marks traffic frame there result link) (behind entry first rest one) came

  module _ {N : Type 0} (faults dials : N → ℕ) (given_back : N → Option (List L)) where
    loses_more : (first rest : List (Option L)) (old between new : N)
        → Loses link_faults marks traffic frame faults dials given_back first old between
        → Loses link_faults marks traffic frame faults dials given_back rest between new
        → Loses link_faults marks traffic frame faults dials given_back (first ++ rest) old new
    loses_more first rest old between new one two = record {
      counted_each =
          two.counted_each ∙ (ap (λ n. counted (length rest) n) one.counted_each ∙ sym (counted-append first rest (faults old)));
      given =
          subst (λ links. Appends links (given_back old) (given_back new)) (sym (links_of-append first rest))
          (appends_more (links_of first) (links_of rest) (given_back old) (given_back between) (given_back new) one.given two.given);
    }

    tried_more : (before is_tried : Bool) (first rest : List (Option L)) (after : Bool) → is_tried ≡ (before || has_link first)
        → after ≡ (is_tried || has_link rest) → after ≡ (before || has_link (first ++ rest))
    tried_more before is_tried first rest after one two =
        two ∙ (ap (λ b. b || has_link rest) one ∙ (sym (or_assoc before (has_link first) (has_link rest))
        ∙ ap (λ b. before || b) (sym (has_link-append first rest))))

    comes_of_more : (tries : ℕ) (before is_tried : Bool) (entry : Option L) (first rest : List (Option L)) (result : Outcome L)
        (old between new : N) → 1 < tries → length first ≡ 1 → is_tried ≡ (before || has_link first)
        → Loses link_faults marks traffic frame faults dials given_back first old between
        → ComesOf link_faults marks traffic frame faults dials given_back (tries - 1) is_tried None rest result between new
        → ComesOf link_faults marks traffic frame faults dials given_back tries before entry (first ++ rest) result old new
    comes_of_more tries before is_tried entry first rest (outcome.Replied link is_new framed) old between new some one tried loses late =
        let fewer : length rest < tries - 1 = late.0 in
        let replies = late.1 in (
          omega (arith, length-append first rest, one, fewer, some),
          record {
            came = came_behind entry first rest (Ok framed) link one replies.came;
            new_link = replies.new_link ∙ ap (λ there. not (is_some there)) (behind entry first rest one);
            loses = loses_more first rest old between new loses replies.loses;
          },
        )
    comes_of_more tries before is_tried entry first rest (outcome.Wrong refusal) old between new some one tried loses late =
        let fewer : length rest < tries - 1 = late.0 in
        let replies = late.1 in (
          omega (arith, length-append first rest, one, fewer, some),
          record {
            link = replies.link;
            came = came_behind entry first rest (Err (Wrong refusal)) replies.link one replies.came;
            counted_each =
                replies.counted_each
                ∙ ap (λ n. count_after_give_back (marks replies.link) (link_faults replies.link) n)
                (ap (λ n. counted (length rest) n) loses.counted_each ∙ sym (counted-append first rest (faults old)));
            given =
                subst (λ links. Appends links (given_back old) (given_back new))
                (sym (append_assoc (links_of first) (links_of rest) (replies.link ∷ []))
                ∙ ap (λ links. links ++ replies.link ∷ []) (sym (links_of-append first rest)))
                (appends_more (links_of first) (links_of rest ++ replies.link ∷ []) (given_back old) (given_back between) (given_back new)
                loses.given replies.given);
          },
        )
    comes_of_more tries before is_tried entry first rest (outcome.Unavailable after) old between new some one tried loses late =
        let all : length rest ≡ tries - 1 = late.0 in (
          omega (arith, length-append first rest, one, all, some),
          tried_more before is_tried first rest after tried late.1,
          loses_more first rest old between new loses late.2,
        )
    comes_of_more tries before is_tried entry first rest (outcome.Memory error after) old between new some one tried loses late =
        let fewer : length rest < tries - 1 = late.0 in (
          omega (arith, length-append first rest, one, fewer, some),
          sym (behind entry first rest one) ∙ late.1,
          tried_more before is_tried first rest after tried late.2,
          loses_more first rest old between new loses late.3,
        )

    -- the first try was lost, and this came of those behind it
    pub later : (tries : ℕ) (before is_tried : Bool) (entry : Option L) (result : Outcome L) (old between new : N) → 1 < tries
        → Asks link_faults marks traffic frame faults dials given_back 1 before entry (outcome.Unavailable is_tried) old between
        → Asks link_faults marks traffic frame faults dials given_back (tries - 1) is_tried None result between new
        → Asks link_faults marks traffic frame faults dials given_back tries before entry result old new
    later tries before is_tried entry result old between new some first rest =
        let one : length first.lost ≡ 1 = first.came.0 in
        record {
          lost = first.lost ++ rest.lost;
          each = lost_more entry first.lost rest.lost one first.each rest.each;
          came =
              comes_of_more tries before is_tried entry first.lost rest.lost result old between new some one first.came.1
              first.came.2 rest.came;
          dialled =
              subst (λ n. dials new ≡ counted (dials_in (is_some entry) n) (dials old)) (sym (made_later result first.lost rest.lost one))
              (dials_later (is_some entry) (tries_made result rest.lost) (dials old) (dials between) (dials new)
              (subst (λ n. dials between ≡ counted (dials_in (is_some entry) n) (dials old)) one first.dialled) rest.dialled);
        }

    -- the frame went over the link that was there, or over one that was dialled
    pub over : (before : Bool) (entry : Option L) (base : L) (result : Outcome L) (start old new : N)
        → IsBase link_faults marks traffic entry base
        → faults old ≡ faults start → given_back old ≡ given_back start → dials old ≡ counted (dials_in (is_some entry) 1) (dials start)
        → GoesOver link_faults marks traffic frame faults dials given_back (not (is_some entry)) base result old new
        → Asks link_faults marks traffic frame faults dials given_back 1 before entry result start new
    over before entry base (outcome.Replied link is_new framed) start old new from count given dialled goes = record {
      lost = [];
      each = tt;
      came = (
        omega arith,
        record {
          came = record { base = base; is_base = from; exchanged = goes.1.exchanged; ends = goes.1.ends };
          new_link = goes.0;
          loses = record {
            counted_each = ap faults goes.2 ∙ count;
            given = appends_nothing (given_back start) (given_back new) (ap given_back goes.2 ∙ given);
          };
        },
      );
      dialled = ap dials goes.2 ∙ dialled;
    }
    over before entry base (outcome.Wrong refusal) start old new from count given dialled fails = record {
      lost = [];
      each = tt;
      came = (
        omega arith,
        record {
          link = fails.link;
          came = record { base = base; is_base = from; exchanged = fails.goes.exchanged; ends = fails.goes.ends };
          counted_each =
              fails.gives.counted ∙ ap (λ n. count_after_give_back (marks fails.link) (link_faults fails.link) n) count;
          given = appends_from (fails.link ∷ []) (given_back start) (given_back old) (given_back new) given fails.gives.given;
        },
      );
      dialled = fails.gives.dialled ∙ dialled;
    }
    over before entry base (outcome.Unavailable is_tried) start old new from count given dialled goes =
        let fails = goes.2 in
        record {
          lost = Some fails.link ∷ [];
          each = (record { base = base; is_base = from; exchanged = fails.goes.exchanged; ends = fails.goes.ends }, tt);
          came = (
            refl,
            goes.0 ∙ or_true before,
            record {
              counted_each = goes.1 ∙ ap next_count count;
              given = appends_from (fails.link ∷ []) (given_back start) (given_back old) (given_back new) given fails.gives.given;
            },
          );
          dialled = fails.gives.dialled ∙ dialled;
        }
    over before entry base (outcome.Memory error is_tried) start old new from count given dialled goes = absurd goes

    -- the dial failed
    pub no_dial : (before : Bool) (start new : N) → faults new ≡ next_count (faults start) → given_back new ≡ given_back start
        → dials new ≡ next_count (dials start)
        → Asks link_faults marks traffic frame faults dials given_back 1 before None (outcome.Unavailable before) start new
    no_dial before start new count given dialled = record {
      lost = None ∷ [];
      each = (refl, tt);
      came = (
        refl,
        or_false before,
        record {
          counted_each = count;
          given = appends_nothing (given_back start) (given_back new) given;
        },
      );
      dialled = dialled;
    }

    -- the dial found no memory
    pub no_memory : (before : Bool) (error : AllocError) (start new : N) → faults new ≡ faults start → given_back new ≡ given_back start
        → dials new ≡ next_count (dials start)
        → Asks link_faults marks traffic frame faults dials given_back 1 before None (outcome.Memory error before) start new
    no_memory before error start new count given dialled = record {
      lost = [];
      each = tt;
      came = (
        omega arith,
        refl,
        or_false before,
        record {
          counted_each = count;
          given = appends_nothing (given_back start) (given_back new) given;
        },
      );
      dialled = dialled;
    }
