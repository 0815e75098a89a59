-- One try behind another, and what comes of them.
use Rattle.std.proofs.Common.{◌≡◌, ◌<◌, ◌≤◌, ◌-◌, ◌∙◌, ℕ, zero, suc, Bool, true, false, not, List, [], ◌∷◌, length, Option, Some, None, Result, Ok, Err, is_some, refl, sym, ap, subst, arith}
use Rattle.std.specs.Prelude.{nat_le, MatchBool}
use Rattle.std.specs.declared.alloc.AllocError.{AllocError}
use Rattle.link_ports.specs.Traffic.{Traffic}
use Rattle.link_ports.specs.LinkMarks.{LinkMarks}
use Rattle.answer_cache.specs.Cache.{Asked, Cache, with_entries}
use Rattle.bucket_eval.specs.declared.answers.Verdict.{Verdict}
use Rattle.wire_fields.specs.declared.messages.Framed.{Framed}
use Rattle.wire_fields.specs.declared.messages.Message.{Message}
use Rattle.wire_fields.specs.declared.refusals.WireRefusal.{WireRefusal}
use Rattle.client_connection.specs.Giving.{GivesBack}
use Rattle.client_connection.specs.Asking.{Asks, link_behind}
use Rattle.client_connection.specs.declared.asking.Outcome.{Outcome}
use Rattle.client_connection.specs.declared.asking.Outcome.TheVariants as outcome
use Rattle.client_connection.proofs.Trying.{later}
use Rattle.client_core.specs.Hearing.{fault_by}
use Rattle.client_core.specs.Client.{Client, forgotten, raised, asked_by, with_tries}
use Rattle.client_core.specs.Asking.{fault_in, IsKept as KeepsOf}
use Rattle.client_core.specs.declared.stages.Asking.{Asking}
use Rattle.client_core.specs.declared.stages.Stage.{Stage}
use Rattle.client_core.specs.declared.stages.Stage.TheVariants as stage
use Rattle.client_core.specs.declared.steps.Fault.{Fault}
use Rattle.client_core.specs.declared.steps.Fault.TheVariants as fault
use Rattle.cynara_client.specs.State.{State, emptied, next_number}
use Rattle.cynara_client.specs.Reply.{said, answer_in, refusal_by}
use Rattle.cynara_client.specs.Checking.{Concludes, Ends, Leaves, cache_on, replied, closed}
use Rattle.cynara_client.specs.parts.States.{seen, IsAtRest, IsDue}
use Rattle.cynara_client.specs.parts.Trying.{gives_up, replies, Follows, TriesOnce, Goes}
use Rattle.cynara_client.specs.declared.refusals.Checked.{Checked}
use Rattle.cynara_client.specs.declared.refusals.ClientRefusal.{ClientRefusal}
use Rattle.cynara_client.specs.declared.trying.Tried.{Tried}
use Rattle.cynara_client.specs.declared.trying.Tried.TheVariants as tried
use Rattle.cynara_client.proofs.Replying.{right, wrong, no_frame, ends}

abbrev Answer : Type 0
Answer = Result Checked ClientRefusal

-- ---- tries

behind_at : {L : Type 0} → (entry : Option L) (lost : List (Option L)) → length lost < 1 → link_behind entry lost ≡ entry
behind_at entry [] few = refl
behind_at entry (one ∷ lost) few = absurd (omega (arith, few))

none_behind : {L : Type 0} → (lost : List (Option L)) → link_behind {L = L} None lost ≡ None
none_behind [] = refl
none_behind (one ∷ lost) = refl

-- where a link is dialled nothing was kept before
same_cache : {L : Type 0} → (entry : Option L) (is_new : Bool) (asking : Asking) (client : Client) → IsDue entry asking client
    → is_new ≡ not (is_some entry) → cache_on is_new client.cache ≡ client.cache
same_cache (Some link) is_new asking client due is = ap (λ (b : Bool). cache_on b client.cache) is
same_cache None is_new asking client due is =
    ap (λ (b : Bool). cache_on b client.cache) is ∙ ap (λ (es : List (Asked × Verdict)). with_entries es client.cache) (sym due.1)

-- ---- what a try comes to is no other thing

module _ {L : Type 0} where
  abbrev as_over : Fault → Tried L
  as_over found = tried.Over found

  abbrev as_again : Tried L
  as_again = tried.Again

  abbrev as_replied : L → Message → Tried L
  as_replied link m = tried.Replied link m

  over_is : (found other : Fault) → as_over found ≡ as_over other → found ≡ other
  over_is found other is = cc

  link_is : (link other : L) (m n : Message) → as_replied link m ≡ as_replied other n → link ≡ other
  link_is link other m n is = cc

  message_is : (link other : L) (m n : Message) → as_replied link m ≡ as_replied other n → m ≡ n
  message_is link other m n is = cc

  not_over : {X : Type 0} (link : L) (m : Message) (found : Fault) → as_replied link m ≡ as_over found → X
  not_over link m found is = cc

  not_replied : {X : Type 0} (link : L) (m : Message) (found : Fault) → as_over found ≡ as_replied link m → X
  not_replied link m found is = cc

  over_again : {X : Type 0} (found : Fault) → as_over found ≡ as_again → X
  over_again found is = cc

  again_over : {X : Type 0} (found : Fault) → as_again ≡ as_over found → X
  again_over found is = cc

  replied_again : {X : Type 0} (link : L) (m : Message) → as_replied link m ≡ as_again → X
  replied_again link m is = cc

  again_replied : {X : Type 0} (link : L) (m : Message) → as_again ≡ as_replied link m → X
  again_replied link m is = cc

module _ {L N : Type 0} (link_faults : L → ℕ) (marks : L → LinkMarks) (traffic : L → Option Traffic)
    (faults dials : N → ℕ) (given_back : N → Option (List L)) where
  abbrev Once : List ℕ → Bool → Option L → Outcome L → N → N → Type 0
  Once frame before entry o old new = Asks link_faults marks traffic frame faults dials given_back 1 before entry o old new

  abbrev Follows_ : Outcome L → Asking → Tried L → Client → Client → N → N → Type 0
  Follows_ o asking made old new mid after = Follows link_faults marks faults dials given_back o asking made old new mid after

  abbrev Goes_ : Asking → Option L → Answer → N → State N L → Client → Type 0
  Goes_ asking entry answer before new old = Goes link_faults marks traffic faults dials given_back asking entry answer before new old

  abbrev Concludes_ : Asked → Outcome L → Answer → State N L → State N L → Type 0
  Concludes_ asked o answer old new = Concludes link_faults marks faults dials given_back asked o answer old new

  -- a reply came in the first try
  first_new : (frame : List ℕ) (before : Bool) (entry : Option L) (link : L) (is_new : Bool) (framed : Framed) (old new : N)
      → Once frame before entry (outcome.Replied link is_new framed) old new → is_new ≡ not (is_some entry)
  first_new frame before entry link is_new framed old new asks =
      asks.came.1.new_link ∙ ap (λ (there : Option L). not (is_some there)) (behind_at entry asks.lost asks.came.0)

  -- nothing was kept behind tries that were lost
  pub from_emptied : (asked : Asked) (o : Outcome L) (answer : Answer) (mid : N) (entry : Option L) (client : Client) (new : State N L)
      (frame : List ℕ) (tries : ℕ) (before : Bool) (start : N)
      → Asks link_faults marks traffic frame faults dials given_back tries before None o start mid
      → Concludes_ asked o answer (seen mid None (forgotten client)) new → Concludes_ asked o answer (seen mid entry client) new
  from_emptied asked (outcome.Replied link true framed) answer mid entry client new frame tries before start asks d = d
  from_emptied asked (outcome.Replied link false framed) answer mid entry client new frame tries before start asks d =
      let is : false ≡ true =
      asks.came.1.new_link ∙ ap (λ (there : Option L). not (is_some there)) (none_behind asks.lost) in
      cc
  from_emptied asked (outcome.Wrong refusal) answer mid entry client new frame tries before start asks d = d
  from_emptied asked (outcome.Unavailable is_tried) answer mid entry client new frame tries before start asks d = d
  from_emptied asked (outcome.Memory error is_tried) answer mid entry client new frame tries before start asks d = d

  module _ (asking : Asking) (entry : Option L) (old new : Client) (start mid after : N) (some : 0 < asking.tries) where
    abbrev asked : Asked
    asked = asked_by asking

    -- ---- the service said something

    module _ (due : IsDue entry asking old) (link : L) (m : Message) (answer : Answer) (is : answer ≡ answer_in m (said m)) where
      abbrev Replied_ : Type 0
      Replied_ =
          Goes_ asking entry answer start (seen after (Some link) new) old × IsAtRest (Some link) new × ((marks link).ends ≡ 0)

      reply_right : (is_new : Bool) (framed : Framed) → Once old.frame asking.is_tried entry (outcome.Replied link is_new framed) start mid
          → m ≡ framed.message → fault_in old.sequence old.cache.told framed ≡ None
          → KeepsOf asked framed.message old.cache new.cache
          → new ≡ raised true (record old { cache = new.cache; is_linked = true; stage = stage.Idle }) → after ≡ mid → Replied_
      reply_right is_new framed asks same_message none kept now back =
          let same : cache_on is_new old.cache ≡ old.cache =
          same_cache entry is_new asking old due (first_new old.frame asking.is_tried entry link is_new framed start mid asks) in
          let few : length asks.lost < 1 = asks.came.0 in
          let number : new.sequence ≡ next_number old.sequence = ap (λ (c : Client). c.sequence) now in
          let said_is : answer ≡ answer_in framed.message (said framed.message) =
          is ∙ ap (λ (n : Message). answer_in n (said n)) same_message in
          let left : seen after (Some link) new ≡ record (replied link is_new (seen mid entry old)) { cache = new.cache } =
          λ i. record { dial = back i; link = Some link; cache = new.cache; sequence = number i } in (
            record {
              came_of = outcome.Replied link is_new framed;
              mid = mid;
              asks = record {
                lost = asks.lost;
                each = asks.each;
                came = (omega (arith, few, some), asks.came.1);
                dialled = asks.dialled;
              };
              concluded = (
                said_is ∙ right old.sequence old.cache.told framed none,
                subst
                    (λ (a : Answer). Ends link_faults marks faults dials given_back asked a (replied link is_new (seen mid entry old)) (seen after (Some link) new))
                    (sym said_is)
                    (ends link_faults marks faults dials given_back asked old.sequence old.cache.told framed none
                    (replied link is_new (seen mid entry old)) (seen after (Some link) new)
                    (subst (λ (c : Cache). KeepsOf asked framed.message c new.cache) (sym same) kept) left),
              );
            },
            (ap (λ (c : Client). c.stage) now, ap (λ (c : Client). c.is_linked) now),
            asks.came.1.came.ends,
          )

      reply_by : (other : L) (is_new : Bool) (framed : Framed) (found : Option Fault)
          → Once old.frame asking.is_tried entry (outcome.Replied other is_new framed) start mid
          → fault_in old.sequence old.cache.told framed ≡ found
          → replies link_faults marks faults dials given_back found other framed asking (tried.Replied link m) old new mid after → Replied_
      reply_by other is_new framed None asks found d =
          reply_right is_new framed
          (subst (λ (l : L). Once old.frame asking.is_tried entry (outcome.Replied l is_new framed) start mid)
          (sym (link_is link other m framed.message d.0)) asks)
          (message_is link other m framed.message d.0) found d.1 d.2 d.3
      reply_by other is_new framed (Some fault) asks found d = not_over link m fault d.0

      given_up_no : {X : Type 0} (last is_tried : Bool) → gives_up last is_tried asking (tried.Replied link m) old new → X
      given_up_no true is_tried d = not_over link m fault.Unavailable d.0
      given_up_no false is_tried d = replied_again link m d.0

      pub replied_goes : (o : Outcome L) → Once old.frame asking.is_tried entry o start mid
          → Follows_ o asking (tried.Replied link m) old new mid after → Replied_
      replied_goes (outcome.Replied other is_new framed) asks d =
          reply_by other is_new framed (fault_in old.sequence old.cache.told framed) asks refl d
      replied_goes (outcome.Wrong refusal) asks d = not_over link m (fault_by refusal) d.0
      replied_goes (outcome.Unavailable is_tried) asks d = given_up_no (nat_le asking.tries 1) is_tried d.0
      replied_goes (outcome.Memory error is_tried) asks d = not_over link m (fault.Memory error) d.0

    -- ---- there is no answer

    module _ (due : IsDue entry asking old) (found : Fault) (answer : Answer) (is : answer ≡ Err (refusal_by found)) where
      abbrev Over_ : Type 0
      Over_ = Goes_ asking entry answer start (seen after None new) old × IsAtRest {L = L} None new

      -- it is another word for this fault
      same_answer : (other : Fault) → found ≡ other → answer ≡ Err (refusal_by other)
      same_answer other same = is ∙ ap (λ (f : Fault). Err (refusal_by f)) same

      cut : (is_tried : Bool) → new ≡ raised is_tried (forgotten old) → IsAtRest {L = L} None new
      cut is_tried now = (ap (λ (c : Client). c.stage) now, ap (λ (c : Client). c.is_linked) now)

      shut : (is_tried : Bool) → new ≡ raised is_tried (forgotten old) → after ≡ mid
          → seen after None new ≡ closed is_tried (seen mid entry old)
      shut is_tried now back =
          ap (λ (c : Client). seen after None c) now ∙ ap (λ (d : N). seen d None (raised is_tried (forgotten old))) back

      reply_wrong : (link : L) (is_new : Bool) (framed : Framed) (wrong_is : Fault)
          → Once old.frame asking.is_tried entry (outcome.Replied link is_new framed) start mid
          → fault_in old.sequence old.cache.told framed ≡ Some wrong_is → found ≡ wrong_is → new ≡ raised true (forgotten old)
          → GivesBack faults dials given_back link_faults marks link mid after → Over_
      reply_wrong link is_new framed wrong_is asks at same now back =
          let w = wrong old.sequence old.cache.told framed wrong_is at in
          let few : length asks.lost < 1 = asks.came.0 in
          let kept : cache_on is_new old.cache ≡ old.cache =
          same_cache entry is_new asking old due (first_new old.frame asking.is_tried entry link is_new framed start mid asks) in
          let left : Leaves link_faults marks faults dials given_back (replied link is_new (seen mid entry old)) (seen after None new) = record {
            bare = record {
              link = refl;
              cache = ap (λ (c : Client). c.cache) now ∙ ap emptied (sym kept);
            };
            gives = back;
            sequence = ap (λ (c : Client). c.sequence) now;
          } in
          let ended : Ends link_faults marks faults dials given_back asked (Err (refusal_by wrong_is)) (replied link is_new (seen mid entry old)) (seen after None new) =
          subst
          (λ (b : Bool). MatchBool b (seen after None new ≡ replied link is_new (seen mid entry old))
          (Leaves link_faults marks faults dials given_back (replied link is_new (seen mid entry old)) (seen after None new)))
          (sym w.1) left in (
            record {
              came_of = outcome.Replied link is_new framed;
              mid = mid;
              asks = record {
                lost = asks.lost;
                each = asks.each;
                came = (omega (arith, few, some), asks.came.1);
                dialled = asks.dialled;
              };
              concluded = (
                same_answer wrong_is same ∙ w.0,
                subst
                    (λ (a : Answer). Ends link_faults marks faults dials given_back asked a (replied link is_new (seen mid entry old)) (seen after None new))
                    (sym (same_answer wrong_is same)) ended,
              );
            },
            cut true now,
          )

      over_reply : (link : L) (is_new : Bool) (framed : Framed) (at : Option Fault)
          → Once old.frame asking.is_tried entry (outcome.Replied link is_new framed) start mid
          → fault_in old.sequence old.cache.told framed ≡ at
          → replies link_faults marks faults dials given_back at link framed asking (tried.Over found) old new mid after → Over_
      over_reply link is_new framed None asks at d = not_replied link framed.message found d.0
      over_reply link is_new framed (Some fault) asks at d =
          reply_wrong link is_new framed fault asks at (over_is found fault d.0) d.1 d.2

      over_up : (last is_tried : Bool) → nat_le asking.tries 1 ≡ last
          → Once old.frame asking.is_tried entry (outcome.Unavailable is_tried) start mid
          → gives_up {L = L} last is_tried asking (tried.Over found) old new → after ≡ mid → Over_
      over_up true is_tried last asks d back =
          let one : 1 ≡ asking.tries = grind (arith, last, some) in (
            record {
              came_of = outcome.Unavailable is_tried;
              mid = mid;
              asks =
                  subst
                  (λ (n : ℕ). Asks link_faults marks traffic old.frame faults dials given_back n asking.is_tried entry (outcome.Unavailable is_tried) start mid)
                  one asks;
              concluded = (same_answer fault.Unavailable (over_is found fault.Unavailable d.0), shut is_tried d.1 back);
            },
            cut is_tried d.1,
          )
      over_up false is_tried last asks d back = over_again found d.0

      pub over_goes : (o : Outcome L) → Once old.frame asking.is_tried entry o start mid
          → Follows_ o asking (tried.Over found) old new mid after → Over_
      over_goes (outcome.Replied link is_new framed) asks d =
          over_reply link is_new framed (fault_in old.sequence old.cache.told framed) asks refl d
      over_goes (outcome.Wrong refusal) asks d =
          let few : length asks.lost < 1 = asks.came.0 in (
            record {
              came_of = outcome.Wrong refusal;
              mid = mid;
              asks = record {
                lost = asks.lost;
                each = asks.each;
                came = (omega (arith, few, some), asks.came.1);
                dialled = asks.dialled;
              };
              concluded = (
                same_answer (fault_by refusal) (over_is found (fault_by refusal) d.0) ∙ ap Err (no_frame refusal),
                shut true d.1 d.2,
              );
            },
            cut true d.1,
          )
      over_goes (outcome.Unavailable is_tried) asks d = over_up (nat_le asking.tries 1) is_tried refl asks d.0 d.1
      over_goes (outcome.Memory error is_tried) asks d =
          let few : length asks.lost < 1 = asks.came.0 in (
            record {
              came_of = outcome.Memory error is_tried;
              mid = mid;
              asks = record {
                lost = asks.lost;
                each = asks.each;
                came = (omega (arith, few, some), asks.came.1, asks.came.2, asks.came.3);
                dialled = asks.dialled;
              };
              concluded = (same_answer (fault.Memory error) (over_is found (fault.Memory error) d.0), shut is_tried d.1 d.2);
            },
            cut is_tried d.1,
          )

    -- ---- the try was lost

    -- and another is to be made
    pub record IsAgain : Type 0 where
      pub is_tried : Bool
      pub more : 1 < asking.tries
      pub asks : Once old.frame asking.is_tried entry (outcome.Unavailable is_tried) start after
      pub now : new ≡ record (forgotten old) { stage = stage.Dialling (with_tries (asking.tries - 1) (record asking { is_tried = is_tried })) }

    again_reply : (link : L) (framed : Framed) (at : Option Fault)
        → replies link_faults marks faults dials given_back at link framed asking tried.Again old new mid after → IsAgain
    again_reply link framed None d = again_replied link framed.message d.0
    again_reply link framed (Some fault) d = again_over fault d.0

    again_up : (last is_tried : Bool) → nat_le asking.tries 1 ≡ last
        → Once old.frame asking.is_tried entry (outcome.Unavailable is_tried) start mid
        → gives_up {L = L} last is_tried asking tried.Again old new → after ≡ mid → IsAgain
    again_up true is_tried last asks d back = again_over fault.Unavailable d.0
    again_up false is_tried last asks d back = record {
      is_tried = is_tried;
      more = grind (arith, last);
      asks = subst (λ (n : N). Once old.frame asking.is_tried entry (outcome.Unavailable is_tried) start n) (sym back) asks;
      now = d.1;
    }

    pub again : (o : Outcome L) → Once old.frame asking.is_tried entry o start mid → Follows_ o asking tried.Again old new mid after → IsAgain
    again (outcome.Replied link is_new framed) asks d = again_reply link framed (fault_in old.sequence old.cache.told framed) d
    again (outcome.Wrong refusal) asks d = again_over (fault_by refusal) d.0
    again (outcome.Unavailable is_tried) asks d = again_up (nat_le asking.tries 1) is_tried refl asks d.0 d.1
    again (outcome.Memory error is_tried) asks d = again_over (fault.Memory error) d.0

    abbrev pub next : IsAgain → Asking
    next a = with_tries (asking.tries - 1) (record asking { is_tried = a.is_tried })

    pub next_due : (a : IsAgain) → IsDue {L = L} None (next a) new × (0 < (next a).tries)
    next_due a = (
      (ap (λ (c : Client). c.stage) a.now, ap (λ (c : Client). c.cache.entries) a.now),
      let more : 1 < asking.tries = a.more in omega (arith, more),
    )

    -- what comes of the tries behind it
    pub rest_goes : (a : IsAgain) (answer : Answer) (final : State N L) → Goes_ (next a) None answer after final new
        → Goes_ asking entry answer start final old
    rest_goes a answer final g = record {
      came_of = g.came_of;
      mid = g.mid;
      asks =
          later link_faults marks traffic old.frame faults dials given_back asking.tries asking.is_tried a.is_tried entry g.came_of
          start after g.mid a.more a.asks
          (subst
          (λ (frame : List ℕ). Asks link_faults marks traffic frame faults dials given_back (asking.tries - 1) a.is_tried None g.came_of after g.mid)
          (ap (λ (c : Client). c.frame) a.now) g.asks);
      concluded =
          from_emptied asked g.came_of answer g.mid entry old final new.frame (asking.tries - 1) a.is_tried after g.asks
          (subst (λ (c : Client). Concludes_ asked g.came_of answer (seen g.mid None c) final) a.now g.concluded);
    }
