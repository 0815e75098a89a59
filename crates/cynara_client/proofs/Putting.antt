-- A question that was put to the machine, and what comes of it.
use Rattle.std.proofs.Common.{◌≡◌, ◌<◌, ◌∙◌, ℕ, Bool, true, false, List, [], Option, Some, None, Result, Ok, Err, refl, sym, ap, subst, inl, inr, arith}
use Rattle.std.specs.Prelude.{◌⊎◌}
use Rattle.std.specs.declared.alloc.AllocError.{AllocError}
use Rattle.link_ports.specs.Traffic.{Traffic}
use Rattle.link_ports.specs.LinkMarks.{LinkMarks}
use Rattle.link_ports.specs.LinkContent.{LinkContent}
use Rattle.answer_cache.specs.Cache.{Asked, Cache, answer_in, used, newest}
use Rattle.answer_cache.proofs.Using.{newest_used}
use Rattle.bucket_eval.specs.declared.answers.Verdict.{Verdict}
use Rattle.cynara_keys.specs.Key.{Question}
use Rattle.client_connection.specs.Giving.{GivesBack, GivesBackAny}
use Rattle.client_connection.specs.Asking.{Asks}
use Rattle.client_core.specs.Client.{Client, forgotten, asked_by, waiting}
use Rattle.client_core.specs.Client as core
use Rattle.client_core.specs.Asking as does
use Rattle.client_core.specs.declared.stages.Asking.{Asking}
use Rattle.client_core.specs.declared.stages.Stage.{Stage}
use Rattle.client_core.specs.declared.stages.Stage.TheVariants as stage
use Rattle.client_core.specs.declared.steps.Step.{Step}
use Rattle.client_core.specs.declared.steps.Step.TheVariants as step
use Rattle.client_core.specs.declared.steps.Fault.{Fault}
use Rattle.client_core.specs.declared.steps.Fault.TheVariants as fault
use Rattle.cynara_client.specs.State.{State}
use Rattle.cynara_client.specs.Looking.{FindsUp, FindsDown, IsLooked}
use Rattle.cynara_client.specs.Reply.{refusal_by}
use Rattle.cynara_client.specs.Checking.{Concludes, Leaves, Serves, Sends, FindsNoRoom, Hits, AsksService, Approaches, Checks}
use Rattle.cynara_client.specs.parts.States.{seen, IsAlone, IsAtRest, IsLinked, IsDue}
use Rattle.cynara_client.specs.parts.Looking.{IsLost}
use Rattle.cynara_client.specs.parts.Putting.{Puts, PutsAndLooks}
use Rattle.cynara_client.specs.parts.Trying.{Goes}
use Rattle.cynara_client.specs.declared.refusals.Checked.{Checked}
use Rattle.cynara_client.specs.declared.refusals.Checked.TheVariants.{Judged}
use Rattle.cynara_client.specs.declared.refusals.ClientRefusal.{ClientRefusal}
use Rattle.cynara_client.specs.declared.refusals.ClientRefusal.TheVariants as refusal
use Rattle.cynara_client.proofs.Tries.{from_emptied}

abbrev Answer : Type 0
Answer = Result Checked ClientRefusal

-- ---- what a step is, and no other

over_fault : (found other : Fault) → step.Over found ≡ step.Over other → found ≡ other
over_fault found other is = cc

dial_over : {X : Type 0} (found : Fault) → step.Dial ≡ step.Over found → X
dial_over found is = cc

over_dial : {X : Type 0} (found : Fault) → step.Over found ≡ step.Dial → X
over_dial found is = cc

send_over : {X : Type 0} (found : Fault) → step.Send ≡ step.Over found → X
send_over found is = cc

over_send : {X : Type 0} (found : Fault) → step.Over found ≡ step.Send → X
over_send found is = cc

-- ---- a question is asked

-- where no link is there, one is to be dialled
pub anew : (asking : Asking) (answer : Step) (old new : Client) → old.stage ≡ stage.Idle → old.is_linked ≡ false
    → does.asks_at old.stage asking answer old new → does.Dials asking answer old new
anew asking answer old new idle alone d =
    subst (λ (b : Bool). does.begins b asking answer old new) alone (subst (λ (s : Stage). does.asks_at s asking answer old new) idle d)

-- where one is there, it is looked at
pub over : (asking : Asking) (answer : Step) (old new : Client) → IsLinked old → does.asks_at old.stage asking answer old new
    → (answer ≡ step.Look) × (new ≡ record old { stage = stage.Looking asking })
over asking answer old new linked d =
    subst (λ (b : Bool). does.begins b asking answer old new) linked.1
    (subst (λ (s : Stage). does.asks_at s asking answer old new) linked.0 d)

-- it was found down
pub past : (asking : Asking) (answer : Step) (old mid new : Client) → mid ≡ record old { stage = stage.Looking asking }
    → does.Looks false answer mid new → does.Dials (core.with_tries 2 asking) answer old new
past asking answer old mid new is d = subst (λ (c : Client). does.Looks false answer c new) is d

-- it was found up, and nothing is kept
pub up : (asking : Asking) (answer : Step) (old mid new : Client) → mid ≡ record old { stage = stage.Looking asking }
    → answer_in (asked_by asking) old.cache ≡ None → does.Looks true answer mid new
    → does.Spells asking step.Send (waiting asking) answer (record old { stage = stage.Idle }) new
up asking answer old mid new is none d =
    let at : does.finds (answer_in (asked_by asking) old.cache) asking answer (record old { stage = stage.Looking asking }) new =
    subst (λ (c : Client). does.Looks true answer c new) is d in
    subst (λ (o : Option Verdict). does.finds o asking answer (record old { stage = stage.Looking asking }) new) none at

-- ---- a question is put

memory_is : (found : Fault) (error : AllocError) → step.Over found ≡ step.Over (fault.Memory error) → found ≡ fault.Memory error
memory_is found error is = cc

dial_memory : {X : Type 0} (error : AllocError) → step.Dial ≡ step.Over (fault.Memory error) → X
dial_memory error is = cc

send_memory : {X : Type 0} (error : AllocError) → step.Send ≡ step.Over (fault.Memory error) → X
send_memory error is = cc

look_memory : {X : Type 0} (error : AllocError) → step.Look ≡ step.Over (fault.Memory error) → X
look_memory error is = cc

over_look : {X : Type 0} (found : Fault) → step.Over found ≡ step.Look → X
over_look found is = cc

module _ (session : List ℕ) (question : Question) (simple : Bool) where
  abbrev first : Asking
  first = does.first_try session question simple

  -- where no link is there the service is to be dialled
  pub puts_dial : (old new : Client) → IsAlone old → Puts session question simple step.Dial old new
      → does.Dials first step.Dial old new
  puts_dial old new rests (Puts.asked d) = anew first step.Dial old new rests.0 rests.1 d
  puts_dial old new rests (Puts.lacks error a n) = dial_memory error a

  -- where one is there the machine asks for a look
  pub puts_look : (is_up : Bool) (answer : Step) (old mid new : Client) → IsLinked old → Puts session question simple step.Look old mid
      → does.Looks is_up answer mid new → PutsAndLooks session question simple is_up answer old new
  puts_look is_up answer old mid new linked (Puts.asked d) looks =
      PutsAndLooks.looked mid (over first step.Look old mid linked d).1 looks
  puts_look is_up answer old mid new linked (Puts.lacks error a n) looks = look_memory error a

  pub puts_over : (is_up : Bool) (found : Fault) (old new : Client) → IsLinked old → Puts session question simple (step.Over found) old new
      → PutsAndLooks session question simple is_up (step.Over found) old new
  puts_over is_up found old new linked (Puts.asked d) = over_look found (over first (step.Over found) old new linked d).0
  puts_over is_up found old new linked (Puts.lacks error a n) = PutsAndLooks.lacks error a n

module _ {L N : Type 0} (link_faults : L → ℕ) (marks : L → LinkMarks) (traffic : L → Option Traffic)
    (faults dials : N → ℕ) (given_back : N → Option (List L)) where
  abbrev Serves_ : Asked → Bool → ℕ → Answer → State N L → State N L → Type 0
  Serves_ asked simple tries answer old new = Serves link_faults marks traffic faults dials given_back asked simple tries answer old new

  abbrev Goes_ : Asking → Option L → Answer → N → State N L → Client → Type 0
  Goes_ asking entry answer before new old = Goes link_faults marks traffic faults dials given_back asking entry answer before new old

  -- ---- no link is there

  module _ (asking : Asking) (untried : asking.is_tried ≡ false) (base mid : Client) where
    -- the machine says that the service is to be dialled
    pub to_dial : does.Dials asking step.Dial base mid
        → mid ≡ record (forgotten base) { frame = core.frame_of base.sequence asking; stage = stage.Dialling asking }
    to_dial (inl d) = d.1
    to_dial (inr d) = dial_over (fault.Memory d.0) d.1

    pub dial_due : does.Dials asking step.Dial base mid → IsDue {L = L} None asking mid
    dial_due d = (ap (λ (c : Client). c.stage) (to_dial d), ap (λ (c : Client). c.cache.entries) (to_dial d))

    pub dialled_serves : does.Dials asking step.Dial base mid → (answer : Answer) (start : N) (final : State N L)
        → Goes_ asking None answer start final mid
        → Serves_ (asked_by asking) asking.simple asking.tries answer (seen start None base) final
    dialled_serves d answer start final g = inl (record {
      came_of = g.came_of;
      dial = g.mid;
      asks =
          subst
          (λ (b : Bool). Asks link_faults marks traffic (core.frame_of base.sequence asking) faults dials given_back asking.tries b None g.came_of start g.mid)
          untried
          (subst
          (λ (frame : List ℕ). Asks link_faults marks traffic frame faults dials given_back asking.tries asking.is_tried None g.came_of start g.mid)
          (ap (λ (c : Client). c.frame) (to_dial d)) g.asks);
      concluded =
          from_emptied link_faults marks traffic faults dials given_back (asked_by asking) g.came_of answer g.mid None base final
          mid.frame asking.tries asking.is_tried start g.asks
          (subst (λ (c : Client). Concludes link_faults marks faults dials given_back (asked_by asking) g.came_of answer (seen g.mid None c) final)
          (to_dial d) g.concluded);
    })

    lacks : (found : Fault) (error : AllocError) → found ≡ fault.Memory error → mid ≡ record (forgotten (forgotten base)) { frame = [] }
        → (answer : Answer) → answer ≡ Err (refusal_by found) → (dial : N)
        → FindsNoRoom link_faults marks traffic faults dials given_back answer (seen dial None base) (seen {L = L} dial None mid)
    lacks found error is now answer says dial = record {
      error = error;
      is = says ∙ ap (λ (f : Fault). Err (refusal_by f)) is;
      left = record {
        bare = record { link = refl; cache = ap (λ (c : Client). c.cache) now };
        gives = refl;
        sequence = ap (λ (c : Client). c.sequence) now;
      };
    }

    -- no memory was found for the frame
    pub over_serves : (found : Fault) → does.Dials asking (step.Over found) base mid → (simple : Bool) (tries : ℕ) (answer : Answer)
        → answer ≡ Err (refusal_by found) → (dial : N)
        → Serves_ (asked_by asking) simple tries answer (seen dial None base) (seen dial None mid)
    over_serves found (inl d) simple tries answer says dial = over_dial found d.0
    over_serves found (inr d) simple tries answer says dial =
        inr (lacks found d.0 (over_fault found (fault.Memory d.0) d.1) d.2 answer says dial)

    pub over_rests : (found : Fault) → does.Dials asking (step.Over found) base mid → IsAtRest {L = L} None mid
    over_rests found (inl d) = over_dial found d.0
    over_rests found (inr d) = (ap (λ (c : Client). c.stage) d.2, ap (λ (c : Client). c.is_linked) d.2)

  -- ---- the link is up, and nothing that is kept is the answer

  module _ (asking : Asking) (untried : asking.is_tried ≡ false) (base mid : Client) (link : L) where
    pub to_send : does.Spells asking step.Send (waiting asking) step.Send (record base { stage = stage.Idle }) mid
        → mid ≡ record base { frame = core.frame_of base.sequence asking; stage = waiting asking }
    to_send (inl d) = d.1
    to_send (inr d) = send_over (fault.Memory d.0) d.1

    pub send_due : does.Spells asking step.Send (waiting asking) step.Send (record base { stage = stage.Idle }) mid
        → base.is_linked ≡ true → IsDue (Some link) asking mid
    send_due d linked = (ap (λ (c : Client). c.stage) (to_send d), ap (λ (c : Client). c.is_linked) (to_send d) ∙ linked)

    pub sent_serves : does.Spells asking step.Send (waiting asking) step.Send (record base { stage = stage.Idle }) mid
        → (answer : Answer) (start : N) (final : State N L) → Goes_ asking (Some link) answer start final mid
        → Serves_ (asked_by asking) asking.simple asking.tries answer (seen start (Some link) base) final
    sent_serves d answer start final g = inl (record {
      came_of = g.came_of;
      dial = g.mid;
      asks =
          subst
          (λ (b : Bool). Asks link_faults marks traffic (core.frame_of base.sequence asking) faults dials given_back asking.tries b (Some link) g.came_of start g.mid)
          untried
          (subst
          (λ (frame : List ℕ). Asks link_faults marks traffic frame faults dials given_back asking.tries asking.is_tried (Some link) g.came_of start g.mid)
          (ap (λ (c : Client). c.frame) (to_send d)) g.asks);
      concluded =
          subst (λ (c : Client). Concludes link_faults marks faults dials given_back (asked_by asking) g.came_of answer (seen g.mid (Some link) c) final)
          (to_send d) g.concluded;
    })

    -- what is left where no memory was found, and the link was given back
    pub left_bare : (mid_is : (mid.cache ≡ (forgotten base).cache) × (mid.sequence ≡ base.sequence)) → (before after : N)
        → GivesBack faults dials given_back link_faults marks link before after
        → Leaves link_faults marks faults dials given_back (seen before (Some link) base) (seen after None mid)
    left_bare mid_is before after gives =
        record { bare = record { link = refl; cache = mid_is.0 }; gives = gives; sequence = mid_is.1 }

    pub unsent_serves : (found : Fault)
        → does.Spells asking step.Send (waiting asking) (step.Over found) (record base { stage = stage.Idle }) mid
        → (simple : Bool) (tries : ℕ) (answer : Answer) → answer ≡ Err (refusal_by found) → (before after : N)
        → GivesBack faults dials given_back link_faults marks link before after
        → Serves_ (asked_by asking) simple tries answer (seen before (Some link) base) (seen after None mid)
    unsent_serves found (inl d) simple tries answer says before after gives = over_send found d.0
    unsent_serves found (inr d) simple tries answer says before after gives = inr (record {
      error = d.0;
      is = says ∙ ap (λ (f : Fault). Err (refusal_by f)) (over_fault found (fault.Memory d.0) d.1);
      left = left_bare (ap (λ (c : Client). c.cache) d.2, ap (λ (c : Client). c.sequence) d.2) before after gives;
    })

    pub unsent_rests : (found : Fault)
        → does.Spells asking step.Send (waiting asking) (step.Over found) (record base { stage = stage.Idle }) mid
        → IsAtRest {L = L} None mid
    unsent_rests found (inl d) = over_send found d.0
    unsent_rests found (inr d) = (ap (λ (c : Client). c.stage) d.2, ap (λ (c : Client). c.is_linked) d.2)

  -- ---- no memory was found for the question, and the machine gave the connection up

  abbrev Left : Client → Client → Type 0
  Left old new = new ≡ does.left old

  pub idle_left : (old new : Client) → old.stage ≡ stage.Idle → Left old new → new ≡ forgotten old
  idle_left old new idle is = is ∙ ap (λ (s : Stage). forgotten (core.raised (does.was_tried s) old)) idle

  pub left_serves : (asked : Asked) (simple : Bool) (tries : ℕ) (old new : Client) → old.stage ≡ stage.Idle → Left old new
      → (error : AllocError) (dial : N)
      → Serves_ asked simple tries (Err (refusal.Memory error)) (seen dial None old) (seen dial None new)
  left_serves asked simple tries old new idle is error dial =
      let now : new ≡ forgotten old = idle_left old new idle is in
      inr (record {
        error = error;
        is = refl;
        left = record {
          bare = record { link = refl; cache = ap (λ (c : Client). c.cache) now };
          gives = refl;
          sequence = ap (λ (c : Client). c.sequence) now;
        };
      })

  pub left_over : (asked : Asked) (simple : Bool) (tries : ℕ) (old new : Client) → old.stage ≡ stage.Idle → Left old new
      → (error : AllocError) (link : L) (before after : N) → GivesBack faults dials given_back link_faults marks link before after
      → Serves_ asked simple tries (Err (refusal.Memory error)) (seen before (Some link) old) (seen after None new)
  left_over asked simple tries old new idle is error link before after gives =
      let now : new ≡ forgotten old = idle_left old new idle is in
      inr (record {
        error = error;
        is = refl;
        left = record {
          bare = record { link = refl; cache = ap (λ (c : Client). c.cache) now };
          gives = gives;
          sequence = ap (λ (c : Client). c.sequence) now;
        };
      })

  pub left_rests : (old new : Client) → old.stage ≡ stage.Idle → Left old new → IsAtRest {L = L} None new
  left_rests old new idle is =
      let now : new ≡ forgotten old = idle_left old new idle is in
      (ap (λ (c : Client). c.stage) now, ap (λ (c : Client). c.is_linked) now)

  -- ---- a question that was put comes to an end without a frame

  module _ (session : List ℕ) (question : Question) (simple : Bool) where
    abbrev first_asking : Asking
    first_asking = does.first_try session question simple

    memory_says : (found : Fault) (error : AllocError) (answer : Answer) → step.Over found ≡ step.Over (fault.Memory error)
        → answer ≡ Err (refusal_by found) → answer ≡ Err (refusal.Memory error)
    memory_says found error answer is says = says ∙ ap (λ (f : Fault). Err (refusal_by f)) (memory_is found error is)

    -- no link was there
    pub anew_over : (found : Fault) (old new : Client) → IsAlone old → Puts session question simple (step.Over found) old new
        → (answer : Answer) → answer ≡ Err (refusal_by found) → (dial : N)
        → Serves_ (asked_by first_asking) simple 3 answer (seen dial None old) (seen dial None new) × IsAtRest {L = L} None new
    anew_over found old new rests (Puts.asked d) answer says dial =
        let dials = anew first_asking (step.Over found) old new rests.0 rests.1 d in (
          over_serves first_asking refl old new found dials simple 3 answer says dial,
          over_rests first_asking refl old new found dials,
        )
    anew_over found old new rests (Puts.lacks error a n) answer says dial = (
      subst (λ (r : Answer). Serves_ (asked_by first_asking) simple 3 r (seen dial None old) (seen dial None new))
          (sym (memory_says found error answer a says))
          (left_serves (asked_by first_asking) simple 3 old new rests.0 n error dial),
      left_rests old new rests.0 n,
    )

    -- it was found down
    pub past_dials : (old new : Client) → PutsAndLooks session question simple false step.Dial old new
        → does.Dials (core.with_tries 2 first_asking) step.Dial old new
    past_dials old new (PutsAndLooks.looked mid is d) = past first_asking step.Dial old mid new is d
    past_dials old new (PutsAndLooks.lacks error a n) = dial_memory error a

    pub past_over : (found : Fault) (old new : Client) → IsLinked old → PutsAndLooks session question simple false (step.Over found) old new
        → (answer : Answer) → answer ≡ Err (refusal_by found) → (dial : N)
        → Serves_ (asked_by first_asking) simple 2 answer (seen dial None (forgotten old)) (seen dial None new) × IsAtRest {L = L} None new
    past_over found old new linked (PutsAndLooks.looked mid is d) answer says dial =
        let dials = past first_asking (step.Over found) old mid new is d in (
          over_serves (core.with_tries 2 first_asking) refl (forgotten old) new found dials simple 2 answer says dial,
          over_rests (core.with_tries 2 first_asking) refl (forgotten old) new found dials,
        )
    past_over found old new linked (PutsAndLooks.lacks error a n) answer says dial =
        let now : new ≡ forgotten old = idle_left old new linked.0 n in (
          inr (record {
            error = error;
            is = memory_says found error answer a says;
            left = record {
              bare = record { link = refl; cache = ap (λ (c : Client). c.cache) now };
              gives = refl;
              sequence = ap (λ (c : Client). c.sequence) now;
            };
          }),
          left_rests old new linked.0 n,
        )

    -- it was found up, and nothing that is kept is the answer
    pub up_sends : (old new : Client) → answer_in (asked_by first_asking) old.cache ≡ None
        → PutsAndLooks session question simple true step.Send old new
        → does.Spells first_asking step.Send (waiting first_asking) step.Send (record old { stage = stage.Idle }) new
    up_sends old new none (PutsAndLooks.looked mid is d) = up first_asking step.Send old mid new is none d
    up_sends old new none (PutsAndLooks.lacks error a n) = send_memory error a

    pub up_over : (found : Fault) (link : L) (old new : Client) → IsLinked old → answer_in (asked_by first_asking) old.cache ≡ None
        → PutsAndLooks session question simple true (step.Over found) old new
        → (answer : Answer) → answer ≡ Err (refusal_by found) → (before after : N)
        → GivesBack faults dials given_back link_faults marks link before after
        → Serves_ (asked_by first_asking) simple 3 answer (seen before (Some link) old) (seen after None new) × IsAtRest {L = L} None new
    up_over found link old new linked none (PutsAndLooks.looked mid is d) answer says before after gives =
        let spells = up first_asking (step.Over found) old mid new is none d in (
          unsent_serves first_asking refl old new link found spells simple 3 answer says before after gives,
          unsent_rests first_asking refl old new link found spells,
        )
    up_over found link old new linked none (PutsAndLooks.lacks error a n) answer says before after gives = (
      subst (λ (r : Answer). Serves_ (asked_by first_asking) simple 3 r (seen before (Some link) old) (seen after None new))
          (sym (memory_says found error answer a says))
          (left_over (asked_by first_asking) simple 3 old new linked.0 n error link before after gives),
      left_rests old new linked.0 n,
    )

  -- ---- all of a check

  module _ (content : L → Option LinkContent) where
    abbrev Checks_ : Asked → Bool → Answer → State N L → State N L → Type 0
    Checks_ asked simple answer old new = Checks link_faults marks traffic content faults dials given_back asked simple answer old new

    pub checks_anew : (asked : Asked) (simple : Bool) (answer : Answer) (dial : N) (old : Client) (final : State N L)
        → Serves_ asked simple 3 answer (seen dial None old) final → Checks_ asked simple answer (seen dial None old) final
    checks_anew asked simple answer dial old final served =
        inr (record { between = seen dial None old; tries = 3; approached = Approaches.without_link refl refl refl; served = served })

    pub checks_past : (asked : Asked) (simple : Bool) (answer : Answer) (start dial : N) (link : L) (old : Client) (final : State N L)
        → IsLost link_faults marks traffic content faults dials given_back link start dial
        → Serves_ asked simple 2 answer (seen dial None (forgotten old)) final
        → Checks_ asked simple answer (seen start (Some link) old) final
    checks_past asked simple answer start dial link old final lost served = inr (record {
      between = seen dial None (forgotten old);
      tries = 2;
      approached = Approaches.past_link (record {
        before = link;
        after = lost.after;
        was = refl;
        looked = lost.looked;
        bare = record { link = refl; cache = refl };
        sequence = refl;
        gives = lost.gives;
        counted = lost.counted;
      }) refl;
      served = served;
    })

    found_up : (start dial : N) (link there : L) (old : Client)
        → IsLooked link_faults marks traffic content true link there × (dial ≡ start)
        → FindsUp link_faults marks traffic content (seen start (Some link) old) (seen dial (Some there) old)
    found_up start dial link there old looked = record {
      before = link;
      after = there;
      was = refl;
      looked = looked.0;
      now = ap (λ (d : N). seen d (Some there) old) looked.1;
    }

    pub checks_over : (asked : Asked) (simple : Bool) (answer : Answer) (start dial : N) (link there : L) (old : Client) (final : State N L)
        → IsLooked link_faults marks traffic content true link there × (dial ≡ start) → answer_in asked old.cache ≡ None
        → Serves_ asked simple 3 answer (seen dial (Some there) old) final
        → Checks_ asked simple answer (seen start (Some link) old) final
    checks_over asked simple answer start dial link there old final looked none served = inr (record {
      between = seen dial (Some there) old;
      tries = 3;
      approached = Approaches.over_link (found_up start dial link there old looked) none refl;
      served = served;
    })

    pub checks_kept : (asked : Asked) (simple : Bool) (answer : Answer) (verdict : Verdict) (start dial : N) (link there : L) (old new : Client)
        → IsLooked link_faults marks traffic content true link there × (dial ≡ start) → answer_in asked old.cache ≡ Some verdict
        → answer ≡ Ok (Judged verdict) → new ≡ record old { cache = used asked old.cache }
        → Checks_ asked simple answer (seen start (Some link) old) (seen dial (Some there) new)
    checks_kept asked simple answer verdict start dial link there old new looked found is now = inl (record {
      between = seen dial (Some there) old;
      verdict = verdict;
      up = found_up start dial link there old looked;
      found = found;
      is = is;
      now = ap (λ (c : Client). seen dial (Some there) c) now;
    })

-- ---- what is kept is the answer

kept_if : (found : Option Verdict) (verdict : Verdict) (asking : Asking) (mid new : Client) → found ≡ Some verdict
    → does.finds found asking step.Kept mid new → new ≡ record mid { cache = used (asked_by asking) mid.cache; stage = stage.Idle }
kept_if (Some verdict) other asking mid new is d = d.1
kept_if None other asking mid new is d = cc

-- what reusing it does
pub reused : (asked : Asked) (verdict : Verdict) (old mid new : Client) → IsLinked old → answer_in asked old.cache ≡ Some verdict
    → does.Asks asked.session asked.question false step.Look old mid → does.Looks true step.Kept mid new
    → new ≡ record old { cache = used asked old.cache }
reused asked verdict old mid new linked found asks looks =
    let asking : Asking = does.first_try asked.session asked.question false in
    let put = over asking step.Look old mid linked asks in
    let at : does.finds (answer_in asked old.cache) asking step.Kept (record old { stage = stage.Looking asking }) new =
    subst (λ (c : Client). does.Looks true step.Kept c new) put.1 looks in
    let now : new ≡ record old { cache = used asked old.cache; stage = stage.Idle } =
    kept_if (answer_in asked old.cache) verdict asking (record old { stage = stage.Looking asking }) new found at in
    now ∙ ap (λ (s : Stage). record old { cache = used asked old.cache; stage = s }) (sym linked.0)

-- and it is the verdict that was used last
pub reused_newest : (asked : Asked) (verdict : Verdict) (old new : Client) → answer_in asked old.cache ≡ Some verdict
    → new ≡ record old { cache = used asked old.cache } → newest new.cache ≡ Some verdict
reused_newest asked verdict old new found now =
    ap (λ (c : Client). newest c.cache) now ∙ newest_used asked old.cache verdict found
