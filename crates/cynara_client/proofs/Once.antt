-- One try of a question: over a link that is there, or over one that is dialled.
use Rattle.std.proofs.Common.{◌≡◌, ◌∙◌, ℕ, Bool, true, false, not, List, Option, Some, None, Result, Ok, Err, is_some, refl, sym, ap, subst}
use Rattle.std.specs.Prelude.{nat_le}
use Rattle.std.specs.declared.alloc.AllocError.{AllocError}
use Rattle.desk_ports.specs.Faults.{next_count}
use Rattle.link_ports.specs.Traffic.{Traffic, IsSilent}
use Rattle.link_ports.specs.LinkMarks.{LinkMarks, fresh_marks}
use Rattle.answer_cache.specs.Cache.{Cache}
use Rattle.wire_fields.specs.declared.messages.Framed.{Framed}
use Rattle.wire_fields.specs.declared.messages.Message.{Message}
use Rattle.wire_fields.specs.declared.refusals.WireRefusal.{WireRefusal}
use Rattle.client_connection.specs.Giving.{GivesBack}
use Rattle.client_connection.specs.Reading.{IsTrouble}
use Rattle.client_connection.specs.Exchange.{Exchanges}
use Rattle.client_connection.specs.Coming.{Comes}
use Rattle.client_connection.specs.Asking.{IsBase}
use Rattle.client_connection.specs.parts.Over.{GoesOver}
use Rattle.client_connection.specs.declared.faults.Broken.TheVariants.{Lost}
use Rattle.client_connection.specs.declared.asking.Outcome.{Outcome}
use Rattle.client_connection.specs.declared.asking.Outcome.TheVariants as outcome
use Rattle.client_connection.proofs.Trying.{over, no_dial, no_memory}
use Rattle.client_connection.proofs.Troubles.{trouble-counts}
use Rattle.client_core.specs.Hearing.{fault_by}
use Rattle.client_core.specs.Client.{Client, forgotten, raised, waiting}
use Rattle.client_core.specs.Asking as does
use Rattle.client_core.specs.declared.stages.Asking.{Asking}
use Rattle.client_core.specs.declared.stages.Stage.{Stage}
use Rattle.client_core.specs.declared.stages.Stage.TheVariants as stage
use Rattle.client_core.specs.declared.steps.Step.{Step}
use Rattle.client_core.specs.declared.steps.Step.TheVariants as step
use Rattle.client_core.specs.declared.steps.Fault.{Fault}
use Rattle.client_core.specs.declared.steps.Fault.TheVariants as fault
use Rattle.cynara_client.specs.parts.States.{IsDue}
use Rattle.cynara_client.specs.parts.Talking.{Hears, tried}
use Rattle.cynara_client.specs.parts.Trying.{gives_up, replies, Follows, TalksOver, TriesOnce}
use Rattle.cynara_client.specs.declared.trying.Tried.{Tried}
use Rattle.cynara_client.specs.declared.trying.Tried.TheVariants as made_as

-- ---- what a step is, and no other

reply_is : (m n : Message) → step.Reply m ≡ step.Reply n → m ≡ n
reply_is m n is = cc

over_is : (f g : Fault) → step.Over f ≡ step.Over g → f ≡ g
over_is f g is = cc

reply_over : {X : Type 0} (m : Message) (f : Fault) → step.Reply m ≡ step.Over f → X
reply_over m f is = cc

reply_dial : {X : Type 0} (m : Message) → step.Reply m ≡ step.Dial → X
reply_dial m is = cc

over_reply : {X : Type 0} (f : Fault) (m : Message) → step.Over f ≡ step.Reply m → X
over_reply f m is = cc

over_dial : {X : Type 0} (f : Fault) → step.Over f ≡ step.Dial → X
over_dial f is = cc

dial_reply : {X : Type 0} (m : Message) → step.Dial ≡ step.Reply m → X
dial_reply m is = cc

dial_over : {X : Type 0} (f : Fault) → step.Dial ≡ step.Over f → X
dial_over f is = cc

module _ {L N : Type 0} (link_faults : L → ℕ) (marks : L → LinkMarks) (traffic : L → Option Traffic)
    (faults dials : N → ℕ) (given_back : N → Option (List L)) where
  abbrev Over_ : Bool → Asking → L → Tried L → Client → Client → N → N → Type 0
  Over_ is_new asking base made old new before after =
      TalksOver link_faults marks traffic faults dials given_back is_new asking base made old new before after

  abbrev Follows_ : Outcome L → Asking → Tried L → Client → Client → N → N → Type 0
  Follows_ o asking made old new mid after = Follows link_faults marks faults dials given_back o asking made old new mid after

  -- ---- over a link

  module _ (asking : Asking) (base link : L) (old new : Client) (is_new : Bool) (ends : (marks link).ends ≡ 0) where
    abbrev Heard : Step → Type 0
    Heard answer =
        Hears (λ result. Exchanges old.frame result (traffic base) (traffic link)) (IsTrouble (marks link) (link_faults link))
        (tried asking) answer old new

    -- the service answered
    replied_at : (m : Message) (dial : N) (framed : Framed) → Exchanges old.frame (Ok framed) (traffic base) (traffic link)
        → old.is_linked ≡ true → (found : Option Fault) → does.fault_in old.sequence old.cache.told framed ≡ found
        → does.concludes found (tried asking) framed (step.Reply m) old new
        → Over_ is_new asking base (made_as.Replied link m) old new dial dial
    replied_at m dial framed read linked None is d = record {
      came_of = outcome.Replied link is_new framed;
      mid = dial;
      over = (refl, record { exchanged = read; ends = ends }, refl);
      follows =
          subst (λ (f : Option Fault). replies link_faults marks faults dials given_back f link framed asking (made_as.Replied link m) old new dial dial)
          (sym is) (
            ap (λ (n : Message). made_as.Replied link n) (reply_is m framed.message d.0),
            d.1,
            d.2 ∙ ap (λ (b : Bool). raised true (record old { cache = new.cache; is_linked = b; stage = stage.Idle })) linked,
            refl,
          );
    }
    replied_at m dial framed read linked (Some f) is d = reply_over m f d.0

    reply_retry : {X : Type 0} (last : Bool) (m : Message) → does.retries last (tried asking) (step.Reply m) old new → X
    reply_retry true m d = reply_over m fault.Unavailable d.0
    reply_retry false m d = reply_dial m d.0

    pub reply_over_link : (m : Message) (dial : N) → old.is_linked ≡ true → Heard (step.Reply m)
        → Over_ is_new asking base (made_as.Replied link m) old new dial dial
    reply_over_link m dial linked (Comes.whole framed read d) =
        replied_at m dial framed read linked (does.fault_in old.sequence old.cache.told framed) refl d
    reply_over_link m dial linked (Comes.bad refusal read d) = reply_over m (fault_by refusal) d.0
    reply_over_link m dial linked (Comes.cut read d) = reply_retry (nat_le asking.tries 1) m d.1

    -- the link was lost, and another is to be dialled

    module _ (before after : N) (gives : GivesBack faults dials given_back link_faults marks link before after) where
      counted : IsTrouble (marks link) (link_faults link) → faults after ≡ next_count (faults before)
      counted trouble = gives.counted ∙ trouble-counts (marks link) (link_faults link) (faults before) trouble ends

      dial_concluded : {X : Type 0} (framed : Framed) (found : Option Fault) → does.concludes found (tried asking) framed step.Dial old new → X
      dial_concluded framed None d = dial_reply framed.message d.0
      dial_concluded framed (Some f) d = dial_over f d.0

      again_at : Exchanges old.frame (Err Lost) (traffic base) (traffic link) → IsTrouble (marks link) (link_faults link)
          → (last : Bool) → nat_le asking.tries 1 ≡ last → does.retries last (tried asking) step.Dial old new
          → Over_ is_new asking base made_as.Again old new before after
      again_at read trouble true is d = dial_over fault.Unavailable d.0
      again_at read trouble false is d = record {
        came_of = outcome.Unavailable true;
        mid = after;
        over = (refl, counted trouble, record { link = link; goes = record { exchanged = read; ends = ends }; gives = gives });
        follows = (subst (λ (b : Bool). gives_up {L = L} b true asking made_as.Again old new) (sym is) (refl, d.1), refl);
      }

      pub again_over_link : Heard step.Dial → Over_ is_new asking base made_as.Again old new before after
      again_over_link (Comes.whole framed read d) =
          dial_concluded framed (does.fault_in old.sequence old.cache.told framed) d
      again_over_link (Comes.bad refusal read d) = dial_over (fault_by refusal) d.0
      again_over_link (Comes.cut read d) = again_at read d.0 (nat_le asking.tries 1) refl d.1

      -- there is no answer

      wrong_at : (f : Fault) (framed : Framed) → Exchanges old.frame (Ok framed) (traffic base) (traffic link)
          → (found : Option Fault) → does.fault_in old.sequence old.cache.told framed ≡ found
          → does.concludes found (tried asking) framed (step.Over f) old new
          → Over_ is_new asking base (made_as.Over f) old new before after
      wrong_at f framed read None is d = over_reply f framed.message d.0
      wrong_at f framed read (Some found) is d = record {
        came_of = outcome.Replied link is_new framed;
        mid = before;
        over = (refl, record { exchanged = read; ends = ends }, refl);
        follows =
            subst (λ (o : Option Fault). replies link_faults marks faults dials given_back o link framed asking (made_as.Over f) old new before after)
            (sym is) (ap (λ (g : Fault). made_as.Over g) (over_is f found d.0), d.1, gives);
      }

      lost_at : (f : Fault) → Exchanges old.frame (Err Lost) (traffic base) (traffic link) → IsTrouble (marks link) (link_faults link)
          → (last : Bool) → nat_le asking.tries 1 ≡ last → does.retries last (tried asking) (step.Over f) old new
          → Over_ is_new asking base (made_as.Over f) old new before after
      lost_at f read trouble true is d = record {
        came_of = outcome.Unavailable true;
        mid = after;
        over = (refl, counted trouble, record { link = link; goes = record { exchanged = read; ends = ends }; gives = gives });
        follows = (
          subst (λ (b : Bool). gives_up {L = L} b true asking (made_as.Over f) old new) (sym is)
              (ap (λ (g : Fault). made_as.Over g) (over_is f fault.Unavailable d.0), d.1),
          refl,
        );
      }
      lost_at f read trouble false is d = over_dial f d.0

      pub over_link_ends : (f : Fault) → Heard (step.Over f) → Over_ is_new asking base (made_as.Over f) old new before after
      over_link_ends f (Comes.whole framed read d) =
          wrong_at f framed read (does.fault_in old.sequence old.cache.told framed) refl d
      over_link_ends f (Comes.bad refusal read d) = record {
        came_of = outcome.Wrong refusal;
        mid = after;
        over = record { link = link; goes = record { exchanged = read; ends = ends }; gives = gives };
        follows = (ap (λ (g : Fault). made_as.Over g) (over_is f (fault_by refusal) d.0), d.1, refl);
      }
      over_link_ends f (Comes.cut read d) = lost_at f read d.0 (nat_le asking.tries 1) refl d.1

  -- ---- over the link that is there, or over one that is dialled

  pub once_there : (asking : Asking) (link : L) (made : Tried L) (old new : Client) (before after : N)
      → Over_ false asking link made old new before after
      → TriesOnce link_faults marks traffic faults dials given_back asking (Some link) made old new before after
  once_there asking link made old new before after d = record {
    came_of = d.came_of;
    mid = d.mid;
    asks = over link_faults marks traffic old.frame faults dials given_back asking.is_tried (Some link) link d.came_of before before d.mid
        refl refl refl refl d.over;
    follows = d.follows;
  }

  module _ (asking : Asking) (old new : Client) (mid_dial after : N) (s : Stage) where
    same_replies : (found : Option Fault) (link : L) (framed : Framed) (made : Tried L)
        → replies link_faults marks faults dials given_back found link framed asking made (record old { is_linked = true; stage = s }) new mid_dial after
        → replies link_faults marks faults dials given_back found link framed asking made old new mid_dial after
    same_replies None link framed made d = d
    same_replies (Some f) link framed made d = d

    same_gives_up : (last is_tried : Bool) (made : Tried L) → gives_up last is_tried asking made (record old { is_linked = true; stage = s }) new
        → gives_up last is_tried asking made old new
    same_gives_up true is_tried made d = d
    same_gives_up false is_tried made d = d

    -- it does not hang on the stage
    same_follows : (o : Outcome L) (made : Tried L) → Follows_ o asking made (record old { is_linked = true; stage = s }) new mid_dial after
        → Follows_ o asking made old new mid_dial after
    same_follows (outcome.Replied link is_new framed) made d =
        same_replies (does.fault_in old.sequence old.cache.told framed) link framed made d
    same_follows (outcome.Wrong refusal) made d = d
    same_follows (outcome.Unavailable is_tried) made d = (same_gives_up (nat_le asking.tries 1) is_tried made d.0, d.1)
    same_follows (outcome.Memory error is_tried) made d = d

  pub once_dialled : (asking : Asking) (link : L) (made : Tried L) (old mid new : Client) (before dialled after : N)
      → mid ≡ record old { is_linked = true; stage = waiting asking }
      → marks link ≡ fresh_marks → link_faults link ≡ 0 → IsSilent (traffic link)
      → faults dialled ≡ faults before → given_back dialled ≡ given_back before → dials dialled ≡ next_count (dials before)
      → Over_ true asking link made mid new dialled after
      → TriesOnce link_faults marks traffic faults dials given_back asking None made old new before after
  once_dialled asking link made old mid new before dialled after is unmarked fresh silent count kept made_more d = record {
    came_of = d.came_of;
    mid = d.mid;
    asks =
        over link_faults marks traffic old.frame faults dials given_back asking.is_tried None link d.came_of before dialled d.mid
        (unmarked, fresh, silent) count kept made_more
        (subst (λ (frame : List ℕ). GoesOver link_faults marks traffic frame faults dials given_back true link d.came_of dialled d.mid)
        (ap (λ (c : Client). c.frame) is) d.over);
    follows =
        same_follows asking old new d.mid after (waiting asking) d.came_of made
        (subst (λ (c : Client). Follows_ d.came_of asking made c new d.mid after) is d.follows);
  }

  -- ---- no link was dialled

  module _ (asking : Asking) (old new : Client) (was : old.stage ≡ stage.Dialling asking) (before after : N)
      (kept : given_back after ≡ given_back before) (dialled : dials after ≡ next_count (dials before)) where
    abbrev Once_ : Tried L → Type 0
    Once_ made = TriesOnce link_faults marks traffic faults dials given_back asking None made old new before after

    -- the dial failed
    pub undialled : (made : Tried L) → faults after ≡ next_count (faults before)
        → gives_up (nat_le asking.tries 1) asking.is_tried asking made old new → Once_ made
    undialled made count d = record {
      came_of = outcome.Unavailable asking.is_tried;
      mid = after;
      asks = no_dial link_faults marks traffic old.frame faults dials given_back asking.is_tried before after count kept dialled;
      follows = (d, refl);
    }

    pub undialled_memory : (error : AllocError) → faults after ≡ faults before → new ≡ does.left old
        → Once_ (made_as.Over (fault.Memory error))
    undialled_memory error count is = record {
      came_of = outcome.Memory error asking.is_tried;
      mid = after;
      asks = no_memory link_faults marks traffic old.frame faults dials given_back asking.is_tried error before after count kept dialled;
      follows = (refl, is ∙ ap (λ (s : Stage). forgotten (raised (does.was_tried s) old)) was, refl);
    }

-- ---- a dial failed

fell : (asking : Asking) (old new : Client) → old.stage ≡ stage.Dialling asking → (answer : Step) → does.Falls answer old new
    → does.retries (nat_le asking.tries 1) asking answer old new
fell asking old new was answer d = subst (λ (s : Stage). does.falls_at s answer old new) was d

module _ (L : Type 0) (asking : Asking) (old new : Client) (was : old.stage ≡ stage.Dialling asking) where
  lost_again : (last : Bool) → does.retries last asking step.Dial old new
      → gives_up {L = L} last asking.is_tried asking made_as.Again old new
  lost_again true d = dial_over fault.Unavailable d.0
  lost_again false d = (refl, d.1)

  pub loses_again : does.Falls step.Dial old new → gives_up {L = L} (nat_le asking.tries 1) asking.is_tried asking made_as.Again old new
  loses_again d = lost_again (nat_le asking.tries 1) (fell asking old new was step.Dial d)

  lost_over : (f : Fault) (last : Bool) → does.retries last asking (step.Over f) old new
      → gives_up {L = L} last asking.is_tried asking (made_as.Over f) old new
  lost_over f true d = (ap (λ (h : Fault). made_as.Over h) (over_is f fault.Unavailable d.0), d.1)
  lost_over f false d = over_dial f d.0

  pub loses_over : (f : Fault) → does.Falls (step.Over f) old new
      → gives_up {L = L} (nat_le asking.tries 1) asking.is_tried asking (made_as.Over f) old new
  loses_over f d = lost_over f (nat_le asking.tries 1) (fell asking old new was (step.Over f) d)

-- the machine was told that a link was dialled
pub told_dialled : (asking : Asking) (answer : Step) (old new : Client) → old.stage ≡ stage.Dialling asking → does.Dialled answer old new
    → (answer ≡ step.Send) × (new ≡ record old { is_linked = true; stage = waiting asking })
told_dialled asking answer old new was d = subst (λ (s : Stage). does.dialled_at s answer old new) was d
