-- A client that is made for one question, and gives its link back, asks it once.
use Rattle.std.proofs.Common.{◌≡◌, ◌∙◌, ◌⊎◌, inl, inr, ℕ, Bool, true, false, List, Option, Some, None, Result, Ok, Err, refl, sym, ap, subst}
use Rattle.std.specs.Prelude.{MatchBool}
use Rattle.link_ports.specs.Traffic.{Traffic}
use Rattle.link_ports.specs.LinkMarks.{LinkMarks}
use Rattle.link_ports.specs.LinkContent.{LinkContent}
use Rattle.answer_cache.specs.Cache.{Asked, empty_cache}
use Rattle.client_connection.specs.Giving.{GivesBackAny}
use Rattle.client_connection.specs.declared.asking.Outcome.{Outcome}
use Rattle.client_connection.specs.declared.asking.Outcome.TheVariants as outcome
use Rattle.cynara_client.specs.State.{State}
use Rattle.cynara_client.specs.Refusing.{keeps_link}
use Rattle.cynara_client.specs.Checking.{Leaves, Ends, Concludes, Serves, Approaches, Checks, replied}
use Rattle.cynara_client.specs.Checking.Approaches.{without_link, over_link, past_link}
use Rattle.cynara_client.specs.declared.refusals.Checked.{Checked}
use Rattle.cynara_client.specs.declared.refusals.ClientRefusal.{ClientRefusal}
use Rattle.client_runs.specs.AskedOnce.{first_frame, answer_of, link_of, AsksOnce}

module _ {N L : Type 0} (link_faults : L → ℕ) (marks : L → LinkMarks) (traffic : L → Option Traffic) (content : L → Option LinkContent)
    (faults dials : N → ℕ) (given_back : N → Option (List L)) (asked : Asked) where
  -- a client that nobody used
  abbrev fresh : N → State N L
  fresh dial = record { dial = dial; link = None; cache = empty_cache 1; sequence = 0 }

  abbrev Given : Option L → N → N → Type 0
  Given = GivesBackAny faults dials given_back link_faults marks

  abbrev Left : State N L → State N L → Type 0
  Left = Leaves link_faults marks faults dials given_back

  -- it gives back the link that it has
  gives : (link : Option L) (dial : N) (mid last : State N L) → mid.link ≡ link → mid.dial ≡ dial → Left mid last → Given link dial last.dial
  gives link dial mid last has stands left =
      subst (λ d. Given link d last.dial) stands (subst (λ (l : Option L). Given l mid.dial last.dial) has left.gives)

  -- it has none, since it gave it back before
  gave : (link : L) (old mid last : State N L) → old.link ≡ Some link → Left old mid → Left mid last → Given (Some link) old.dial last.dial
  gave link old mid last has before left =
      let same : last.dial ≡ mid.dial = gives None mid.dial mid last before.bare.link refl left in
      subst (λ d. Given (Some link) old.dial d) (sym same)
      (subst (λ (l : Option L). Given l old.dial mid.dial) has before.gives)

  -- the service refused, and the link stays; or the reply was wrong, and it went
  kept_or_gone : (keeps : Bool) (link : L) (is_new : Bool) (dial : N) (mid last : State N L)
      → MatchBool keeps (mid ≡ replied link is_new (fresh dial)) (Left (replied link is_new (fresh dial)) mid) → Left mid last
      → Given (Some link) dial last.dial
  kept_or_gone true link is_new dial mid last same left =
      gives (Some link) dial mid last (ap (λ (state : State N L). state.link) same) (ap (λ (state : State N L). state.dial) same) left
  kept_or_gone false link is_new dial mid last before left = gave link (replied link is_new (fresh dial)) mid last refl before left

  behind_reply : (link : L) (is_new : Bool) (dial : N) (answer : Result Checked ClientRefusal) (mid last : State N L)
      → Ends link_faults marks faults dials given_back asked answer (replied link is_new (fresh dial)) mid → Left mid last
      → Given (Some link) dial last.dial
  behind_reply link is_new dial (Ok checked) mid last ends left =
      gives (Some link) dial mid last (ap (λ (state : State N L). state.link) ends.0) (ap (λ (state : State N L). state.dial) ends.0) left
  behind_reply link is_new dial (Err refused) mid last ends left = kept_or_gone (keeps_link refused) link is_new dial mid last ends left

  given : (came_of : Outcome L) (dial : N) (answer : Result Checked ClientRefusal) (mid last : State N L)
      → Concludes link_faults marks faults dials given_back asked came_of answer (fresh dial) mid → Left mid last
      → Given (link_of came_of) dial last.dial
  given (outcome.Replied link is_new framed) dial answer mid last concluded left =
      behind_reply link is_new dial answer mid last concluded.1 left
  given (outcome.Wrong fault) dial answer mid last concluded left =
      gives None dial mid last (ap (λ (state : State N L). state.link) concluded.1) (ap (λ (state : State N L). state.dial) concluded.1) left
  given (outcome.Unavailable is_tried) dial answer mid last concluded left =
      gives None dial mid last (ap (λ (state : State N L). state.link) concluded.1) (ap (λ (state : State N L). state.dial) concluded.1) left
  given (outcome.Memory error is_tried) dial answer mid last concluded left =
      gives None dial mid last (ap (λ (state : State N L). state.link) concluded.1) (ap (λ (state : State N L). state.dial) concluded.1) left

  answered : (came_of : Outcome L) (dial : N) (answer : Result Checked ClientRefusal) (mid : State N L)
      → Concludes link_faults marks faults dials given_back asked came_of answer (fresh dial) mid → answer ≡ answer_of came_of
  answered (outcome.Replied link is_new framed) dial answer mid concluded = concluded.0
  answered (outcome.Wrong fault) dial answer mid concluded = concluded.0
  answered (outcome.Unavailable is_tried) dial answer mid concluded = concluded.0
  answered (outcome.Memory error is_tried) dial answer mid concluded = concluded.0

  module _ (simple : Bool) (answer : Result Checked ClientRefusal) (before : N) (mid last : State N L) (left : Left mid last) where
    abbrev Once : Type 0
    Once = AsksOnce link_faults marks traffic faults dials given_back (first_frame simple asked.question) answer before last.dial

    serves : Serves link_faults marks traffic faults dials given_back asked simple 3 answer (fresh before) mid → Once
    serves (inl sends) = inl (record {
      came_of = sends.came_of;
      between = sends.dial;
      sent = sends.asks;
      given = given sends.came_of sends.dial answer mid last sends.concluded left;
      answer_is = answered sends.came_of sends.dial answer mid sends.concluded;
    })
    serves (inr room) = inr (record {
      error = room.error;
      answer_is = room.is;
      same = gives None mid.dial mid last room.left.bare.link refl left ∙ room.left.gives;
    })

    approaches : (between : State N L) (tries : ℕ)
        → Approaches link_faults marks traffic content faults dials given_back asked (fresh before) between tries
        → Serves link_faults marks traffic faults dials given_back asked simple tries answer between mid → Once
    approaches between tries (without_link none same three) served =
        serves (subst (λ n. Serves link_faults marks traffic faults dials given_back asked simple n answer (fresh before) mid) three
        (subst (λ state. Serves link_faults marks traffic faults dials given_back asked simple tries answer state mid) same served))
    approaches between tries (over_link up none three) served = let never : None ≡ Some up.before = up.was in cc
    approaches between tries (past_link down two) served = let never : None ≡ Some down.before = down.was in cc

    pub asks-once : Checks link_faults marks traffic content faults dials given_back asked simple answer (fresh before) mid → Once
    asks-once (inl hit) = let never : None ≡ Some hit.up.before = hit.up.was in cc
    asks-once (inr asks) = approaches asks.between asks.tries asks.approached asks.served
