-- What the code found, step by step, makes the event that the definitions speak of.
use Rattle.std.proofs.Common.{◌≡◌, ℕ, Bool, true, false, ◌&&◌, ◌==◌, cond, List, Option, Some, None, refl, sym, ap, subst, ◌∙◌}
use Rattle.std.specs.Prelude.{slice_get}
use Rattle.std.proofs.lemmas.Bool.{and_from, eq-eqb}
use Rattle.std.proofs.lemmas.Option.{none-some, same_Some}
use Rattle.cynara_keys.specs.declared.results.Kind.{Kind}
use Rattle.desk_state.specs.DeskState.{DeskState}
use Rattle.desk_world.specs.World.{World, client_of}
use Rattle.desk_world.specs.Clients.{when, with_some, delivered, deliver}
use Rattle.desk_world.specs.Agents.{fits, put_to, put_due, put}
use Rattle.desk_world.specs.parts.Parts.{Becomes}
use Rattle.desk_world.specs.declared.links.Asked.{Asked}
use Rattle.desk_world.specs.declared.links.Link.{Link}
use Rattle.desk_world.specs.declared.links.Reading.TheVariants.{Due}
use Rattle.desk_world.specs.declared.links.Transit.{Transit}

pub some_becomes : {X : Type 0} (o : Option X) (x : X) (event : X → Option World) (enabled : Bool) (after : World)
    → o ≡ Some x
    → Becomes (event x) enabled after → Becomes (with_some o event) enabled after
some_becomes o x event enabled after e so = subst (λ o. Becomes (with_some o event) enabled after) (sym e) so

pub when_becomes : (test : Bool) (next after : World) → test ≡ true → after ≡ next → Becomes (when test next) true after
when_becomes test next after e so = subst (λ test. Becomes (when test next) true after) (sym e) (refl, so)

pub when_not : (test : Bool) (next after : World) → test ≡ false → Becomes (when test next) false after
when_not test next after e = subst (λ test. Becomes (when test next) false after) (sym e) refl

pub put_becomes : (w : World) (link : ℕ) (full : Option ℕ) (found : Link) (ask : ℕ) (asked : Asked) (commit : ℕ) (kind : Kind)
    (metadata : List ℕ) (after : World) → slice_get w.links link ≡ Some found → found.question ≡ Some ask
    → slice_get w.asks ask ≡ Some asked → found.reading ≡ Due commit kind metadata → found.run ≡ w.run
    → fits full w ≡ true
    → after ≡ put_to link found ask asked.question full commit kind w → Becomes (put link full w) true after
put_becomes w link full found ask asked commit kind metadata after there asks_it asks due run fit so =
    some_becomes (slice_get w.links link) found _ true after there
    (some_becomes found.question ask _ true after asks_it
    (some_becomes (slice_get w.asks ask) asked _ true after asks
    (subst (λ reading. Becomes (put_due link found ask asked.question full reading w) true after) (sym due)
    (when_becomes (found.run == w.run && fits full w) (put_to link found ask asked.question full commit kind w) after
    (and_from (found.run == w.run) (fits full w) (eq-eqb found.run w.run run) fit) so))))

pub deliver_becomes : (w : World) (client ask : ℕ) (asked : Asked) (link : ℕ) (found : Link) (transit : Transit) (after : World)
    → (client_of w client).asking ≡ Some ask → slice_get w.asks ask ≡ Some asked → (client_of w client).link ≡ Some link
    → slice_get w.links link ≡ Some found → found.reply ≡ Some transit → transit.ask ≡ ask
    → after ≡ delivered client ask asked.question link found transit.reply w → Becomes (deliver client w) true after
deliver_becomes w client ask asked link found transit after asking asks holds there sent mine so =
    some_becomes (client_of w client).asking ask _ true after asking
    (some_becomes (slice_get w.asks ask) asked _ true after asks
    (some_becomes (client_of w client).link link _ true after holds
    (some_becomes (slice_get w.links link) found _ true after there
    (some_becomes found.reply transit _ true after sent
    (when_becomes (transit.ask == ask) (delivered client ask asked.question link found transit.reply w) after
    (eq-eqb transit.ask ask mine) so)))))

-- what may be stored, and the state that it leads to
proposed_step : (test : Bool) (state : DeskState) (made : Option DeskState) → made ≡ cond test (Some state) None
    → made ≡ None
    → test ≡ false
proposed_step true state made is none = absurd (none-some state (sym none ∙ is))
proposed_step false state made is none = refl

pub refused_becomes : (test : Bool) (state : DeskState) (made : Option DeskState) (next after : World)
    → made ≡ cond test (Some state) None → made ≡ None → Becomes (when test next) false after
refused_becomes test state made next after is none = when_not test next after (proposed_step test state made is none)

taken_step : (test : Bool) (state : DeskState) (made : Option DeskState) (found : DeskState)
    → made ≡ cond test (Some state) None → made ≡ Some found → (test ≡ true) × (found ≡ state)
taken_step true state made found is some = (refl, same_Some found state (sym some ∙ is))
taken_step false state made found is some = absurd (none-some found (sym is ∙ some))

pub taken_becomes : (test : Bool) (state : DeskState) (made : Option DeskState) (found : DeskState) (change : DeskState → World)
    (after : World) → made ≡ cond test (Some state) None → made ≡ Some found → after ≡ change found
    → Becomes (when test (change state)) true after
taken_becomes test state made found change after is some so =
    let both = taken_step test state made found is some in
    when_becomes test (change state) after both.0 (so ∙ ap change both.1)
