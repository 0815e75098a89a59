-- Ends in the places of the registry, as one place or all of them change.
use Rattle.std.proofs.Common.{◌≡◌, ℕ, zero, suc, Bool, true, false, not, ◌&&◌, cond, List, [], ◌∷◌, set, get_or, map, Option, Some, None, refl, sym, ap, subst, ◌∙◌}
use Rattle.std.specs.Prelude.{slice_get, nat_lt, ◌==◌}
use Rattle.std.proofs.lemmas.Bool.{eqb-true, eqb-false}
use Rattle.std.proofs.lemmas.Option.{none-some, same_Some}
use Rattle.live_roll.specs.declared.entries.Entry.{Entry}
use Rattle.live_roll.specs.Places.{IsHungUpIf, IsLeft, AreHungBelow, is_below, IsVacant}
use Rattle.desk_world.specs.Commits.{hung_up, entered_before}
use Rattle.desk_world.specs.declared.links.Link.{Link}
use Rattle.desk_world.proofs.Lists.{get-set_same, get-set_other, get-map}
use Rattle.event_laws.specs.Service.{IsEndOf, EndsStand, entered_in}

pub set_there : {X : Type 0} (xs : List X) (k : ℕ) (y x : X) → slice_get (set xs k y) k ≡ Some x → y ≡ x
set_there [] k y x is = absurd (none-some x is)
set_there (z ∷ xs) zero y x is = same_Some y x is
set_there (z ∷ xs) (suc k) y x is = set_there xs k y x is

set_elsewhere : {X : Type 0} (xs : List X) (k i : ℕ) (y x : X) → (i ≡ k → ⊥) → slice_get (set xs k y) i ≡ Some x → slice_get xs i ≡ Some x
set_elsewhere xs k i y x other is = sym (get-set_other xs k i y other) ∙ is

and_false : (up : Bool) → (up && false) ≡ false
and_false true = refl
and_false false = refl

-- what stood in a place that is written
there_before : {H : Type 0} (places : List (Option (Entry H))) (seat : ℕ) (now : Option (Entry H)) (entry : Entry H)
    → slice_get (set places seat now) seat ≡ Some (Some entry)
    → (old : Option (Entry H)) × (slice_get places seat ≡ Some old) × (get_or places seat None ≡ old)
there_before [] seat now entry is = absurd (none-some (Some entry) is)
there_before (one ∷ places) zero now entry is = (one, refl, refl)
there_before (one ∷ places) (suc seat) now entry is = there_before places seat now entry is

module _ {H : Type 0} (used : H → Bool) where
  -- ---- one place

  -- what a connection that changes so leaves of its ends
  pub still_end : (run : ℕ) (entry : Entry H) (link changed : Link) → changed.run ≡ link.run → changed.entered ≡ link.entered
      → (link.up ≡ false → changed.up ≡ false) → IsEndOf used run entry link → IsEndOf used run entry changed
  still_end run entry link changed same_run same_entered down is = record {
    run = same_run ∙ is.run;
    entered = same_entered ∙ is.entered;
    hung = λ was_used. down (is.hung was_used);
  }

  -- one connection changes, and not where it stands
  pub ends_relinked : (link_of : ℕ → ℕ) (run : ℕ) (places : List (Option (Entry H))) (links : List Link) (at : ℕ) (found changed : Link)
      → slice_get links at ≡ Some found → changed.run ≡ found.run → changed.entered ≡ found.entered
      → (found.up ≡ false → changed.up ≡ false) → EndsStand used link_of run places links
      → EndsStand used link_of run places (set links at changed)
  ends_relinked link_of run places links at found changed there same_run same_entered down ends place entry is =
      let own = ends place entry is in by_case own.0 own.1 own.2 (link_of place == at) refl where
        by_case : (link : Link) → slice_get links (link_of place) ≡ Some link → IsEndOf used run entry link → (b : Bool) → (link_of place == at) ≡ b
            → (link : Link) × (slice_get (set links at changed) (link_of place) ≡ Some link) × IsEndOf used run entry link
        by_case link got end true same =
            let here : link_of place ≡ at = eqb-true (link_of place) at same in
            let one : found ≡ link = same_Some found link (sym there ∙ (ap (slice_get links) (sym here) ∙ got)) in (
              changed,
              ap (slice_get (set links at changed)) here ∙ get-set_same links at found changed there,
              still_end run entry found changed same_run same_entered down (subst (IsEndOf used run entry) (sym one) end),
            )
        by_case link got end false same =
            (link, get-set_other links at (link_of place) changed (eqb-false (link_of place) at same) ∙ got, end)

  -- a connection enters
  pub ends_entered : (link_of : ℕ → ℕ) (run : ℕ) (places : List (Option (Entry H))) (links : List Link) (seat at : ℕ)
      (found changed : Link) (new : Entry H)
      → slice_get links at ≡ Some found → found.entered ≡ None → IsEndOf used run new changed
      → EndsStand used link_of run places links
      → EndsStand used (entered_in seat at link_of) run (set places seat (Some new)) (set links at changed)
  ends_entered link_of run places links seat at found changed new there free own ends place entry is =
      by_case (place == seat) refl where
        other : (l : (link : Link) × (slice_get links (link_of place) ≡ Some link) × IsEndOf used run entry link)
            → (link : Link) × (slice_get (set links at changed) (link_of place) ≡ Some link) × IsEndOf used run entry link
        other (link, got, end) =
            let apart : link_of place ≡ at → ⊥ = λ same.
            let one : found ≡ link = same_Some found link (sym there ∙ (ap (slice_get links) (sym same) ∙ got)) in
            none-some entry.entered (sym free ∙ (ap (λ (l : Link). l.entered) one ∙ end.entered)) in
            (link, get-set_other links at (link_of place) changed apart ∙ got, end)

        by_case : (b : Bool) → (place == seat) ≡ b
            → (link : Link) × (slice_get (set links at changed) (cond (place == seat) at (link_of place)) ≡ Some link) × IsEndOf used run entry link
        by_case true same =
            let here : place ≡ seat = eqb-true place seat same in
            let entry_is : new ≡ entry =
            same_Some new entry (set_there places seat (Some new) (Some entry)
            (ap (slice_get (set places seat (Some new))) (sym here) ∙ is)) in (
              changed,
              ap (λ b. slice_get (set links at changed) (cond b at (link_of place))) same ∙ get-set_same links at found changed there,
              subst (λ (e : Entry H). IsEndOf used run e changed) entry_is own,
            )
        by_case false same =
            let was = set_elsewhere places seat place (Some new) (Some entry) (eqb-false place seat same) is in
            let rest = other (ends place entry was) in
            (rest.0, ap (λ b. slice_get (set links at changed) (cond b at (link_of place))) same ∙ rest.1, rest.2)

  -- ---- all places

  hung_get : (low : ℕ) (places now : List (Option (Entry H))) (k : ℕ) (entry : Entry H) → AreHungBelow used low places now
      → slice_get now k ≡ Some (Some entry)
      → (old : Option (Entry H)) × (slice_get places k ≡ Some old) × IsHungUpIf used (is_below low old) old (Some entry)
  hung_get low [] now k entry hung is = absurd (none-some (Some entry) (ap (λ (list : List (Option (Entry H))). slice_get list k) (sym hung) ∙ is))
  hung_get low (place ∷ places) [] k entry hung is = absurd hung
  hung_get low (place ∷ places) (one ∷ now) zero entry hung is =
      (place, refl, subst (IsHungUpIf used (is_below low place) place) (same_Some one (Some entry) is) hung.0)
  hung_get low (place ∷ places) (one ∷ now) (suc k) entry hung is = hung_get low places now k entry hung.1 is

  -- an end that was hung up, or was left
  hung_end : (low published run : ℕ) (b : Bool) (old entry : Entry H) (link : Link) → published ≡ low → nat_lt old.entered low ≡ b
      → IsHungUpIf used b (Some old) (Some entry) → IsEndOf used run old link → IsEndOf used run entry (hung_up published link)
  hung_end low published run true old entry link same below hung is = record {
    run = is.run;
    entered = is.entered ∙ ap (λ (at : ℕ). Some at) (sym hung.0);
    hung = λ was_used.
        let before : entered_before published link.entered ≡ true =
        ap (entered_before published) is.entered ∙ (ap (nat_lt old.entered) same ∙ below) in
        ap (λ b. link.up && not b) before ∙ and_false link.up;
  }
  hung_end low published run false old entry link same below hung is =
      let one : entry ≡ old = same_Some entry old hung in
      record {
        run = is.run;
        entered = is.entered ∙ ap (λ (e : Entry H). Some e.entered) (sym one);
        hung = λ was_used.
            ap (λ up. up && not (entered_before published link.entered)) (is.hung (ap (λ (e : Entry H). used e.end) (sym one) ∙ was_used));
      }

  pub ends_hung : (link_of : ℕ → ℕ) (run low published : ℕ) (places now : List (Option (Entry H))) (links : List Link) → published ≡ low
      → AreHungBelow used low places now → EndsStand used link_of run places links
      → EndsStand used link_of run now (map (hung_up published) links)
  ends_hung link_of run low published places now links same hung ends place entry is =
      let was = hung_get low places now place entry hung is in of_old was.0 was.1 was.2 where
        of_old : (old : Option (Entry H)) → slice_get places place ≡ Some old → IsHungUpIf used (is_below low old) old (Some entry)
            → (link : Link) × (slice_get (map (hung_up published) links) (link_of place) ≡ Some link) × IsEndOf used run entry link
        of_old None got hung_so = absurd (none-some entry (sym hung_so))
        of_old (Some old) got hung_so =
            let own = ends place old got in (
              hung_up published own.0,
              get-map (hung_up published) links (link_of place) own.0 own.1,
              hung_end low published run (nat_lt old.entered low) old entry own.0 same refl hung_so own.2,
            )

  -- ---- a connection that leaves

  pub ends_left : (link_of : ℕ → ℕ) (run : ℕ) (places : List (Option (Entry H))) (links : List Link) (seat : ℕ) (found : Link)
      (now : Option (Entry H)) → slice_get links (link_of seat) ≡ Some found → found.up ≡ false
      → IsLeft used (get_or places seat None) now → EndsStand used link_of run places links
      → EndsStand used link_of run (set places seat now) links
  ends_left link_of run places links seat found now there down left ends place entry is = by_case (place == seat) refl where
    here : (old : Option (Entry H)) → slice_get places seat ≡ Some old → place ≡ seat → IsLeft used old (Some entry)
        → (link : Link) × (slice_get links (link_of place) ≡ Some link) × IsEndOf used run entry link
    here None got same so = absurd (none-some entry (sym so))
    here (Some old) got same so =
        let own = ends seat old got in
        let one : own.0 ≡ found = same_Some own.0 found (sym own.1 ∙ there) in (
          own.0,
          ap (λ p. slice_get links (link_of p)) same ∙ own.1,
          record {
            run = own.2.run;
            entered = own.2.entered ∙ ap (λ (at : ℕ). Some at) (sym so.0);
            hung = λ was_used. ap (λ (l : Link). l.up) one ∙ down;
          },
        )

    by_case : (b : Bool) → (place == seat) ≡ b
        → (link : Link) × (slice_get links (link_of place) ≡ Some link) × IsEndOf used run entry link
    by_case true same =
        let at : place ≡ seat = eqb-true place seat same in
        let now_is : now ≡ Some entry = set_there places seat now (Some entry) (ap (slice_get (set places seat now)) (sym at) ∙ is) in
        let was = there_before places seat now entry (ap (slice_get (set places seat now)) (sym at) ∙ is) in
        here was.0 was.1 at (subst (IsLeft used was.0) now_is (subst (λ (old : Option (Entry H)). IsLeft used old now) was.2 left))
    by_case false same = ends place entry (set_elsewhere places seat place now (Some entry) (eqb-false place seat same) is)

-- nobody stands in a registry that is new
none_in : {H : Type 0} (places : List (Option (Entry H))) (place : ℕ) (entry : Entry H) → IsVacant places
    → slice_get places place ≡ Some (Some entry) → ⊥
none_in [] place entry vacant is = none-some (Some entry) is
none_in (one ∷ places) zero entry vacant is = none-some entry (sym vacant.0 ∙ same_Some one (Some entry) is)
none_in (one ∷ places) (suc place) entry vacant is = none_in places place entry vacant.1 is

pub ends_none : {H : Type 0} (used : H → Bool) (link_of : ℕ → ℕ) (run : ℕ) (places : List (Option (Entry H))) (links : List Link)
    → IsVacant places → EndsStand used link_of run places links
ends_none used link_of run places links vacant place entry is = absurd (none_in places place entry vacant is)
