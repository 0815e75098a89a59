-- A link is entered in the roll, or lost.
use Rattle.std.proofs.Common.{◌≡◌, ℕ, ◌≤◌, ◌==◌, false, ◌&&◌, Some, None, refl, sym, subst, ◌∙◌, arith}
use Rattle.std.specs.Prelude.{slice_get, unwrap_or, is_none}
use Rattle.std.proofs.lemmas.Bool.{and_parts, false≢true}
use Rattle.std.proofs.lemmas.Option.{none-some}
use Rattle.desk_world.specs.World.{World, with_link}
use Rattle.desk_world.specs.Clients.{kept}
use Rattle.desk_world.specs.Links.{enter, lose}
use Rattle.desk_world.specs.Grows.{LinkGrows}
use Rattle.desk_world.specs.Kept.{IsRead, IsLink, IsKept}
use Rattle.desk_world.specs.declared.links.Link.{Link}
use Rattle.desk_world.proofs.Options.{with_some-tells, when-tells, none_there}
use Rattle.desk_world.proofs.Relinking.{link_was, relink-step}
use Rattle.desk_world.proofs.Keeping.{Step}

module _ (w : World) (kept : IsKept w) (link : ℕ) (found : Link) (there : slice_get w.links link ≡ Some found)
    (free : found.entered ≡ None) where
  abbrev changed : Link
  changed = record found { entered = Some w.note; seen = w.note }

  abbrev after : World
  after = with_link link changed w

  abbrev grown : LinkGrows found changed
  grown = record {
    client = refl;
    run = refl;
    entered = λ commit e. absurd (none-some commit (sym free ∙ e));
    seen = λ commit e. absurd (none-some commit (sym free ∙ e));
    closed = λ e. e;
  }

  abbrev still : IsLink after found
  still = link_was w link found changed there grown kept

  changed_is : IsLink after changed
  changed_is = record {
    first = λ commit e.
        let same : w.note ≡ commit = cc in omega (arith, same, kept.ordered.first, kept.ordered.acknowledged);
    seen = λ commit e. record { low = omega arith; high = kept.ordered.note };
    question = λ ask e.
        let carried = still.question ask e in
        let low = subst (λ entered. carried.asked.floor ≤ unwrap_or entered w.acknowledged) free carried.floor in
        record {
          asked = carried.asked;
          asks = carried.asks;
          floor = omega (arith, low, kept.ordered.acknowledged);
        };
    reading = λ ask e. subst (IsRead after found.run (Some w.note) ask) (sym (still.not_entered free).0) tt;
    reply = λ transit e. absurd (none-some transit (sym (still.not_entered free).1 ∙ e));
    unasked = still.unasked;
    not_entered = λ e. absurd (none-some w.note (sym e));
  }

  pub enter-step : Step w after
  enter-step =
      relink-step w link found changed there grown kept
      (λ current up entered e. let same : w.note ≡ entered = cc in omega (arith, same)) changed_is

pub enter-steps : (w next : World) → IsKept w → (link : ℕ) → enter link w ≡ Some next → Step w next
enter-steps w next kept link e =
    with_some-tells (slice_get w.links link) _ next e (λ found there e.
    when-tells (Step w) (found.run == w.run && is_none found.entered)
    (with_link link (record found { entered = Some w.note; seen = w.note }) w) next e
    (λ tests.
    let both = and_parts (found.run == w.run) (is_none found.entered) tests in
    enter-step w kept link found there (none_there found.entered both.1)))

module _ (w : World) (kept : IsKept w) (link : ℕ) (found : Link) (there : slice_get w.links link ≡ Some found) where
  abbrev shut : Link
  shut = record found { up = false }

  abbrev lost : World
  lost = with_link link shut w

  abbrev shut_grown : LinkGrows found shut
  shut_grown = record { client = refl; run = refl; entered = λ commit e. e; seen = λ commit e. omega arith; closed = λ e. refl }

  abbrev lose_still : IsLink lost found
  lose_still = link_was w link found shut there shut_grown kept

  pub lose-step : Step w lost
  lose-step =
      relink-step w link found shut there shut_grown kept (λ current up. absurd (false≢true up))
      (record {
        first = lose_still.first;
        seen = lose_still.seen;
        question = lose_still.question;
        reading = lose_still.reading;
        reply = lose_still.reply;
        unasked = lose_still.unasked;
        not_entered = lose_still.not_entered;
      })

pub lose-steps : (w next : World) → IsKept w → (link : ℕ) → lose link w ≡ Some next → Step w next
lose-steps w next kept link e =
    with_some-tells (slice_get w.links link) _ next e (λ found there e.
    when-tells (Step w) found.up (with_link link (record found { up = false }) w) next e
    (λ up. lose-step w kept link found there))
