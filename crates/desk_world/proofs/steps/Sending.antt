-- A client sends its question.
use Rattle.std.proofs.Common.{◌≡◌, ℕ, ◌≤◌, true, ◌&&◌, Option, Some, None, refl, sym, subst, arith}
use Rattle.std.specs.Prelude.{slice_get, unwrap_or, is_none}
use Rattle.std.proofs.lemmas.Bool.{and_parts}
use Rattle.std.proofs.lemmas.Option.{none-some}
use Rattle.desk_world.specs.World.{World, with_link, client_of}
use Rattle.desk_world.specs.Clients.{send, kept}
use Rattle.desk_world.specs.Grows.{LinkGrows}
use Rattle.desk_world.specs.Kept.{IsCurrent, IsCarried, IsRead, IsLink, IsKept}
use Rattle.desk_world.specs.declared.links.Asked.{Asked}
use Rattle.desk_world.specs.declared.links.Link.{Link}
use Rattle.desk_world.proofs.Options.{with_some-tells, when-tells, none_there}
use Rattle.desk_world.proofs.Lists.{all-at}
use Rattle.desk_world.proofs.Relinking.{link_was, relink-step}
use Rattle.desk_world.proofs.Keeping.{Step}

module _ (w : World) (kept : IsKept w) (client ask link : ℕ) (found : Link) (asking : (client_of w client).asking ≡ Some ask)
    (there : slice_get w.links link ≡ Some found) (up : found.up ≡ true) (free : found.question ≡ None) where
  abbrev changed : Link
  changed = record found { question = Some ask }

  abbrev after : World
  after = with_link link changed w

  abbrev grown : LinkGrows found changed
  grown = record { client = refl; run = refl; entered = λ commit e. e; seen = λ commit e. omega arith; closed = λ e. e }

  abbrev still : IsLink after found
  still = link_was w link found changed there grown kept

  -- the link entered at the note or later, or will do so
  floor_low : (floor : ℕ) (entered : Option ℕ) → floor ≤ w.acknowledged
      → ((commit : ℕ) → entered ≡ Some commit → w.note ≤ commit)
      → floor ≤ unwrap_or entered w.acknowledged
  floor_low floor None low current = low
  floor_low floor (Some commit) low current = omega (arith, current commit refl, kept.ordered.acknowledged)

  carried : IsCarried after found.entered ask
  carried =
      let has = (kept.clients client).asking ask asking in
      let low = all-at (λ (asked : Asked). asked.floor ≤ w.acknowledged) w.asks ask has.0 kept.asks has.1 in
      record {
        asked = has.0;
        asks = has.1;
        floor =
            floor_low has.0.floor found.entered low
            (all-at (IsCurrent w.note) w.links link found kept.current there up);
      }

  changed_is : IsLink after changed
  changed_is = record {
    first = still.first;
    seen = still.seen;
    question = λ other e. let same : ask ≡ other = cc in subst (IsCarried after found.entered) same carried;
    reading = λ other e.
        subst (IsRead after found.run found.entered other) (sym (still.unasked free)) tt;
    reply = still.reply;
    unasked = λ e. absurd (none-some ask (sym e));
    not_entered = still.not_entered;
  }

  pub send-step : Step w after
  send-step =
      relink-step w link found changed there grown kept (λ current. current) changed_is

pub send-steps : (w next : World) → IsKept w → (client : ℕ) → send client w ≡ Some next → Step w next
send-steps w next kept client e =
    with_some-tells (client_of w client).asking _ next e (λ ask asking e.
    with_some-tells (client_of w client).link _ next e (λ link holds e.
    with_some-tells (slice_get w.links link) _ next e (λ found there e.
    when-tells (Step w) (found.up && (is_none found.question && is_none found.reply))
    (with_link link (record found { question = Some ask }) w) next e
    (λ tests.
    let both = and_parts found.up (is_none found.question && is_none found.reply) tests in
    let free = and_parts (is_none found.question) (is_none found.reply) both.1 in
    send-step w kept client ask link found asking there both.0 (none_there found.question free.0)))))
