-- The worker of a link reads the published policies.
use Rattle.std.proofs.Common.{◌≡◌, ℕ, ◌≤◌, Bool, true, false, ◌&&◌, Some, refl, sym, ap, subst, ◌∙◌, arith}
use Rattle.std.specs.Prelude.{slice_get, unwrap_or, is_some, nat_le}
use Rattle.std.proofs.lemmas.Bool.{and_parts, leb-true}
use Rattle.std.proofs.lemmas.Option.{none-some}
use Rattle.cynara_keys.specs.PolicyResult.{is_agent}
use Rattle.desk_state.specs.DeskState.{DeskState}
use Rattle.desk_world.specs.World.{World, history, desk_at, root_outcome, with_link}
use Rattle.desk_world.specs.Clients.{kept}
use Rattle.desk_world.specs.Links.{is_nothing, reading_of, read_as, read}
use Rattle.desk_world.specs.Sound.{IsFresh}
use Rattle.desk_world.specs.Grows.{LinkGrows}
use Rattle.desk_world.specs.Kept.{IsBetween, IsRead, IsLink, IsKept}
use Rattle.desk_world.specs.declared.links.Asked.{Asked}
use Rattle.desk_world.specs.declared.links.Link.{Link}
use Rattle.desk_world.proofs.Options.{with_some-tells, when-tells, some_there}
use Rattle.desk_world.proofs.Lists.{all-at}
use Rattle.desk_world.proofs.Relinking.{link_was, relink-step}
use Rattle.desk_world.proofs.Keeping.{Step}

module _ (w : World) (kept : IsKept w) (link : ℕ) (found : Link) (commit ask : ℕ) (asked : Asked) (desk : DeskState)
    (entered : ℕ) (there : slice_get w.links link ≡ Some found) (asks_it : found.question ≡ Some ask)
    (asks : slice_get w.asks ask ≡ Some asked) (committed : desk_at commit (history w) ≡ Some desk)
    (at : found.entered ≡ Some entered) (seen : found.seen ≤ commit) (published : commit ≤ w.published) where
  abbrev changed : Link
  changed = record found { seen = commit; reading = reading_of commit asked.simple (root_outcome desk asked.question) }

  abbrev after : World
  after = with_link link changed w

  abbrev grown : LinkGrows found changed
  grown = record { client = refl; run = refl; entered = λ commit e. e; seen = λ commit e. seen; closed = λ e. e }

  abbrev was : IsLink w found
  was = all-at (IsLink w) w.links link found kept.links there

  abbrev still : IsLink after found
  still = link_was w link found changed there grown kept

  -- what was seen is not below where the link entered
  entered_low : unwrap_or found.entered 0 ≤ commit
  entered_low = omega (arith, (was.seen entered at).low, seen)

  between : IsBetween after found.entered commit
  between = record { low = entered_low; high = published }

  -- the floor of the ask is not above where the link entered
  no_older : asked.floor ≤ commit
  no_older =
      let carried = was.question ask asks_it in
      let is : Some carried.asked ≡ Some asked = sym carried.asks ∙ asks in
      let same : carried.asked ≡ asked = cc in
      let floor = subst (λ entered. carried.asked.floor ≤ unwrap_or entered w.acknowledged) at carried.floor in
      let low = subst (λ entered. unwrap_or entered 0 ≤ commit) at entered_low in
      let floor_same : carried.asked.floor ≡ asked.floor = ap (λ (asked : Asked). asked.floor) same in
      omega (arith, floor, low, floor_same)

  abbrev fresh : IsFresh after ask commit
  fresh = record { asked = asked; desk = desk; asks = asks; committed = committed; no_older = no_older }

  read_is : (agent simple : Bool) → is_agent (root_outcome desk asked.question).result.kind ≡ agent
      → IsRead after found.run found.entered ask (read_as agent commit simple (root_outcome desk asked.question))
  read_is true true is = (record { fresh = fresh; right = record { agent = is; decides = refl } }, between)
  read_is true false is = (record { fresh = fresh; leaves = record { agent = is; decides = refl } }, between)
  read_is false simple is = (record { fresh = fresh; right = refl }, between)

  changed_is : IsLink after changed
  changed_is = record {
    first = still.first;
    seen = λ commit e. between;
    question = still.question;
    reading = λ other e.
        let is : Some ask ≡ Some other = sym asks_it ∙ e in
        let same : ask ≡ other = cc in
        subst (λ ask. IsRead after found.run found.entered ask changed.reading) same
        (read_is (is_agent (root_outcome desk asked.question).result.kind) asked.simple refl);
    reply = still.reply;
    unasked = λ e. absurd (none-some ask (sym e ∙ asks_it));
    not_entered = λ e. absurd (none-some entered (sym e ∙ at));
  }

  pub read-step : Step w after
  read-step =
      relink-step w link found changed there grown kept (λ current. current) changed_is

pub read-steps : (w next : World) → IsKept w → (link commit : ℕ) → read link commit w ≡ Some next → Step w next
read-steps w next kept link commit e =
    with_some-tells (slice_get w.links link) _ next e (λ found there e.
    with_some-tells found.question _ next e (λ ask asks_it e.
    with_some-tells (slice_get w.asks ask) _ next e (λ asked asks e.
    with_some-tells (desk_at commit (history w)) _ next e (λ desk committed e.
    let bounds : Bool = nat_le found.seen commit && nat_le commit w.published in
    when-tells (Step w) (is_some found.entered && (is_nothing found.reading && bounds))
    (with_link link
    (record found { seen = commit; reading = reading_of commit asked.simple (root_outcome desk asked.question) }) w) next e
    (λ tests.
    let both = and_parts (is_some found.entered) (is_nothing found.reading && bounds) tests in
    let rest = and_parts (is_nothing found.reading) bounds both.1 in
    let low = and_parts (nat_le found.seen commit) (nat_le commit w.published) rest.1 in
    let at = some_there found.entered both.0 in
    read-step w kept link found commit ask asked desk at.0 there asks_it asks committed at.1
    (leb-true found.seen commit low.0) (leb-true commit w.published low.1))))))
