-- The worker of a link sends the reply.
use Rattle.std.proofs.Common.{◌≡◌, ℕ, Option, Some, None, refl, sym, ap, subst, ◌∙◌, arith}
use Rattle.std.specs.Prelude.{slice_get}
use Rattle.std.proofs.lemmas.Option.{none-some, same_Some}
use Rattle.cynara_keys.specs.declared.results.Kind.{Kind}
use Rattle.desk_world.specs.World.{World, with_link}
use Rattle.desk_world.specs.Clients.{kept}
use Rattle.desk_world.specs.Links.{read, settled, settled_by, outgoing, write}
use Rattle.desk_world.specs.Sound.{commit_of, IsPutFor, IsSound}
use Rattle.desk_world.specs.Grows.{LinkGrows, Grows}
use Rattle.desk_world.specs.Kept.{IsBetween, IsLeft, IsRead, IsSent, IsLink, IsKept}
use Rattle.desk_world.specs.declared.agent_entries.EntryState.{EntryState}
use Rattle.desk_world.specs.declared.agent_entries.EntryState.TheVariants.{Open, Gone, Answered}
use Rattle.desk_world.specs.declared.links.Link.{Link}
use Rattle.desk_world.specs.declared.links.Reading.{Reading}
use Rattle.desk_world.specs.declared.links.Reading.TheVariants.{Nothing, Ready, Due, Waiting}
use Rattle.desk_world.specs.declared.links.Transit.{Transit}
use Rattle.desk_world.specs.declared.replies.Reply.{Reply}
use Rattle.desk_world.specs.declared.replies.Reply.TheVariants.{FromAgent, AgentGone}
use Rattle.desk_world.proofs.Options.{with_some-tells, when-tells}
use Rattle.desk_world.proofs.Lists.{all-at}
use Rattle.desk_world.proofs.Monotone.{sound_still, between_still}
use Rattle.desk_world.proofs.Relinking.{relink_grows, link_was, relink-step}
use Rattle.desk_world.proofs.Keeping.{Step}

-- what is settled of the entry that is waited for
settled_sound : (w : World) (run ask commit : ℕ) (kind : Kind) (number : ℕ) (left : IsLeft w ask commit kind)
    (put : IsPutFor w run number ask left.fresh.asked.question kind commit) (state : EntryState) (reply : Reply)
    → put.entry.state ≡ state → settled commit kind number state ≡ Some reply → (P : Reply → Type 0)
    → ((reply : Reply) → IsSound w run ask reply → commit_of reply ≡ commit → P reply) → P reply
settled_sound w run ask commit kind number left put Open reply is e P so = absurd (none-some reply e)
settled_sound w run ask commit kind number left put Gone reply is e P so =
    let same : AgentGone commit number ≡ reply = same_Some (AgentGone commit number) reply e in
    subst P same
    (so (AgentGone commit number) (record { fresh = left.fresh; right = (kind, left.leaves, (put, is)) }) refl)
settled_sound w run ask commit kind number left put (Answered allowed) reply is e P so =
    let same : FromAgent commit kind number allowed ≡ reply = same_Some (FromAgent commit kind number allowed) reply e in
    subst P same
    (so (FromAgent commit kind number allowed) (record { fresh = left.fresh; right = (left.leaves, (put, is)) }) refl)

outgoing_sound : (w : World) (run : ℕ) (entered : Option ℕ) (ask : ℕ) (reading : Reading) (reply : Reply)
    → IsRead w run entered ask reading → outgoing run w.entries reading ≡ Some reply
    → IsSound w run ask reply × IsBetween w entered (commit_of reply)
outgoing_sound w run entered ask Nothing reply read e = absurd (none-some reply e)
outgoing_sound w run entered ask (Ready ready) reply read e =
    subst (λ reply. IsSound w run ask reply × IsBetween w entered (commit_of reply)) (same_Some ready reply e) read
outgoing_sound w run entered ask (Due commit kind metadata) reply read e = absurd (none-some reply e)
outgoing_sound w run entered ask (Waiting commit kind number) reply read e =
    settled_sound w run ask commit kind number read.0 read.2 read.2.entry.state reply refl
    (sym (ap (settled_by commit kind number) read.2.logged) ∙ e)
    (λ reply. IsSound w run ask reply × IsBetween w entered (commit_of reply))
    (λ reply sound same. (sound, subst (IsBetween w entered) (sym same) read.1))

module _ (w : World) (kept : IsKept w) (link : ℕ) (found : Link) (ask : ℕ) (reply : Reply)
    (there : slice_get w.links link ≡ Some found) (asks_it : found.question ≡ Some ask)
    (out : outgoing found.run w.entries found.reading ≡ Some reply) where
  abbrev transit : Transit
  transit = record { ask = ask; reply = reply }

  abbrev changed : Link
  changed = record found { question = None; reading = Nothing; reply = Some transit }

  abbrev after : World
  after = with_link link changed w

  abbrev grown : LinkGrows found changed
  grown = record { client = refl; run = refl; entered = λ commit e. e; seen = λ commit e. omega arith; closed = λ e. e }

  abbrev grows : Grows w after
  grows = relink_grows w link found changed there grown

  abbrev was : IsLink w found
  was = all-at (IsLink w) w.links link found kept.links there

  abbrev still : IsLink after found
  still = link_was w link found changed there grown kept

  right : IsSound w found.run ask reply × IsBetween w found.entered (commit_of reply)
  right = outgoing_sound w found.run found.entered ask found.reading reply (was.reading ask asks_it) out

  sent : IsSent after found.run found.entered transit
  sent = record {
    sound = sound_still w after grows found.run ask reply right.0;
    between = between_still w after grows found.entered (commit_of reply) right.1;
    carried = still.question ask asks_it;
  }

  nothing_out : found.reading ≡ Nothing → ⊥
  nothing_out e = none-some reply (sym (ap (outgoing found.run w.entries) e) ∙ out)

  changed_is : IsLink after changed
  changed_is = record {
    first = still.first;
    seen = still.seen;
    question = λ ask e. absurd (none-some ask e);
    reading = λ ask e. absurd (none-some ask e);
    reply = λ other e.
        let same : transit ≡ other = same_Some transit other e in subst (IsSent after found.run found.entered) same sent;
    unasked = λ e. refl;
    not_entered = λ e. absurd (nothing_out (still.not_entered e).0);
  }

  pub write-step : Step w after
  write-step =
      relink-step w link found changed there grown kept (λ current. current) changed_is

pub write-steps : (w next : World) → IsKept w → (link : ℕ) → write link w ≡ Some next → Step w next
write-steps w next kept link e =
    with_some-tells (slice_get w.links link) _ next e (λ found there e.
    with_some-tells found.question _ next e (λ ask asks_it e.
    with_some-tells (outgoing found.run w.entries found.reading) _ next e (λ reply out e.
    when-tells (Step w) found.up
    (with_link link
    (record found { question = None; reading = Nothing; reply = Some (record { ask = ask; reply = reply }) }) w) next e
    (λ up. write-step w kept link found ask reply there asks_it out))))
