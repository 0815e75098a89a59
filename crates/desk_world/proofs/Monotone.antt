-- What held of a reply, a link or a client before an event still holds after it, since the world has only grown.
use Rattle.std.proofs.Common.{◌≡◌, ℕ, ◌≤◌, ◌==◌, false, List, [], ◌∷◌, Option, Some, None, refl, sym, ap, subst, ◌∙◌, arith}
use Rattle.std.specs.Prelude.{All, unwrap_or}
use Rattle.std.proofs.lemmas.List.Elements.{All-nil, All-weaker}
use Rattle.std.proofs.lemmas.Option.{none-some}
use Rattle.cynara_keys.specs.Key.{Question}
use Rattle.cynara_keys.specs.declared.results.Kind.{Kind}
use Rattle.desk_state.specs.DeskState.{DeskState}
use Rattle.desk_world.specs.Client.{Client}
use Rattle.desk_world.specs.World.{World, history, desk_at}
use Rattle.desk_world.specs.Agents.{is_open}
use Rattle.desk_world.specs.Sound.{IsFresh, IsPutFor, IsRight, IsSound, commit_of}
use Rattle.desk_world.specs.Grows.{BeginsWith, Grows}
use Rattle.desk_world.specs.Kept.{IsBetween, IsCarried, IsLeft, IsRead, IsSent, IsLink, IsKnown, HasLink, IsClient}
use Rattle.desk_world.specs.declared.known.Known.{Known}
use Rattle.desk_world.specs.declared.links.Link.{Link}
use Rattle.desk_world.specs.declared.links.Reading.{Reading}
use Rattle.desk_world.specs.declared.links.Reading.TheVariants.{Nothing, Ready, Due, Waiting}
use Rattle.desk_world.specs.declared.links.Transit.{Transit}
use Rattle.desk_world.specs.declared.replies.Given.{Given}
use Rattle.desk_world.specs.declared.replies.Reply.{Reply}
use Rattle.desk_world.specs.declared.replies.Reply.TheVariants.{Judged, FromAgent, NotResolved, NoAgent, AgentGone, AgentFull}
use Rattle.desk_world.proofs.Lists.{begins-get, find-begins}

module _ (before after : World) (grows : Grows before after) where
  pub history_begins : BeginsWith (history after) (history before)
  history_begins = (grows.later.0, λ i. grows.first i ∷ grows.later.1 i)

  pub desk_still : (commit : ℕ) (desk : DeskState) → desk_at commit (history before) ≡ Some desk
      → desk_at commit (history after) ≡ Some desk
  desk_still commit desk e =
      find-begins (λ (desk : DeskState). desk.commit == commit) (history before) (history after) desk history_begins e

  abbrev pub fresh_still : (ask commit : ℕ) → IsFresh before ask commit → IsFresh after ask commit
  fresh_still ask commit fresh = record {
    asked = fresh.asked;
    desk = fresh.desk;
    asks = begins-get before.asks after.asks ask fresh.asked grows.asks fresh.asks;
    committed = desk_still commit fresh.desk fresh.committed;
    no_older = fresh.no_older;
  }

  pub put_still : (run number ask : ℕ) (question : Question) (kind : Kind) (commit : ℕ)
      → (put : IsPutFor before run number ask question kind commit)
      → (now : IsPutFor after run number ask question kind commit)
      × (is_open put.entry.state ≡ false → now.entry.state ≡ put.entry.state)
  put_still run number ask question kind commit put =
      let grown = grows.entries run number put.entry put.logged in (
        record {
          entry = grown.0;
          logged = grown.1;
          same_ask = grown.2.ask ∙ put.same_ask;
          same_question = grown.2.question ∙ put.same_question;
          same_kind = grown.2.kind ∙ put.same_kind;
          same_commit = grown.2.commit ∙ put.same_commit;
        },
        grown.2.settled,
      )

  pub right_still : (run ask : ℕ) (question : Question) (desk : DeskState) (reply : Reply)
      → IsRight before run ask question desk reply → IsRight after run ask question desk reply
  right_still run ask question desk (Judged verdict) right = right
  right_still run ask question desk (FromAgent commit kind number allowed) right =
      let now = put_still run number ask question kind commit right.1.0 in
      (right.0, (now.0, now.1 (ap is_open right.1.1) ∙ right.1.1))
  right_still run ask question desk (NotResolved commit kind) right = right
  right_still run ask question desk (NoAgent commit kind) right = right
  right_still run ask question desk (AgentGone commit number) right =
      let now = put_still run number ask question right.0 commit right.2.0 in
      (right.0, right.1, (now.0, now.1 (ap is_open right.2.1) ∙ right.2.1))
  right_still run ask question desk (AgentFull commit kind most) right = right

  pub sound_still : (run ask : ℕ) (reply : Reply) → IsSound before run ask reply → IsSound after run ask reply
  sound_still run ask reply sound = record {
    fresh = fresh_still ask (commit_of reply) sound.fresh;
    right = right_still run ask sound.fresh.asked.question sound.fresh.desk reply sound.right;
  }

  pub left_still : (ask commit : ℕ) (kind : Kind) → IsLeft before ask commit kind → IsLeft after ask commit kind
  left_still ask commit kind left = record { fresh = fresh_still ask commit left.fresh; leaves = left.leaves }

  -- ---- a link that is as it was

  pub between_still : (entered : Option ℕ) (commit : ℕ) → IsBetween before entered commit
      → IsBetween after entered commit
  between_still entered commit between = record { low = between.low; high = omega (arith, between.high, grows.published) }

  carry : (entered : Option ℕ) (floor : ℕ) → floor ≤ unwrap_or entered before.acknowledged
      → floor ≤ unwrap_or entered after.acknowledged
  carry None floor low = omega (arith, grows.acknowledged)
  carry (Some commit) floor low = low

  pub carried_still : (entered : Option ℕ) (ask : ℕ) → IsCarried before entered ask → IsCarried after entered ask
  carried_still entered ask carried = record {
    asked = carried.asked;
    asks = begins-get before.asks after.asks ask carried.asked grows.asks carried.asks;
    floor = carry entered carried.asked.floor carried.floor;
  }

  pub read_still : (run : ℕ) (entered : Option ℕ) (ask : ℕ) (reading : Reading) → IsRead before run entered ask reading
      → IsRead after run entered ask reading
  read_still run entered ask Nothing read = tt
  read_still run entered ask (Ready reply) read =
      (sound_still run ask reply read.0, between_still entered (commit_of reply) read.1)
  read_still run entered ask (Due commit kind metadata) read =
      (left_still ask commit kind read.0, between_still entered commit read.1)
  read_still run entered ask (Waiting commit kind number) read = (
    record { fresh = fresh_still ask commit read.0.fresh; leaves = read.0.leaves },
    between_still entered commit read.1,
    (put_still run number ask read.0.fresh.asked.question kind commit read.2).0,
  )

  pub sent_still : (run : ℕ) (entered : Option ℕ) (transit : Transit) → IsSent before run entered transit
      → IsSent after run entered transit
  sent_still run entered transit sent = record {
    sound = sound_still run transit.ask transit.reply sent.sound;
    between = between_still entered (commit_of transit.reply) sent.between;
    carried = carried_still entered transit.ask sent.carried;
  }

  pub link_still : (link : Link) → IsLink before link → IsLink after link
  link_still link is = record {
    first = λ commit e. subst (λ (first : DeskState). first.commit ≤ commit) (sym grows.first) (is.first commit e);
    seen = λ commit e. between_still link.entered link.seen (is.seen commit e);
    question = λ ask e. carried_still link.entered ask (is.question ask e);
    reading = λ ask e. read_still link.run link.entered ask link.reading (is.reading ask e);
    reply = λ transit e. sent_still link.run link.entered transit (is.reply transit e);
    unasked = is.unasked;
    not_entered = is.not_entered;
  }

  pub links_still : (links : List Link) → All (IsLink before) links → All (IsLink after) links
  links_still links all = All-weaker (IsLink before) (IsLink after) link_still links all

  -- ---- a client that is as it was, though its link may have changed

  -- where the link entered, it is there still
  known_still : (was now : Option ℕ) (known : Known) → now ≡ was → IsKnown before was known → IsKnown after now known
  known_still was now known same is = record {
    desk = is.desk;
    committed = desk_still known.verdict.commit is.desk is.committed;
    between = record {
      low = subst (λ entered. unwrap_or entered 0 ≤ known.verdict.commit) (sym same) is.between.low;
      high = omega (arith, is.between.high, grows.published);
    };
    answer = is.answer;
  }

  -- a link that had not entered belongs to an empty cache
  log_still : (was now : Option ℕ) (log : List Known) → ((commit : ℕ) → was ≡ Some commit → now ≡ Some commit)
      → (was ≡ None → log ≡ []) → All (IsKnown before was) log → All (IsKnown after now) log
  log_still None now log kept empty all =
      subst (λ log. All (IsKnown after now) log) (sym (empty refl)) (All-nil (IsKnown after now))
  log_still (Some commit) now log kept empty all =
      All-weaker (IsKnown before (Some commit)) (IsKnown after now)
      (λ known. known_still (Some commit) now known (kept commit refl)) log all

  not_entered_before : (was now : Option ℕ) → ((commit : ℕ) → was ≡ Some commit → now ≡ Some commit) → now ≡ None
      → was ≡ None
  not_entered_before None now kept is = refl
  not_entered_before (Some commit) now kept is = absurd (none-some commit (sym is ∙ kept commit refl))

  pub has_link_still : (log : List Known) (place : ℕ) → HasLink before log place → HasLink after log place
  has_link_still log place has =
      let grown = grows.links place has.link has.there in
      record {
        link = grown.0;
        there = grown.1;
        known = log_still has.link.entered grown.0.entered log grown.2.entered has.not_entered has.known;
        not_entered = λ now. has.not_entered (not_entered_before has.link.entered grown.0.entered grown.2.entered now);
      }

  pub client_still : (client : Client) → IsClient before client → IsClient after client
  client_still client is = record {
    told = omega (arith, is.told, grows.acknowledged);
    asking = λ ask e.
        let there = is.asking ask e in (there.0, begins-get before.asks after.asks ask there.0 grows.asks there.1);
    link = λ place e. has_link_still client.log place (is.link place e);
    no_link = is.no_link;
  }

  pub given_still : (given : List Given) → All (λ (given : Given). IsSound before given.run given.ask given.reply) given
      → All (λ (given : Given). IsSound after given.run given.ask given.reply) given
  given_still given all =
      All-weaker (λ (given : Given). IsSound before given.run given.ask given.reply)
      (λ (given : Given). IsSound after given.run given.ask given.reply)
      (λ given. sound_still given.run given.ask given.reply) given all
