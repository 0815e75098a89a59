-- The promise, from what every world keeps.
use Rattle.std.proofs.Common.{◌≡◌, ℕ, ◌≤◌, [], ◌∷◌, ◌++◌, length, Some, sym, ap, subst, ◌∙◌, arith}
use Rattle.std.specs.Prelude.{slice_get}
use Rattle.std.proofs.lemmas.List.Elements.{All-weaker}
use Rattle.std.proofs.lemmas.Option.{same_Some}
use Rattle.std.proofs.Math.Nat.{le-max_left, le-max_right}
use Rattle.cynara_keys.specs.Key.{Question}
use Rattle.desk_state.specs.DeskState.{DeskState}
use Rattle.desk_world.specs.World.{World, fresh, client_of}
use Rattle.desk_world.specs.Clients.{new_ask, asked}
use Rattle.desk_world.specs.Sound.{IsRight, IsSound}
use Rattle.desk_world.specs.Headline.{IsVerdictAt, IsVerdict, Freshness}
use Rattle.desk_world.specs.declared.links.Asked.{Asked}
use Rattle.desk_world.specs.declared.replies.Given.{Given}
use Rattle.desk_world.specs.declared.replies.Reply.{Reply}
use Rattle.desk_world.specs.declared.replies.Reply.TheVariants.{Judged, FromAgent, NotResolved, NoAgent, AgentGone, AgentFull}
use Rattle.desk_world.proofs.Lists.{get-end, begins-get}
use Rattle.desk_world.proofs.steps.Asking.{ask-step}
use Rattle.desk_world.proofs.Runs.{fresh_is, run-steps}

verdict_from : (w : World) (run ask : ℕ) (question : Question) (desk : DeskState) (reply : Reply)
    → IsRight w run ask question desk reply → IsVerdictAt w run ask question desk reply
verdict_from w run ask question desk (Judged verdict) right = right
verdict_from w run ask question desk (FromAgent commit kind number allowed) right = right
verdict_from w run ask question desk (NotResolved commit kind) right = tt
verdict_from w run ask question desk (NoAgent commit kind) right = tt
verdict_from w run ask question desk (AgentGone commit number) right = tt
verdict_from w run ask question desk (AgentFull commit kind most) right = tt

-- a sound reply to an ask whose floor is not below this commit
verdict_of : (w : World) (one : Asked) (oldest : ℕ) (given : Given) → slice_get w.asks given.ask ≡ Some one
    → oldest ≤ one.floor → IsSound w given.run given.ask given.reply → IsVerdict w oldest one.question given
verdict_of w one oldest given there low sound =
    let same : sound.fresh.asked ≡ one = same_Some sound.fresh.asked one (sym sound.fresh.asks ∙ there) in
    let floor = ap (λ (asked : Asked). asked.floor) same in
    record {
      desk = sound.fresh.desk;
      committed = sound.fresh.committed;
      no_older = omega (arith, low, floor, sound.fresh.no_older);
      verdict =
          verdict_from w given.run given.ask one.question sound.fresh.desk given.reply
          (subst (λ (asked : Asked). IsRight w given.run given.ask asked.question sound.fresh.desk given.reply) same sound.right);
    }

pub freshness : Freshness
freshness desk earlier later client question simple before after first second =
    let kept = (run-steps earlier (fresh desk) before (fresh_is desk) first).kept in
    let step = ask-step before kept client question simple in
    let rest = run-steps later (asked client question simple before) after step.kept second in
    let new : Asked = new_ask client question simple before in
    let there = begins-get (before.asks ++ new ∷ []) after.asks (length before.asks) new rest.grows.asks
    (get-end before.asks new) in
    All-weaker (λ (given : Given). IsSound after given.run given.ask given.reply)
    (λ (given : Given).
    given.ask ≡ length before.asks
    → IsVerdict after before.acknowledged question given × IsVerdict after (client_of before client).told question given)
    (λ given sound mine.
    let here = subst (λ ask. slice_get after.asks ask ≡ Some new) (sym mine) there in (
      verdict_of after new before.acknowledged given here
          (le-max_left before.acknowledged (client_of before client).told) sound,
      verdict_of after new (client_of before client).told given here
          (le-max_right before.acknowledged (client_of before client).told) sound,
    ))
    after.given rest.kept.given
