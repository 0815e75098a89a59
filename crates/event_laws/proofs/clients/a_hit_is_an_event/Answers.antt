use Rattle.std.proofs.Common.{◌≡◌, ◌∙◌, ap, subst, sym}
use Rattle.answer_cache.specs.Cache.{Cache, used}
use Rattle.cynara_client.specs.State.{State}
use Rattle.desk_world.specs.World.{client_of}
use Rattle.desk_world.specs.Clients.{given}
use Rattle.desk_world.specs.declared.events.Event.TheVariants.{Hit}
use Rattle.desk_world.specs.declared.replies.Reply.TheVariants.{Judged}
use Rattle.event_laws.specs.Happens.{Happens}
use Rattle.event_laws.specs.Caching.{CacheStands}
use Rattle.event_laws.proofs.Caches.{hits}
use Rattle.event_laws.proofs.clients.a_hit_is_an_event.Goals as goal

-- the cache, once its link was found up and the entry was used
pub returns : goal.returns
returns g c old new key world client ask link found result stands asking up hit =
    let hit_so = hits world client ask link found key asking old.cache hit.verdict stands up hit.found in
    let between : hit.between.cache ≡ old.cache = ap (λ (s : State _ _). s.cache) hit.up.now in
    let now : new.cache ≡ used key old.cache =
    ap (λ (s : State _ _). s.cache) hit.now ∙ ap (λ (cache : Cache). used key cache) between in (
      hit.verdict,
      hit_so.0,
      hit.is,
      subst (λ (cache : Cache). Happens (Hit client hit_so.0) world (λ next.
          (next ≡ given client ask found.run (Judged hit.verdict) world) × CacheStands cache (client_of next client)))
          (sym now) hit_so.1,
    )
