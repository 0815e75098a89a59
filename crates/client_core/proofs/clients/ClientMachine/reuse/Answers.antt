use Rattle.std.proofs.Common.{◌≡◌, sym, subst, true, rules}
use Rattle.answer_cache.specs.Cache.{asked_in}
use Rattle.client_core.specs.Client.{Client}
use Rattle.client_core.specs.Asking as does
use Rattle.client_core.proofs.Staging.{client}
use Rattle.client_core.proofs.Recalling.{reuses}
use Rattle.client_core.proofs.clients.ClientMachine.reuse.Goals as goal

pub returns : goal.returns
returns c =
    let inside = c.self.inside in
    let of = client inside.cache inside.sequence inside.frame inside.is_linked inside.stage in
    let new = client c.has_answer.new.self inside.sequence inside.frame inside.is_linked inside.stage in
    let asked = asked_in c.args.session.now c.args.question.now in
    let now : does.is_ready c.args.self.now ≡ true = search rules in
    let ready = subst (λ (k : Client). does.is_ready k ≡ true) (sym c.self.view_is) now in
    subst (λ (old : Client). does.Reuses c.has_answer.result asked old new) c.self.view_is
    (reuses of c.has_answer.new.self ready asked c.has_answer.result c.has_answer.ensures.answer c.has_answer.ensures.first
    c.has_answer.ensures.same)
