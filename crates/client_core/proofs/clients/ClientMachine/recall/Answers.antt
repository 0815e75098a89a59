use Rattle.std.proofs.Common.{◌≡◌, sym, subst, true, rules}
use Rattle.client_core.specs.Client.{Client}
use Rattle.client_core.specs.Asking as does
use Rattle.client_core.proofs.Staging.{client}
use Rattle.client_core.proofs.Recalling.{recalls}
use Rattle.client_core.proofs.clients.ClientMachine.recall.Goals as goal

pub returns : goal.returns
returns c =
    let inside = c.self.inside in
    let of = client inside.cache inside.sequence inside.frame inside.is_linked inside.stage in
    let new = client c.recall.new.self inside.sequence inside.frame inside.is_linked inside.stage in
    let now : does.is_ready c.args.self.now ≡ true = search rules in
    let ready = subst (λ (k : Client). does.is_ready k ≡ true) (sym c.self.view_is) now in
    subst (λ (old : Client). does.Recalls c.recall.result c.args.text.now old new) c.self.view_is
    (recalls of c.recall.new.self ready c.args.text.now c.recall.result c.recall.ensures)
