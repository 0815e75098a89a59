use Rattle.std.proofs.Common.{rules, sym, ap, subst, ℕ}
use Rattle.crossbeam_queue.specs.Passes.{view}
use Rattle.monitor_rule.specs.declared.knowing.View.{View}
use Rattle.monitor_rule.specs.Steps.{AreAllJoined}
use Rattle.monitor_rule.proofs.Steps.{takes-last, reads-told}
use Rattle.check_monitor.specs.Monitor.{ReaderState, Cover}
use Rattle.check_monitor.proofs.Settling.{all_joined, known_some, known_none, whole_some, whole_none}
use Rattle.check_monitor.proofs.readers.Reader.settle.Goals as goal

pub pop_as-requires-clause-rule : goal.pop_as-requires-clause-rule
pop_as-requires-clause-rule g c =
    let known = c.self.invariant.1 in
    let joined = c.joined-pass.ensures.joined in
    let cover = subst (λ (n : ℕ). Cover n c.args.recorders.items) (sym (ap (λ (reader : ReaderState). reader.made) c.self.view_is)) c.requires.all in
    let all = all_joined c.args.recorders.items (view c.self.inside.pass) known.2 cover in
    (takes-last _ _ (search rules) (search rules) (subst (λ (v : View). AreAllJoined v) (sym joined) all), reads-told _ _ (search rules))

pub returns-in-Some-clause-whole : goal.returns-in-Some-clause-whole
returns-in-Some-clause-whole g c =
    whole_some c.args.recorders.items (view c.self.inside.pass) _ _ _ _ _ c.self.invariant.1.2 (ap (λ (reader : ReaderState). reader.handed) c.self.view_is)
    c.joined-pass.ensures.joined c.in-Some.ensures.rule c.behind.ensures

pub returns-in-None-clause-whole : goal.returns-in-None-clause-whole
returns-in-None-clause-whole g c =
    whole_none c.args.recorders.items (view c.self.inside.pass) _ _ _ c.self.invariant.1.2 (ap (λ (reader : ReaderState). reader.handed) c.self.view_is)
    c.joined-pass.ensures.joined c.in-None.ensures.rule.1 c.empty.ensures

pub returns-in-Some-clause-known : goal.returns-in-Some-clause-known
returns-in-Some-clause-known g c =
    known_some c.args.recorders.items (view c.self.inside.pass) _ _ _ _ _ (ap (λ (reader : ReaderState). reader.made) c.self.view_is)
    c.joined-pass.ensures.joined c.in-Some.ensures.rule c.behind.ensures

pub returns-in-None-clause-known : goal.returns-in-None-clause-known
returns-in-None-clause-known g c = known_none _ _ c.empty.ensures
