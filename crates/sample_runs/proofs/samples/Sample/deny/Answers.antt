use Rattle.std.proofs.Common.{◌≡◌, ℕ, ◌%◌, nat_eq, Bool, true, cond, List, [], ◌∷◌, eq-eqb, sym, ap, ◌∙◌, subst}
use Rattle.sample_runs.specs.Lines.{deny_line, denial}
use Rattle.sample_runs.specs.Sample.{follow_line}
use Rattle.sample_runs.specs.parts.Following.{stand_of, Goes}
use Rattle.sample_runs.proofs.samples.Sample.deny.Goals as goal

pub returns-in-Ok : goal.returns-in-Ok
returns-in-Ok c =
    let app = c.args.app in
    let third : nat_eq (app % 3) 0 ≡ true = eq-eqb (app % 3) 0 c.if-app-ne0.false in
    let lines : c.put_deny.new.line ∷ [] ≡ denial app =
    ap (λ (line : List ℕ). line ∷ []) c.in-Ok.ensures
    ∙ ap (λ (b : Bool). cond b (deny_line app ∷ []) []) (sym third) in
    subst (λ (lines : List (List ℕ)). Goes follow_line lines (stand_of c.args.self.now)
    (stand_of c.follow.new.self) c.follow.result)
    lines c.follow.ensures
