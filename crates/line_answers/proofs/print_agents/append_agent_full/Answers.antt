use Rattle.std.proofs.Common.{◌≡◌, ℕ, ◌++◌, decimal, codes, OnOk, subst, rules}
use Rattle.line_answers.specs.Answers.{agent_full_text}
use Rattle.line_answers.proofs.Appended.{piece_then, on_ok-map}
use Rattle.line_answers.proofs.print_agents.append_agent_full.Goals as goal

pub returns-clause-ok : goal.returns-clause-ok
unfolding agent_full_text
returns-clause-ok c =
    let same : c.from.result ≡ c.args.kind.0 = search rules in
    let Last : ℕ → Type 0 = λ kind. OnOk c.append_last_numbers.result
    (c.append_last_numbers.new.out ≡ c.append-2.new.self ++ (decimal kind ++ (codes " " ++ (decimal c.args.most ++ codes "\n")))) in
    let last = decimal c.args.kind.0 ++ (codes " " ++ (decimal c.args.most ++ codes "\n")) in
    on_ok-map c.append_last_numbers.result
    (λ is. piece_then _ _ _ (codes "agent-full ")
    (decimal c.args.commit ++ (codes " " ++ last)) c.in_ok-append.ensures.ok
    (piece_then _ _ _ (decimal c.args.commit) (codes " " ++ last) c.in_ok-append_number.ensures.ok
    (piece_then _ _ _ (codes " ") last c.in_ok-append-2.ensures.ok is)))
    (subst Last same c.append_last_numbers.ensures.ok)
