use Rattle.std.proofs.Common.{◌++◌, decimal, codes}
use Rattle.line_answers.specs.Answers.{agent_gone_text}
use Rattle.line_answers.proofs.Appended.{piece_then, on_ok-map}
use Rattle.line_answers.proofs.print_agents.append_agent_gone.Goals as goal

pub returns-clause-ok : goal.returns-clause-ok
unfolding agent_gone_text
returns-clause-ok c =
    on_ok-map c.append_last_numbers.result
    (piece_then _ _ _ (codes "agent-gone ")
    (decimal c.args.commit ++ (codes " " ++ (decimal c.args.number ++ codes "\n"))) c.in_ok-append.ensures.ok)
    c.append_last_numbers.ensures.ok
