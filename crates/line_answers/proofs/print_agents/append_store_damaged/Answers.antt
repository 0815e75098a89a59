use Rattle.std.proofs.Common.{◌≡◌, ℕ, ◌++◌, decimal, codes, subst, rules}
use Rattle.line_answers.specs.Answers.{store_damaged_text}
use Rattle.line_answers.proofs.Appended.{piece_then, on_ok-map}
use Rattle.line_answers.proofs.print_agents.append_store_damaged.Goals as goal

pub returns-clause-ok : goal.returns-clause-ok
unfolding store_damaged_text
returns-clause-ok c =
    let same : c.from.result ≡ c.args.line = search rules in
    let Numbered : ℕ → Type 0 = λ line. c.append_number.new.out ≡ c.append-3.new.self ++ decimal line in
    let numbered = decimal c.args.line ++ codes "\n" in
    on_ok-map c.append-4.result
    (λ is. piece_then _ _ _ (codes "store-damaged ")
    (c.args.file.now ++ (codes " " ++ numbered)) c.in_ok-append.ensures.ok
    (piece_then _ _ _ c.args.file.now (codes " " ++ numbered) c.in_ok-append-2.ensures.ok
    (piece_then _ _ _ (codes " ") numbered c.in_ok-append-3.ensures.ok
    (piece_then _ _ _ (decimal c.args.line) (codes "\n") (subst Numbered same c.in_ok-append_number.ensures.ok) is))))
    c.append-4.ensures.ok
