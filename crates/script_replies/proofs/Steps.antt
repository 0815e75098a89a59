-- Steps done one after another: the answers and the states that they lead to.
use Rattle.std.proofs.Common.{◌≡◌, ◌≤◌, ◌<◌, ◌⊎◌, inl, inr, ℕ, zero, suc, Bool, true, false, nat_lt, List, [], ◌∷◌}
use Rattle.std.proofs.Common.{◌++◌, length, take, refl, sym, ap, ◌∙◌, subst, arith, append_assoc, append-nil}
use Rattle.std.proofs.Common.{length-append}
use Rattle.std.proofs.lemmas.Bool.{ltb-true, ltb-false}
use Rattle.std.proofs.lemmas.List.{take_all, take-append-le}
use Rattle.desk_state.specs.DeskState.{DeskState}
use Rattle.line_script.specs.declared.steps.Step.{Step}
use Rattle.private_sharing.specs.declared.shares.Share.{Share}
use Rattle.script_replies.specs.Reply.{reply, after, shares_after}
use Rattle.script_replies.specs.Script.{replies, state_after, shares_behind, AreInTurn}

pub state_after-then : (start : DeskState) (steps more : List Step)
    → state_after start (steps ++ more) ≡ state_after (state_after start steps) more
state_after-then start [] more = refl
state_after-then start (step ∷ steps) more = state_after-then (after start step) steps more

pub shares_behind-then : (start : DeskState) (shares : List Share) (steps more : List Step)
    → shares_behind start shares (steps ++ more)
    ≡ shares_behind (state_after start steps) (shares_behind start shares steps) more
shares_behind-then start shares [] more = refl
shares_behind-then start shares (step ∷ steps) more =
    shares_behind-then (after start step) (shares_after start shares step) steps more

replies-then : (start : DeskState) (shares : List Share) (steps more : List Step)
    → replies start shares (steps ++ more)
    ≡ replies start shares steps ++ replies (state_after start steps) (shares_behind start shares steps) more
replies-then start shares [] more = refl
replies-then start shares (step ∷ steps) more =
    let desk = after start step in
    let open_ = shares_after start shares step in
    ap (λ texts. reply start shares step ++ texts) (replies-then desk open_ steps more)
    ∙ sym (append_assoc (reply start shares step) (replies desk open_ steps)
    (replies (state_after desk steps) (shares_behind desk open_ steps) more))

-- one step more
pub replies-next : (start : DeskState) (shares : List Share) (steps : List Step) (step : Step)
    → replies start shares (steps ++ step ∷ [])
    ≡ replies start shares steps ++ reply (state_after start steps) (shares_behind start shares steps) step
replies-next start shares steps step =
    replies-then start shares steps (step ∷ [])
    ∙ ap (λ text. replies start shares steps ++ text)
    (append-nil (reply (state_after start steps) (shares_behind start shares steps) step))

replies-front : (n : ℕ) (start : DeskState) (shares : List Share) (steps : List Step)
    → length (replies start shares (take n steps)) ≤ length (replies start shares steps)
replies-front zero start shares steps = omega arith
replies-front (suc n) start shares [] = omega arith
replies-front (suc n) start shares (step ∷ steps) =
    let desk = after start step in
    let open_ = shares_after start shares step in
    omega (
      arith,
      replies-front n desk open_ steps,
      length-append (reply start shares step) (replies desk open_ (take n steps)),
      length-append (reply start shares step) (replies desk open_ steps),
    )

-- the first few of these steps are the first few of more
pub take-front : (n : ℕ) (steps more : List Step) → (m : ℕ) × (take m (steps ++ more) ≡ take n steps)
take-front zero steps more = (0, refl)
take-front (suc n) [] more = (0, refl)
take-front (suc n) (step ∷ steps) more =
    let front = take-front n steps more in (suc front.0, ap (λ steps. step ∷ steps) front.1)

-- ---- answers in turn

pub in-turn-none : (start : DeskState) (written : List ℕ) → AreInTurn start [] written
in-turn-none start written zero short = refl
in-turn-none start written (suc n) short = refl

-- more is written
pub in-turn-more : (start : DeskState) (steps : List Step) (written more : List ℕ) → AreInTurn start steps written
    → AreInTurn start steps (written ++ more)
in-turn-more start steps written more in_turn n short =
    in_turn n (omega (arith, short, length-append written more))

-- one step more, which changes nothing, or before which all answers are written
pub in-turn-next : (start : DeskState) (steps : List Step) (step : Step) (written : List ℕ)
    → AreInTurn start steps written
    → ((after (state_after start steps) step ≡ state_after start steps) ⊎ (length (replies start [] steps) ≤ length written))
    → AreInTurn start (steps ++ step ∷ []) written
in-turn-next start steps step written in_turn changes n short = by_place (nat_lt (length steps) n) refl
  where
    all : state_after start (steps ++ step ∷ []) ≡ after (state_after start steps) step
    all = state_after-then start steps (step ∷ [])

    within : take n (steps ++ step ∷ []) ≡ take n steps
        → ((after (state_after start steps) step ≡ state_after start steps) ⊎ (length (replies start [] steps) ≤ length written))
        → state_after start (take n (steps ++ step ∷ [])) ≡ state_after start (steps ++ step ∷ [])
    within front (inl same) =
        ap (state_after start) front
        ∙ (in_turn n (subst (λ steps. length written < length (replies start [] steps)) front short) ∙ sym (all ∙ same))
    within front (inr written_all) =
        absurd (omega (
          arith,
          subst (λ steps. length written < length (replies start [] steps)) front short,
          replies-front n start [] steps,
          written_all,
        ))

    by_place : (past : Bool) → nat_lt (length steps) n ≡ past
        → state_after start (take n (steps ++ step ∷ [])) ≡ state_after start (steps ++ step ∷ [])
    by_place true is =
        ap (state_after start)
        (take_all n (steps ++ step ∷ []) (omega (arith, ltb-true (length steps) n is, length-append steps (step ∷ []))))
    by_place false is =
        within (take-append-le n steps (step ∷ []) (omega (arith, ltb-false (length steps) n is))) changes
