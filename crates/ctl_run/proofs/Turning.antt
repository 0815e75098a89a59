-- One line more: what is left makes of the state behind it what all of it makes of the state before.
use Rattle.std.proofs.Common.{◌≡◌, ◌∙◌, ℕ, Bool, List, [], ◌∷◌, Option, Some, None, ap, sym, refl, subst, false, true}
use Rattle.std.specs.Prelude.{option_and_then, if◌then◌else◌}
use Rattle.text_lines.specs.Lines.{lines_of}
use Rattle.line_script.specs.Block.{Block}
use Rattle.line_script.specs.Grammar.{step_at}
use Rattle.line_script.specs.Turn.{is_in_block}
use Rattle.desk_state.specs.DeskState.{DeskState}
use Rattle.ctl_run.specs.Behind.{after, state_behind, RunsLine}

pub turned : (block block_after : Block) (desk desk_after : DeskState) (line : List ℕ) (lines all : List (List ℕ)) → all ≡ line ∷ lines
    → RunsLine block desk line block_after desk_after → state_behind block desk all ≡ state_behind block_after desk_after lines
turned block block_after desk desk_after line lines all is runs =
    ap (state_behind block desk) is
    ∙ ap (option_and_then (λ read. state_behind read.0 (after desk read.1) lines)) runs.1
    ∙ ap (λ made. state_behind block_after made lines) (sym runs.2)

pub ended : (block : Block) (desk : DeskState) (all : List (List ℕ)) → all ≡ [] → is_in_block block ≡ false → state_behind block desk all ≡ Some desk
ended block desk all is outside =
    ap (state_behind block desk) is
    ∙ ap (λ (b : Bool). if b then None else Some desk) outside
