-- A question is put to the machine.
use Rattle.std.specs.Prelude.{◌≡◌, ℕ, Bool, List}
use Rattle.std.specs.declared.alloc.AllocError.{AllocError}
use Rattle.cynara_keys.specs.Key.{Question}
use Rattle.client_core.specs.Client.{Client}
use Rattle.client_core.specs.Asking as does
use Rattle.client_core.specs.declared.stages.Stage.TheVariants as stage
use Rattle.client_core.specs.declared.steps.Step.{Step}
use Rattle.client_core.specs.declared.steps.Step.TheVariants as step
use Rattle.client_core.specs.declared.steps.Fault.TheVariants as fault

-- It is asked; or no memory was found for the question, and the machine gave the connection up.
pub data Puts (session : List ℕ) (question : Question) (simple : Bool) (answer : Step) (old new : Client) : Type 0 where
  asked : does.Asks session question simple answer old new → Puts session question simple answer old new
  lacks : (error : AllocError) → answer ≡ step.Over (fault.Memory error) → new ≡ does.left old
      → Puts session question simple answer old new

-- and the machine is told whether the link is up
pub data PutsAndLooks (session : List ℕ) (question : Question) (simple is_up : Bool) (answer : Step)
    (old new : Client) : Type 0 where
  looked : (mid : Client) → mid ≡ record old { stage = stage.Looking (does.first_try session question simple) }
      → does.Looks is_up answer mid new → PutsAndLooks session question simple is_up answer old new
  lacks : (error : AllocError) → answer ≡ step.Over (fault.Memory error) → new ≡ does.left old
      → PutsAndLooks session question simple is_up answer old new
