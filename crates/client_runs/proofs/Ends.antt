-- How a run may end, by what is said of the answer.
use Rattle.std.proofs.Common.{◌≡◌, ℕ, List, Result, Ok, Err, sym, subst}
use Rattle.run_endings.specs.Saying.{Said}
use Rattle.run_endings.specs.declared.endings.Ending.{Ending}
use Rattle.run_endings.specs.declared.endings.Ending.TheVariants.{Done, Memory, Sink, Net, Reply}
use Rattle.cynara_client.specs.declared.refusals.Checked.{Checked}
use Rattle.cynara_client.specs.declared.refusals.ClientRefusal.{ClientRefusal}
use Rattle.cynara_client.specs.declared.refusals.ClientRefusal.TheVariants as refusal
use Rattle.client_runs.specs.AnswerLine.{SaysLine, Says}
use Rattle.client_runs.specs.CheckRun.{EndsCheck}

by-line : (line : List ℕ) (said : Said) (ending : Ending) → SaysLine (Ok line) said ending → EndsCheck ending
by-line line said Done says = tt
by-line line said Memory says = tt
by-line line said Sink says = tt
by-line line said Net says = tt
by-line line said Reply says = tt
by-line line said ending says = absurd says

by-ending : (wanted ending : Ending) → ending ≡ wanted → EndsCheck wanted → EndsCheck ending
by-ending wanted ending is ends = subst EndsCheck (sym is) ends

pub ends : (answer : Result Checked ClientRefusal) (said : Said) (ending : Ending) → Says answer said ending → EndsCheck ending
ends (Ok checked) said ending says = by-line _ said ending says
ends (Err (refusal.NotResolved commit kind)) said ending says = by-line _ said ending says
ends (Err (refusal.NoAgent commit kind)) said ending says = by-line _ said ending says
ends (Err (refusal.AgentGone commit number)) said ending says = by-line _ said ending says
ends (Err (refusal.AgentFull commit kind most)) said ending says = by-line _ said ending says
ends (Err refusal.Unavailable) said ending says = by-ending Net ending says.0 tt
ends (Err (refusal.Older told got)) said ending says = by-ending Reply ending says.0 tt
ends (Err (refusal.BadReply fault)) said ending says = by-ending Reply ending says.0 tt
ends (Err (refusal.Memory error)) said ending says = by-ending Memory ending says.0 tt
