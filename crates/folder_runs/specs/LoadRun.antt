-- What a run of `smack-load` answers by the time that it ends.
use Rattle.std.specs.Prelude.{◌≡◌, ◌⊎◌, ℕ, List, []}
use Rattle.std.specs.List.{flat_map}
use Rattle.desk_ports.specs.Disk.{WhereTold}
use Rattle.desk_state.specs.DeskState.{DeskState}
use Rattle.set_text.specs.Files.{load_files}
use Rattle.run_endings.specs.Outside.{DiskSeen}
use Rattle.run_endings.specs.Saying.{Said}
use Rattle.folder_runs.specs.Folder.{RefusesFolder, KeepsFolder}
use Rattle.run_endings.specs.declared.endings.Ending.{Ending}
use Rattle.run_endings.specs.declared.endings.Ending.TheVariants.{Done, Memory, Sink}

-- the Smack rules of all packages, in the order of their names, a line each
abbrev pub loads_text : DeskState → List ℕ
loads_text desk = flat_map (λ file. file.bytes) (load_files desk)

-- the answer, for each way in which the run ends
abbrev pub LoadAnswers : DeskState → Ending → List ℕ → Type 0
LoadAnswers start Done answers = answers ≡ loads_text start
LoadAnswers start Sink answers = answers ≡ loads_text start
LoadAnswers start Memory answers = answers ≡ []
LoadAnswers start ending answers = ⊥

-- The folder was mounted, and stood for this state; nothing but the mount changed it.
pub record LoadsRules (said : Said) (ending : Ending) (before after : DiskSeen) : Type 0 where
  pub start : DeskState
  pub answered : LoadAnswers start ending said.due
  pub folder : WhereTold before.state (λ entry. KeepsFolder entry before after ending start [] [])

abbrev pub RunsLoad : Said → Ending → DiskSeen → DiskSeen → Type 0
RunsLoad said ending before after = RefusesFolder said ending before after ⊎ LoadsRules said ending before after
