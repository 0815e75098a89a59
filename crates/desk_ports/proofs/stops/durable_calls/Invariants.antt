use Rattle.std.proofs.Common.{◌≡◌, ◌≤◌, List, take}
use Rattle.desk_ports.specs.DiskCalls.{after_calls}
use Rattle.desk_ports.specs.declared.file_sets.SetFile.{SetFile}
use Rattle.desk_ports.proofs.stops.durable_calls.Given as goal

abbrev pub invariant-loop-at : goal.invariant-loop-at
invariant-loop-at l =
    record {
      within : l.durable ≤ l.at;
      durable : (files : List SetFile) → (after_calls files (take l.at l.calls)).durable ≡ (after_calls files (take l.durable l.calls)).current;
    }
