use Rattle.std.proofs.Common.{◌≡◌, ◌++◌, take}
use Rattle.std.specs.List.{flat_map}
use Rattle.folder_runs.proofs.load_runs.append_files.Given as goal

-- the bytes of the files so far stand behind what stood there
abbrev pub invariant-loop-file : goal.invariant-loop-file
invariant-loop-file l = l.text ≡ l.fn.text ++ flat_map (λ file. file.bytes) (take l.file-index l.files)
