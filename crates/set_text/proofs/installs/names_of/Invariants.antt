use Rattle.std.proofs.Common.{◌≡◌, ◌++◌, true, length}
use Rattle.set_text.specs.Lines.{fields_of}
use Rattle.set_text.specs.Registry.{are_privileges}
use Rattle.set_text.proofs.installs.names_of.Given as goal

-- the names so far are privileges, and with the fields that are left they are those of the text
abbrev pub invariant-loop-field : goal.invariant-loop-field
invariant-loop-field l = record {
  known : are_privileges l.names.items ≡ true;
  taken : l.names.items ++ fields_of l.rest ≡ fields_of l.text;
}

abbrev pub decreases-loop-field : goal.decreases-loop-field
decreases-loop-field l = length l.rest
