-- What a refusal to read a set of files says of the set.
use Rattle.std.specs.Prelude.{◌≡◌, Result, Err}
use Rattle.set_text.specs.declared.refusals.TextRefusal.{TextRefusal}
use Rattle.set_text.specs.declared.refusals.TextRefusal.TheVariants.{Damaged, Memory}
use Rattle.set_text.specs.Fault.{Fault}

-- The refusal names the first fault of what is read. Want of memory says nothing of it.
abbrev pub Refuses : {X : Type 0} → TextRefusal → Result X Fault → Type 0
Refuses (Damaged file line) read = read ≡ Err (record { file = file; line = line })
Refuses (Memory error) read = Unit {0}
