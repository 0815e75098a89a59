-- Fields of a line of a data base, with a semicolon behind each but the last.
use Rattle.std.specs.Prelude.{ℕ, List, ◌∷◌, ◌++◌}
use Rattle.ctl_import.specs.declared.fields.Ruling.{Ruling}
use Rattle.ctl_import.specs.declared.policies.Row.{Row}

-- a field, and what stands behind the semicolon that follows it
abbrev pub then_field : List ℕ → List ℕ → List ℕ
then_field field rest = field ++ 59 ∷ rest

-- a kind, which is written so, and metadata
abbrev pub ruling_text : List ℕ → Ruling → List ℕ
ruling_text kind ruling = then_field kind ruling.metadata.now

-- `CLIENT;USER;PRIVILEGE;KIND;METADATA`
abbrev pub row_text : List ℕ → Row → List ℕ
row_text kind row =
    then_field row.client.now (then_field row.user.now (then_field row.privilege.now (ruling_text kind row.ruling)))
