-- What is asked of the numbers of a row.
use Rattle.std.specs.Prelude.{ℕ, Bool, true, ◌==◌, ◌&&◌, Option, Some, None}
use Rattle.lane_scan.specs.Rows.{Row}
use Rattle.lane_scan.specs.Asked.{speaks_of}
use Rattle.lane_scan.specs.declared.tests_of_rows.PlaceTest.{PlaceTest}
use Rattle.lane_scan.specs.declared.tests_of_rows.PlaceTest.TheVariants.{Any, Is, IsOrWildcard}
use Rattle.lane_scan.specs.declared.tests_of_rows.RowTest.{RowTest}

abbrev pub passes : PlaceTest → ℕ → Bool
passes Any number = true
passes (Is wanted) number = number == wanted
passes (IsOrWildcard wanted) number = speaks_of wanted number

-- what is asked of a place that may hold a number
abbrev pub wanted_test : Option ℕ → PlaceTest
wanted_test (Some wanted) = Is wanted
wanted_test None = Any

abbrev pub meets : RowTest → Row → Bool
meets test row = passes test.client row.client && (passes test.user row.user && passes test.privilege row.privilege)
