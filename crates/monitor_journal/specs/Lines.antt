-- The exact texts of the lines that a run of `watch` writes. Each is one line with its newline.
use Rattle.std.specs.Prelude.{ℕ, ◌+◌, ◌/◌, ◌%◌, Bool, if◌then◌else◌, List, []}
use Rattle.std.specs.Prelude.{◌∷◌, ◌++◌, Option, Some, None, decimal, codes}
use Rattle.cynara_keys.specs.declared.results.Kind.{Kind}
use Rattle.bucket_eval.specs.declared.answers.Cause.{Cause}
use Rattle.bucket_eval.specs.declared.answers.Row.{Row}
use Rattle.monitor_rule.specs.declared.entries.Entry.{Entry}
use Rattle.monitor_rule.specs.declared.moments.Moment.{Moment}

abbrev pub decision_text : Bool → List ℕ
decision_text allowed = if allowed then codes "allow" else codes "deny"

-- `CLIENT USER PRIVILEGE`
unfoldable pub names_text : List ℕ → List ℕ → List ℕ → List ℕ
names_text client user privilege = client ++ (codes " " ++ (user ++ (codes " " ++ privilege)))

-- `RESULT COMMIT CLIENT USER PRIVILEGE`
unfoldable pub answer_text : Bool → ℕ → List ℕ → List ℕ → List ℕ → List ℕ
answer_text allowed commit client user privilege =
    decision_text allowed ++ (codes " " ++ (decimal commit ++ (codes " " ++ names_text client user privilege)))

-- ---- when

-- the digit of a number that counts units of this size
abbrev pub digit : ℕ → ℕ → ℕ
digit size number = 48 + number / size % 10

abbrev pub two_digits : ℕ → List ℕ
two_digits number = digit 10 number ∷ digit 1 number ∷ []

abbrev pub three_digits : ℕ → List ℕ
three_digits number = digit 100 number ∷ two_digits number

abbrev pub four_digits : ℕ → List ℕ
four_digits number = digit 1000 number ∷ three_digits number

-- a moment as the internet writes dates and times, as `2026-12-01T07:46:10.123Z`
abbrev pub moment_text : Moment → List ℕ
moment_text moment = four_digits moment.year
    ++ (codes "-" ++ (two_digits moment.month ++ (codes "-" ++ (two_digits moment.day
    ++ (codes "T" ++ (two_digits moment.hour
    ++ (codes ":" ++ (two_digits moment.minute ++ (codes ":" ++ (two_digits moment.second
    ++ (codes "." ++ (three_digits moment.millisecond ++ codes "Z"))))))))))))

-- the time, or `-` where the clock told none
abbrev pub time_text : Option Moment → List ℕ
time_text None = codes "-"
time_text (Some moment) = moment_text moment

-- ---- by whom, and why

-- the policies, or an agent of a kind
abbrev pub by_text : Option Kind → List ℕ
by_text None = codes "policy"
by_text (Some kind) = codes "agent:" ++ decimal kind.0

-- the root bucket's name is empty, and its text is `.`
abbrev pub bucket_text : List ℕ → List ℕ
bucket_text [] = codes "."
bucket_text (byte ∷ bytes) = byte ∷ bytes

-- the key of the policy, or that the bucket's fallback was it
abbrev pub row_text : Option Row → List ℕ
row_text None = codes "default"
row_text (Some row) = names_text row.client row.user row.privilege

-- `BUCKET CLIENT USER PRIVILEGE`, or `BUCKET default`, and the end of the line
unfoldable pub cause_text : Cause → List ℕ
cause_text cause = bucket_text cause.bucket ++ (codes " " ++ (row_text cause.row ++ codes "\n"))

-- `TIME BY`, and the cause behind it
unfoldable pub decided_text : Option Moment → Option Kind → Cause → List ℕ
decided_text time agent cause = time_text time ++ (codes " " ++ (by_text agent ++ (codes " " ++ cause_text cause)))

-- `RESULT COMMIT CLIENT USER PRIVILEGE TIME BY`, and the cause
unfoldable pub check_text : Entry → List ℕ
check_text entry = answer_text entry.allowed entry.commit entry.client entry.user entry.privilege
    ++ (codes " " ++ decided_text entry.time entry.agent entry.cause)

-- a check: `monitor WORKER NUMBER RESULT COMMIT CLIENT USER PRIVILEGE TIME BY`, and the cause
unfoldable pub entry_text : Entry → List ℕ
entry_text entry =
    codes "monitor " ++ (decimal entry.worker
    ++ (codes " " ++ (decimal entry.number ++ (codes " " ++ check_text entry))))

-- how many checks of a worker were missed: `missed WORKER COUNT`
unfoldable pub missed_text : ℕ → ℕ → List ℕ
missed_text worker count = codes "missed " ++ (decimal worker ++ (codes " " ++ (decimal count ++ codes "\n")))
