-- Which checks of a log are wanted.
use Rattle.std.specs.Prelude.{◌≡◌, ℕ, Bool, true, false, ◌&&◌, List, [], ◌∷◌, ◌++◌, Option, Some, None}
use Rattle.std.specs.Borrow.{Bor}
use Rattle.std.specs.Str.{bytes_eq}
use Rattle.ctl_log.specs.declared.entries.Decider.{Decider}
use Rattle.ctl_log.specs.declared.entries.Entry.{Entry}
use Rattle.ctl_log.specs.declared.entries.LogLine.{LogLine}
use Rattle.ctl_log.specs.declared.entries.LogLine.TheVariants.{Check, Missed, Other}
use Rattle.ctl_log.specs.declared.wants.Wanted.{Wanted}
use Rattle.ctl_log.specs.Lines.{Says}
use Rattle.ctl_log.specs.Times.{is_since}

-- the text is the one that is wanted, where one is
abbrev pub is_it : Option (Bor (List ℕ)) → List ℕ → Bool
is_it None text = true
is_it (Some wanted) text = bytes_eq wanted.now text

-- the time of what decided is not before this one; where the line tells no time it is
abbrev pub is_decided_since : List ℕ → Option Decider → Bool
is_decided_since since None = false
is_decided_since since (Some decider) = is_since decider.time.now since

abbrev pub is_in_time : Option (Bor (List ℕ)) → Option Decider → Bool
is_in_time None decider = true
is_in_time (Some since) decider = is_decided_since since.now decider

-- the check has each of the texts that are wanted, and is not before the time
abbrev pub takes : Wanted → Entry → Bool
takes wanted entry =
    is_it wanted.client entry.decision.client.now
    && (is_it wanted.user entry.decision.user.now
    && (is_it wanted.privilege entry.decision.privilege.now
    && (is_it wanted.result entry.decision.result.now && is_in_time wanted.since entry.decider)))

-- a line that tells of no check is always wanted
abbrev pub is_wanted : Wanted → LogLine → Bool
is_wanted wanted (Check entry) = takes wanted entry
is_wanted wanted (Missed worker count) = true
is_wanted wanted Other = true

-- A line that is wanted is written as it stands, or as JSON; and of any other one nothing is.
abbrev pub IsWritten : Bool → Bool → List ℕ → List ℕ → List ℕ → Type 0
IsWritten false is_json bytes old new = new ≡ old
IsWritten true false bytes old new = new ≡ old ++ bytes ++ 10 ∷ []
IsWritten true true bytes old new = Unit {0}

-- the same of a line with these bytes, by what it says
abbrev pub Writes : Wanted → Bool → List ℕ → List ℕ → List ℕ → Type 0
Writes wanted is_json bytes old new =
    (line : LogLine) × Says line bytes × IsWritten (is_wanted wanted line) is_json bytes old new
