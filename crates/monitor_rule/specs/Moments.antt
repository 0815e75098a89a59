-- Moments in UTC, by the calendar.
use Rattle.std.specs.Prelude.{◌≡◌, ◌*◌, ℕ, pos, unsigned_abs}
use Rattle.jiff_core.specs.DateTime.{civil_nanos}
use Rattle.jiff_core.specs.declared.civil.datetime.DateTime.{DateTime}
use Rattle.monitor_rule.specs.declared.moments.Moment.{Moment}

-- The moment shows the date and the time of day that the calendar has so many seconds after the first of 1970, and so
-- many thousandths.
abbrev pub IsAt : ℕ → ℕ → Moment → Type 0
IsAt seconds millisecond moment = (shown : DateTime) × (civil_nanos shown ≡ pos (seconds * 1000000000))
    × (moment ≡ record {
      year = unsigned_abs shown.date.year;
      month = shown.date.month;
      day = shown.date.day;
      hour = shown.time.hour;
      minute = shown.time.minute;
      second = shown.time.second;
      millisecond = millisecond;
    })
