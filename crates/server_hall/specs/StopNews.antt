-- What a worker was told of the stop of its service.
use Rattle.std.specs.Prelude.{ℕ, Bool, true, false}
use Rattle.desk_ports.specs.Faults.{next_count}

-- How often it asked whether the service is stopped, and how often it was told that it is. The counts stand still at
-- their last value.
pub record StopsTold : Type 0 where
  pub asks : ℕ
  pub stops : ℕ

-- before it asked
abbrev pub unasked : StopsTold
unasked = record { asks = 0; stops = 0 }

abbrev pub told_on : StopsTold → StopsTold
told_on told = record told { asks = next_count told.asks }

abbrev pub told_stop : StopsTold → StopsTold
told_stop told = record { asks = next_count told.asks; stops = next_count told.stops }

-- it asked, and was told so
abbrev pub told_so : Bool → StopsTold → StopsTold
told_so true told = told_stop told
told_so false told = told_on told
