-- What a hall counts of the calls that are made on it, and the last of each kind.
use Rattle.std.specs.Prelude.{◌<◌, ℕ, List, [], ◌∷◌, Option, Some, None, Result, Ok, Err}
use Rattle.desk_ports.specs.Faults.{next_count}
use Rattle.live_roll.specs.declared.answers.Left.{Left}
use Rattle.live_roll.specs.declared.answers.Left.TheVariants.{Still, Hung, Stopped as LeftStopped}
use Rattle.live_roll.specs.declared.answers.Stopped.{Stopped}
use Rattle.cynara_keys.specs.declared.results.Kind.{Kind}
use Rattle.agent_table.specs.declared.refusals.RegisterRefusal.{RegisterRefusal}
use Rattle.agent_table.specs.declared.refusals.RegisterRefusal.TheVariants.{Stopped as NoneComes}
use Rattle.agent_table.specs.declared.refusals.PutRefusal.TheVariants.{Stopped as NoneIsPut}
use Rattle.agent_table.specs.declared.table.Asked.{Asked}
use Rattle.server_hall.specs.declared.refusals.AskRefusal.{AskRefusal}
use Rattle.server_hall.specs.declared.refusals.AskRefusal.TheVariants.{Put, Stopped as AskStopped, Lost}
use Rattle.server_hall.specs.declared.refusals.NextRefusal.{NextRefusal}
use Rattle.server_hall.specs.declared.refusals.NextRefusal.TheVariants.{Stopped as NextStopped}
use Rattle.server_hall.specs.Call.{AskResult, AskMade, LeaveMade, JoinMade, NextMade, AnswerMade}
use Rattle.server_hall.specs.declared.calls.PartCall.{PartCall}
use Rattle.server_hall.specs.declared.calls.LookCall.{LookCall}
use Rattle.server_hall.specs.declared.calls.HallCall.{HallCall}
use Rattle.server_hall.specs.declared.calls.HallCall.TheVariants.{Ask, Join, Next, Answer, Look}

-- The counts never fall, and stand still at the last value of a count.
pub record Tally : Type 0 where
  -- how often a call found the hall stopped, left because a commit had hung it up, or lost the question that it had put
  pub stops : ℕ
  pub hangs : ℕ
  pub losses : ℕ
  -- how often each call was made
  pub enters : ℕ
  pub leaves : ℕ
  pub asks : ℕ
  pub joins : ℕ
  pub nexts : ℕ
  pub answers : ℕ
  pub looks : ℕ
  pub parts : ℕ
  pub stop_calls : ℕ
  -- the commit at which a connection entered last
  pub last_enter : Option ℕ
  -- the last call of each of these
  pub last_leave : Option LeaveMade
  pub last_ask : Option AskMade
  pub last_join : Option JoinMade
  pub last_next : Option NextMade
  pub last_answer : Option AnswerMade
  pub last_look : Option LookCall
  pub last_part : Option PartCall
  -- the commit for which all older connections were hung up last, 0 before any
  pub cleared : ℕ

-- before any call
abbrev pub no_calls : Tally
no_calls = record {
  stops = 0;
  hangs = 0;
  losses = 0;
  enters = 0;
  leaves = 0;
  asks = 0;
  joins = 0;
  nexts = 0;
  answers = 0;
  looks = 0;
  parts = 0;
  stop_calls = 0;
  last_enter = None;
  last_leave = None;
  last_ask = None;
  last_join = None;
  last_next = None;
  last_answer = None;
  last_look = None;
  last_part = None;
  cleared = 0;
}

-- ---- connections of clients

-- a connection that enters finds the hall stopped exactly where it is refused
abbrev pub stops_after_enter : Result ℕ Stopped → ℕ → ℕ
stops_after_enter (Ok note) stops = stops
stops_after_enter (Err refusal) stops = next_count stops

abbrev pub note_after_enter : Result ℕ Stopped → Option ℕ → Option ℕ
note_after_enter (Ok note) last = Some note
note_after_enter (Err refusal) last = last

abbrev pub after_enter : Result ℕ Stopped → Tally → Tally
after_enter result tally = record tally {
  enters = next_count tally.enters;
  stops = stops_after_enter result tally.stops;
  last_enter = note_after_enter result tally.last_enter;
}

abbrev pub hangs_after_leave : Left → ℕ → ℕ
hangs_after_leave (Hung now) hangs = next_count hangs
hangs_after_leave left hangs = hangs

abbrev pub stops_after_leave : Left → ℕ → ℕ
stops_after_leave (LeftStopped now) stops = next_count stops
stops_after_leave left stops = stops

abbrev pub after_leave : LeaveMade → Tally → Tally
after_leave call tally = record tally {
  leaves = next_count tally.leaves;
  hangs = hangs_after_leave call.left tally.hangs;
  stops = stops_after_leave call.left tally.stops;
  last_leave = Some call;
}

-- it was hung up only where the note has risen since it entered
abbrev pub IsRaised : ℕ → Left → Type 0
IsRaised entered Still = Unit {0}
IsRaised entered (Hung now) = entered < now
IsRaised entered (LeftStopped now) = Unit {0}

abbrev pub after_hang : ℕ → Tally → Tally
after_hang commit tally = record tally { cleared = commit }

-- ---- questions to agents

abbrev pub stops_after_ask : AskResult → ℕ → ℕ
stops_after_ask (Err AskStopped) stops = next_count stops
stops_after_ask result stops = stops

abbrev pub losses_after_ask : AskResult → ℕ → ℕ
losses_after_ask (Err (Lost number)) losses = next_count losses
losses_after_ask result losses = losses

abbrev pub after_ask : AskMade → Tally → Tally
after_ask call tally = record tally {
  asks = next_count tally.asks;
  stops = stops_after_ask call.result tally.stops;
  losses = losses_after_ask call.result tally.losses;
  last_ask = Some call;
}

-- a refusal of an ask that is none of the table's for a stop: that one is named for itself
abbrev pub IsNamedForItself : AskRefusal → Type 0
IsNamedForItself (Put NoneIsPut) = ⊥
IsNamedForItself refusal = Unit {0}

-- ---- agents

abbrev pub stops_after_join : {T : Type 0} → Result T RegisterRefusal → ℕ → ℕ
stops_after_join (Err NoneComes) stops = next_count stops
stops_after_join result stops = stops

abbrev pub after_join : JoinMade → Tally → Tally
after_join call tally = record tally {
  joins = next_count tally.joins;
  stops = stops_after_join call.result tally.stops;
  last_join = Some call;
}

abbrev pub stops_after_next : Result Asked NextRefusal → ℕ → ℕ
stops_after_next (Err NextStopped) stops = next_count stops
stops_after_next result stops = stops

abbrev pub after_next : NextMade → Tally → Tally
after_next call tally = record tally {
  nexts = next_count tally.nexts;
  stops = stops_after_next call.result tally.stops;
  last_next = Some call;
}

abbrev pub after_answer : AnswerMade → Tally → Tally
after_answer call tally = record tally { answers = next_count tally.answers; last_answer = Some call }

abbrev pub after_look : LookCall → Tally → Tally
after_look call tally = record tally { looks = next_count tally.looks; last_look = Some call }

abbrev pub after_part : Kind → Tally → Tally
after_part kind tally = record tally {
  parts = next_count tally.parts;
  last_part = Some (record { kind = kind; nexts = tally.nexts; answers = tally.answers });
}

-- ---- the end of the service

abbrev pub after_stop : Tally → Tally
after_stop tally = record tally { stop_calls = next_count tally.stop_calls }

-- ---- calls in turn

abbrev pub after_call : HallCall → Tally → Tally
after_call (Ask call) tally = after_ask call tally
after_call (Join call) tally = after_join call tally
after_call (Next call) tally = after_next call tally
after_call (Answer call) tally = after_answer call tally
after_call (Look number «open») tally = after_look (record { number = number; «open» = «open» }) tally

abbrev pub after_calls : List HallCall → Tally → Tally
after_calls [] tally = tally
after_calls (call ∷ calls) tally = after_calls calls (after_call call tally)
