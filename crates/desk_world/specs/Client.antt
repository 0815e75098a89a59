-- A client of the service, with its cache.
use Rattle.std.specs.Prelude.{ℕ, List, [], Option, None}
use Rattle.desk_world.specs.declared.known.Known.{Known}

pub record Client : Type 0 where
  -- the greatest commit that it was told of
  pub told : ℕ
  -- the link that it holds, if any
  pub link : Option ℕ
  -- its cache: the verdicts that it received on this link, with their questions, in the order in which they came
  pub log : List Known
  -- its ask that has no reply yet, if any
  pub asking : Option ℕ

-- a client that no event has named
abbrev pub unnamed : Client
unnamed = record { told = 0; link = None; log = []; asking = None }
