-- A link and a dialler before or after a call: what each tells, and its count of faults.
use Rattle.std.specs.Prelude.{◌≡◌, ℕ, Bool, ◌||◌, List, Option, Some, map}
use Rattle.std.specs.Option.{option_map}
use Rattle.link_ports.specs.Told.{IfTold}
use Rattle.link_ports.specs.Traffic.{Traffic, with_received, with_sent}
use Rattle.link_ports.specs.LinkMarks.{LinkMarks}
use Rattle.link_ports.specs.declared.links.Link.{Ghosts as LinkTells}
use Rattle.link_ports.specs.declared.dials.Dial.{Ghosts as DialTells}

-- a link: what went over it, where it tells that, its marks and its count
pub record LinkSeen : Type 0 where
  pub traffic : Option Traffic
  pub marks : LinkMarks
  pub faults : ℕ

-- of a link, by what its type tells
abbrev pub link_seen : {L H : Type 0} → LinkTells L H → L → LinkSeen
link_seen tells link = record { traffic = tells.traffic link; marks = tells.marks link; faults = tells.faults link }

-- with the end of the input found, or not
abbrev pub with_end : Bool → LinkMarks → LinkMarks
with_end found marks = record marks { has_ended = marks.has_ended || found }

-- These bytes were sent and these received over a link that tells its traffic, and the end of its input was found, or
-- not.
pub record Carries (sent received : List ℕ) (found : Bool) (before after : LinkSeen) : Type 0 where
  pub traffic : IfTold before.traffic (λ traffic.
      after.traffic ≡ Some (with_received received (with_sent sent traffic)))
  pub marks : after.marks ≡ with_end found before.marks

-- a dialler: the links given back to it, where it tells them, and its count
pub record DialSeen : Type 0 where
  pub given : Option (List LinkSeen)
  pub faults : ℕ

-- of a dialler, by what its type tells, and that of its links
abbrev pub dial_seen : {N L H : Type 0} → DialTells N L H → LinkTells L H → N → DialSeen
dial_seen tells link dial =
    record { given = option_map (map (link_seen link)) (tells.given_back dial); faults = tells.faults dial }
