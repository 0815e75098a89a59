-- A message that was sent by a client which is made for it.
use Rattle.std.proofs.Common.{◌≡◌, ℕ, List, Option, None, subst}
use Rattle.link_ports.specs.Traffic.{Traffic}
use Rattle.link_ports.specs.LinkMarks.{LinkMarks}
use Rattle.wire_fields.specs.declared.messages.Message.{Message}
use Rattle.client_connection.specs.Giving.{GivesBackAny}
use Rattle.admin_client.specs.Sending.{State, Kept, with_dial, Sends}
use Rattle.ctl_door.specs.Replies.{Heard, Hears}

module _ {N L : Type 0} (link_faults : L → ℕ) (marks : L → LinkMarks) (traffic : L → Option Traffic)
    (faults dials : N → ℕ) (given_back : N → Option (List L)) where
  pub hears : (message : Message) (heard : Heard) (kept : Kept L) (between : State N L) (before after : N)
      → kept ≡ record { link = None; sequence = 0 }
      → Sends link_faults marks traffic faults dials given_back message heard (with_dial before kept) between
      → GivesBackAny faults dials given_back link_faults marks between.link between.dial after
      → Hears link_faults marks traffic faults dials given_back message heard before after
  hears message heard kept between before after is sent given = record {
    between = between;
    sent = subst (λ (kept : Kept L). Sends link_faults marks traffic faults dials given_back message heard (with_dial before kept) between) is sent;
    given = given;
  }
