use Rattle.std.proofs.Common.{◌≡◌, [], take}
use Rattle.door_frames.specs.Carried.{Carried}
use Rattle.admin_door.specs.Serving.{replies_bytes}
use Rattle.admin_door.proofs.due_links.send_all.Given as goal

-- the replies so far are sent
abbrev pub invariant-loop-reply : goal.invariant-loop-reply
invariant-loop-reply g l =
    Carried (g.L.Link.traffic l.fn.link) (g.L.Link.traffic l.link) [] (replies_bytes l.sequence (take l.reply-index l.replies))
    × (g.L.Link.faults l.link ≡ g.L.Link.faults l.fn.link)
    × (g.L.Link.marks l.link ≡ g.L.Link.marks l.fn.link)
