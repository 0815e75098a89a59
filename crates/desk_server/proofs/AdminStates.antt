-- The policy states that a worker of administrators publishes: each is what the first few of its frames lead to.
use Rattle.std.proofs.Common.{◌≡◌, ◌∙◌, ℕ, List, [], ◌∷◌, ◌++◌, Option, sym, ap, subst, append_assoc, append-nil}
use Rattle.desk_ports.specs.Disk.{DiskState}
use Rattle.link_ports.specs.Traffic.{Traffic}
use Rattle.link_ports.specs.LinkMarks.{LinkMarks}
use Rattle.desk_state.specs.DeskState.{DeskState}
use Rattle.server_hall.specs.Tally.{no_calls}
use Rattle.admin_door.specs.Serving.{Exchange, talk_of}
use Rattle.admin_door.specs.Running.{TellsEach}
use Rattle.admin_door.proofs.Reaching.{Reaches, serves-holds}
use Rattle.desk_server.specs.Visit.{Visit, InTurn}
use Rattle.desk_server.specs.Administrators.{AdminState, VisitsAdministrators, side_in}

module _ {L : Type 0} (traffic : L → Option Traffic) (marks : L → LinkMarks) (faults : L → ℕ) where
  -- the frames of a connection come behind those of before
  frames-grow : (start : AdminState) (visits : List (Visit L)) (now : AdminState)
      → InTurn (VisitsAdministrators traffic marks faults) start visits now
      → (more : List Exchange) × (now.frames ≡ start.frames ++ more)
  frames-grow start [] now is = ([], ap (λ (admin_state : AdminState). admin_state.frames) is ∙ sym (append-nil start.frames))
  frames-grow start (visit ∷ visits) now (between, (silent, (tally, served)), others) =
      let (more, is) = frames-grow between visits now others in
      let came : List Exchange = served.answered ++ served.last in (
        came ++ more,
        is ∙ (ap (λ (frames : List Exchange). frames ++ more) served.keeps ∙ append_assoc start.frames came more),
      )

  module _ (before : DiskState) (last : DeskState) (first : List DeskState) (all : List Exchange)
      (tells : TellsEach before all) where
    pub admin_state-holds : (start : AdminState) (visits : List (Visit L)) (now : AdminState) (rest : List Exchange)
        → InTurn (VisitsAdministrators traffic marks faults) start visits now → all ≡ now.frames ++ rest
        → Reaches before last first all start.frames start.desk start.published
        → Reaches before last first all now.frames now.desk now.published
    admin_state-holds start [] now rest is cut holds =
        subst (λ (admin_state : AdminState). Reaches before last first all admin_state.frames admin_state.desk admin_state.published) (sym is)
        holds
    admin_state-holds start (visit ∷ visits) now rest (between, (silent, (tally, served)), others) cut holds =
        let (more, is) = frames-grow between visits now others in
        let came : List Exchange = served.answered ++ served.last in
        let cut_here : all ≡ start.frames ++ (came ++ (more ++ rest)) =
        cut ∙ (ap (λ (frames : List Exchange). frames ++ rest) is
        ∙ (append_assoc between.frames more rest
        ∙ (ap (λ (frames : List Exchange). frames ++ (more ++ rest)) served.keeps
        ∙ append_assoc start.frames came (more ++ rest)))) in
        let next = serves-holds before last first all tells
        (talk_of (side_in start no_calls) (traffic visit.accepted) (marks visit.accepted) (faults visit.accepted))
        (talk_of (side_in between tally) (traffic visit.returned) (marks visit.returned) (faults visit.returned))
        visit.ended
        (λ exchanges. between.frames ≡ start.frames ++ exchanges) served start.frames (more ++ rest) cut_here holds in
        admin_state-holds between visits now rest others cut
        (subst (λ (frames : List Exchange). Reaches before last first all frames between.desk between.published)
        (sym served.keeps) next)
