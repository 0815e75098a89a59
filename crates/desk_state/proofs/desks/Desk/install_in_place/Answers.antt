use Rattle.std.proofs.Common.{◌∙◌, refl, sym, subst}
use Rattle.desk_state.specs.DeskState.{DeskState}
use Rattle.desk_state.specs.declared.commands.Command.TheVariants.{Install as InstallCommand}
use Rattle.desk_state.specs.parts.Stepping.{IsAllowed, Becomes, moved}
use Rattle.desk_state.proofs.Becoming.{IsInstalled, install-desk, install-becomes}
use Rattle.desk_state.proofs.desks.Desk.install_in_place.Goals as goal
use Rattle.desk_state.proofs.desks.Desk.install_in_place.Goals.{After-drop-gained-2}

-- the state before
abbrev before : After-drop-gained-2 → DeskState
before c =
    let kept = c.self.inside in
    record { commit = kept.commit; database = kept.database; registry = kept.registry; template = kept.template }

installed : (c : After-drop-gained-2) → IsInstalled (before c) c.args.install.now c.install_in_place.new.self c.deref.result.now
installed c = record {
  lists_is = c.if-not-install_in_place.ensures.registry refl;
  accepted = c.if-not-install_in_place.ensures.accepted refl;
  taken_back = c.if-not-install_in_place.ensures.taken_back refl;
  changes_is = c.deref.ensures.value ∙ c.in-Ok.ensures;
}

allowed : (c : After-drop-gained-2) → IsAllowed (before c) (InstallCommand c.args.install.now)
allowed c = subst (λ (other : DeskState). IsAllowed other (InstallCommand c.args.install.now)) (sym c.self.view_is) c.requires

pub invariant_of-self-2 : goal.invariant_of-self-2
invariant_of-self-2 c =
    install-desk (before c) c.args.install.now c.self.invariant (allowed c) c.if-self.false c.install_in_place.new.self
    c.deref.result.now (installed c) c.change_in_place.new.self (c.if-not-change_in_place.ensures.next refl) c.buckets.ensures.well_formed
    c.installs.ensures.registry

pub returns-clause-changed : goal.returns-clause-changed
returns-clause-changed c _ =
    subst (λ (other : DeskState). Becomes other (InstallCommand c.args.install.now)
    (moved (before c) c.change_in_place.new.self c.install_in_place.new.self (before c).template))
    c.self.view_is
    (install-becomes (before c) c.args.install.now c.self.invariant (allowed c) c.if-self.false
    c.install_in_place.new.self c.deref.result.now (installed c) c.change_in_place.new.self (c.if-not-change_in_place.ensures.next refl)
    (c.if-not-change_in_place.ensures.accepted refl))
