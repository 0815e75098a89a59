-- A state that was prepared is kept and shown to all.
use Rattle.std.specs.Prelude.{◌≡◌, ◌⊎◌, ℕ, List, [], ◌∷◌}
use Rattle.desk_state.specs.DeskState.{DeskState}
use Rattle.wire_fields.specs.declared.messages.Message.{Message}
use Rattle.wire_fields.specs.declared.messages.Message.TheVariants.{Done, StoreFault}
use Rattle.admin_door.specs.Side.{AdminSide, with_kept, with_shown, with_fault}

-- it is, or its commit failed
abbrev pub Shows : DeskState → ℕ → AdminSide → AdminSide → List Message → Type 0
Shows desk erased old now replies =
    ((now ≡ with_shown desk (with_kept desk old)) × (replies ≡ Done desk.commit erased ∷ []))
    ⊎ ((now ≡ with_fault old) × (replies ≡ StoreFault ∷ []))

-- it is not for want of memory, and it is kept or it is not
abbrev pub IsUnshown : DeskState → AdminSide → AdminSide → Type 0
IsUnshown desk old now = (now ≡ old) ⊎ (now ≡ with_kept desk old)
