-- What came in reply to a frame, and what follows.
use Rattle.std.specs.Prelude.{Result, Ok, Err}
use Rattle.wire_fields.specs.declared.messages.Framed.{Framed}
use Rattle.wire_fields.specs.declared.refusals.WireRefusal.{WireRefusal}
use Rattle.client_connection.specs.declared.faults.Broken.{Broken}
use Rattle.client_connection.specs.declared.faults.Broken.TheVariants.{Lost, Wrong}

-- This was read: a whole frame, bytes that are none, or no more than the link's end; and this follows from it.
pub data Comes (Reads : Result Framed Broken → Type 0) (Whole : Framed → Type 0) (Bad : WireRefusal → Type 0)
    (Cut : Type 0) : Type 0 where
  whole : (framed : Framed) → Reads (Ok framed) → Whole framed → Comes Reads Whole Bad Cut
  bad : (refusal : WireRefusal) → Reads (Err (Wrong refusal)) → Bad refusal → Comes Reads Whole Bad Cut
  cut : Reads (Err Lost) → Cut → Comes Reads Whole Bad Cut
