-- What a refusal of a part says of the whole.
use Rattle.std.proofs.Common.{◌≡◌, Option, None}
use Rattle.script_words.specs.Reading.{Refuses}
use Rattle.script_words.specs.declared.refusals.LineRefusal.{LineRefusal}
use Rattle.script_words.specs.declared.refusals.LineRefusal.TheVariants.{Syntax, Memory}

-- a whole without the part that it needs is outside the grammar
pub refused_with : {A B : Type 0} (refusal : LineRefusal) (part : Option A) (whole : Option B) → Refuses refusal part
    → (part ≡ None → whole ≡ None) → Refuses refusal whole
refused_with Syntax part whole refused outside = outside refused
refused_with (Memory error) part whole refused outside = tt
