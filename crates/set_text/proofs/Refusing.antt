-- From the fault of a line to the fault of its file.
use Rattle.std.proofs.Common.{◌≡◌, ℕ, Bool, true, false, cond, Option, Some, None, Result, Err, refl}
use Rattle.set_text.specs.declared.lines.LineFault.{LineFault}
use Rattle.set_text.specs.declared.lines.LineFault.TheVariants.{Wrong, Memory}
use Rattle.set_text.specs.parts.Reads.{RefusesLine, RefusesFile, fault_at}

pub refuses-at : {X Y : Type 0} (fault : LineFault) (number : ℕ) (line : Option X) (file : Result Y ℕ)
    → RefusesLine fault line
    → (line ≡ None → file ≡ Err number) → RefusesFile (fault_at number fault) file
refuses-at Wrong number line file refuses wrong = wrong refuses
refuses-at (Memory error) number line file refuses wrong = tt

-- a part of a line that passes a test, or is wrong
pub some-if : {X : Type 0} (b : Bool) (x y : X) → cond b (Some x) None ≡ Some y → (b ≡ true) × (x ≡ y)
some-if true x y h = (refl, cc)
some-if false x y h = cc

pub refuses-if : {X Y : Type 0} (fault : LineFault) (b : Bool) (x : X) (line : Option Y)
    → RefusesLine fault (cond b (Some x) None)
    → (b ≡ false → line ≡ None) → RefusesLine fault line
refuses-if Wrong true x line refuses wrong = cc
refuses-if Wrong false x line refuses wrong = wrong refl
refuses-if (Memory error) b x line refuses wrong = tt
