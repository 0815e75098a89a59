-- What an event that is enabled tells: each test held, and each thing was there.
use Rattle.std.proofs.Common.{◌≡◌, Bool, true, Option, Some, None, refl, subst}
use Rattle.std.specs.Prelude.{is_none, is_some}
use Rattle.std.proofs.lemmas.Bool.{false≢true}
use Rattle.std.proofs.lemmas.Option.{none-some, cond_some}
use Rattle.desk_world.specs.World.{World}
use Rattle.desk_world.specs.Clients.{when, with_some}

pub with_some-tells : {X P : Type 0} (o : Option X) (event : X → Option World) (next : World)
    → with_some o event ≡ Some next
    → ((x : X) → o ≡ Some x → event x ≡ Some next → P) → P
with_some-tells None event next e so = absurd (none-some next e)
with_some-tells (Some x) event next e so = so x refl e

pub when-tells : (P : World → Type 0) (enabled : Bool) (world next : World) → when enabled world ≡ Some next
    → (enabled ≡ true → P world) → P next
when-tells P enabled world next e so =
    let both = cond_some enabled world next e in subst P both.1 (so both.0)

pub some-tells : (P : World → Type 0) (world next : World) → Some world ≡ Some next → P world → P next
some-tells P world next e so = subst P (cond_some true world next e).1 so

pub none_there : {X : Type 0} (o : Option X) → is_none o ≡ true → o ≡ None
none_there None e = refl
none_there (Some x) e = absurd (false≢true e)

pub some_there : {X : Type 0} (o : Option X) → is_some o ≡ true → (x : X) × (o ≡ Some x)
some_there None e = absurd (false≢true e)
some_there (Some x) e = (x, refl)
