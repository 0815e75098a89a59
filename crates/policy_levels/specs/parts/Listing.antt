-- What a listing of a bucket that is there can be refused for.
use Rattle.bucket_store.specs.declared.refusals.StoreRefusal.{StoreRefusal}
use Rattle.bucket_store.specs.declared.refusals.StoreRefusal.TheVariants.{Memory}

abbrev pub WantsMemory : StoreRefusal → Type 0
WantsMemory (Memory error) = Unit {0}
WantsMemory refusal = ⊥
