-- A bucket, as contracts see it.
use Rattle.std.specs.Prelude.{ℕ, List}
use Rattle.cynara_keys.specs.PolicyResult.{Ruling}
use Rattle.cynara_keys.specs.declared.keys.Policy.{Policy}

pub record Bucket : Type 0 where
  pub name : List ℕ
  pub fallback : Ruling
  pub policies : List Policy
