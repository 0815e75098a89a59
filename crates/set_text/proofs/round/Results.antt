-- A kind with its metadata, written and read.
use Rattle.std.proofs.Common.{◌≡◌, ℕ, Bool, true, false, cond, ◌&&◌, List, Option, Some, None, refl, ap, subst, ◌∙◌}
use Rattle.std.specs.Option.{option_map}
use Rattle.std.proofs.lemmas.Bool.{and_parts}
use Rattle.cynara_keys.specs.Metadata.{is_metadata}
use Rattle.cynara_keys.specs.PolicyResult.{Ruling, may_carry}
use Rattle.set_text.specs.Buckets.{ruling_with, ruling_of}
use Rattle.set_text.specs.IsSpelt.{IsRuling}
use Rattle.set_text.specs.Numbers.{kind_text, kind_of}
use Rattle.set_text.proofs.Numbering.{kind_of-text, kind_of-kind_text}
use Rattle.set_text.proofs.Refusing.{some-if}

-- what comes where a test passes
pub some-when : {X : Type 0} (b : Bool) (found : Option X) (x : X) → cond b found None ≡ Some x
    → (b ≡ true) × (found ≡ Some x)
some-when true found x h = (refl, h)
some-when false found x h = cc

-- what was made from what was found
pub some-made : {X Y : Type 0} (make : X → Y) (found : Option X) (y : Y) → option_map make found ≡ Some y
    → (x : X) × (found ≡ Some x) × (make x ≡ y)
some-made make None y h = cc
some-made make (Some x) y h = (x, refl, cc)

pub ruling-read : (ruling : Ruling) → IsRuling ruling → ruling_of (kind_text ruling.kind) ruling.metadata ≡ Some ruling
ruling-read ruling is =
    ap (ruling_with ruling.metadata) (kind_of-kind_text ruling.kind is.kind)
    ∙ ap (λ b. cond (b && may_carry ruling.kind ruling.metadata) (Some ruling) None) is.metadata
    ∙ ap (λ b. cond b (Some ruling) None) is.carried

-- the result that two fields spell
pub record IsSpelledBy (kind metadata : List ℕ) (ruling : Ruling) : Type 0 where
  pub same_kind : kind_text ruling.kind ≡ kind
  pub same_metadata : ruling.metadata ≡ metadata
  pub sound : IsRuling ruling

pub ruling-spelled : (kind metadata : List ℕ) (ruling : Ruling) → ruling_of kind metadata ≡ Some ruling
    → IsSpelledBy kind metadata ruling
ruling-spelled kind metadata ruling h = by (kind_of kind) refl h
  where
    by : (found : Option ℕ) → kind_of kind ≡ found → ruling_with metadata found ≡ Some ruling
        → IsSpelledBy kind metadata ruling
    by None is h = cc
    by (Some number) is h =
        let made : Ruling = record { kind = number; metadata = metadata } in
        let parts = some-if (is_metadata metadata && may_carry number metadata) made ruling h in
        let both = and_parts (is_metadata metadata) (may_carry number metadata) parts.0 in
        let told = kind_of-text kind number is in
        subst (IsSpelledBy kind metadata) parts.1 (record {
          same_kind = told.0;
          same_metadata = refl;
          sound = record { kind = told.1; metadata = both.0; carried = both.1 };
        })
