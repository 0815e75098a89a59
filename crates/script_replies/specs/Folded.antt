-- Rules that are folded, and policies that are indexed.
use Rattle.std.specs.Prelude.{◌≡◌, List, Option, None, IfSome}
use Rattle.smack_rules.specs.Grants.{GrantsAs}
use Rattle.smack_rules.specs.declared.rule.Rule.{Rule}
use Rattle.smack_rules.specs.declared.table.PairModes.{PairModes}
use Rattle.bucket_store.specs.Database.{Database}
use Rattle.desk_state.specs.DeskState.{DeskState, smack_rules}
use Rattle.private_sharing.specs.Rules.{rules}
use Rattle.private_sharing.specs.declared.shares.Share.{Share}

-- The table of the rules of all packages, and the rules of the open shares, once they were asked for; and the policies
-- that are indexed.
pub record Folded : Type 0 where
  pub table : Option (List PairModes)
  pub given : Option (List Rule)
  pub indexed : Option Database

abbrev pub unasked : Folded
unasked = record { table = None; given = None; indexed = None }

-- policies that are indexed are those of this state
abbrev pub IsIndexed : Folded → DeskState → Type 0
IsIndexed folded desk = IfSome folded.indexed (λ database. database ≡ desk.database)

-- rules that are folded are those of this state and these shares, and so are the policies that are indexed
pub record AreFolded (folded : Folded) (desk : DeskState) (shares : List Share) : Type 0 where
  pub table : IfSome folded.table (λ table. GrantsAs table (smack_rules desk))
  pub given : IfSome folded.given (λ given. given ≡ rules desk.registry shares)
  pub indexed : IsIndexed folded desk
