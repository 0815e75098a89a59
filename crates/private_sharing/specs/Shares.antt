-- The shares that are open, and what each call makes of them.
use Rattle.std.specs.Prelude.{◌≤◌, ◌+◌, ◌-◌, ℕ, Bool, ◌&&◌, nat_le, List, map, find, length, is_some}
use Rattle.std.specs.declared.cmp.Ordering.{Ordering}
use Rattle.std.specs.List.{filter, AllByRecursion}
use Rattle.std.specs.List.Sorted.{IsStrictlySortedBy}
use Rattle.std.specs.Option.{option_map_or}
use Rattle.std.specs.Ordering.{on, then_cmp}
use Rattle.std.specs.Prelude.{if◌then◌else◌}
use Rattle.cynara_keys.specs.Text.{same_text, text_cmp}
use Rattle.app_registry.specs.Registry.{RegistryLists, package_of}
use Rattle.app_registry.specs.Rising.{placed}
use Rattle.private_sharing.specs.declared.shares.Share.{Share}

-- shares are in the order of owner, target and name in turn, and have one place where these agree
abbrev pub share_cmp : Share → Share → Ordering
share_cmp =
    then_cmp (on (λ share. share.owner) text_cmp)
    (then_cmp (on (λ share. share.target) text_cmp) (on (λ share. share.name) text_cmp))

-- whether it is the share of this owner with this target, under this name
abbrev pub is_share : List ℕ → List ℕ → List ℕ → Share → Bool
is_share owner target name share =
    same_text share.owner owner && (same_text share.target target && same_text share.name name)

-- how often the share is open, 0 where it is not
abbrev pub count_of : List ℕ → List ℕ → List ℕ → List Share → ℕ
count_of owner target name shares =
    option_map_or (λ share. share.count) (find (is_share owner target name) shares) 0

-- each place has one share, which is open; there are not too many
pub record IsShares (shares : List Share) : Type 0 where
  pub rise : IsStrictlySortedBy share_cmp shares
  pub open_ : AllByRecursion (λ share. 1 ≤ share.count) shares
  pub few : length shares ≤ 4096

-- opened once more
abbrev pub opened : List ℕ → List ℕ → List ℕ → List Share → List Share
opened owner target name shares =
    placed share_cmp (record {
      owner = owner;
      target = target;
      name = name;
      count = count_of owner target name shares + 1;
    }) shares

-- a share that is open once less, where it is this one
abbrev pub lessened : List ℕ → List ℕ → List ℕ → Share → Share
lessened owner target name share =
    if is_share owner target name share then record share { count = share.count - 1 } else share

abbrev pub is_open : Share → Bool
is_open share = nat_le 1 share.count

-- closed once; a share that is open no more goes
abbrev pub closed : List ℕ → List ℕ → List ℕ → List Share → List Share
closed owner target name shares = filter is_open (map (lessened owner target name) shares)

abbrev pub is_installed : RegistryLists → List ℕ → Bool
is_installed registry app = is_some (package_of registry app)

abbrev pub has_both : RegistryLists → Share → Bool
has_both registry share = is_installed registry share.owner && is_installed registry share.target

-- without the shares of applications that are not installed
abbrev pub settled : RegistryLists → List Share → List Share
settled registry shares = filter (has_both registry) shares
