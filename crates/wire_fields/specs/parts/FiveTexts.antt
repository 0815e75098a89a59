-- Five texts that stand one behind the other.
use Rattle.std.specs.Prelude.{◌≤◌, ◌-◌, ℕ, List, length, take, drop}

pub record Texts : Type 0 where
  pub first : List ℕ
  pub second : List ℕ
  pub third : List ℕ
  pub fourth : List ℕ
  pub fifth : List ℕ

-- the texts of which the second begins at one place, the third at another, and so on
abbrev pub texts : List ℕ → ℕ → ℕ → ℕ → ℕ → Texts
texts bytes second third fourth fifth = record {
  first = take second bytes;
  second = take (third - second) (drop second bytes);
  third = take (fourth - third) (drop third bytes);
  fourth = take (fifth - fourth) (drop fourth bytes);
  fifth = drop fifth bytes;
}

pub record ArePlaces (bytes : List ℕ) (second third fourth fifth : ℕ) : Type 0 where
  pub third_behind : second ≤ third
  pub fourth_behind : third ≤ fourth
  pub fifth_behind : fourth ≤ fifth
  pub within : fifth ≤ length bytes
