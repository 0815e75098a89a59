-- Decisions under modes, and under further modes beside them.
use Rattle.std.proofs.Common.{◌≡◌, ℕ, Bool, true, false, not, cond, ◌&&◌, ◌||◌, List, IsTrue, refl, sym, ap, ◌∙◌, arith}
use Rattle.std.proofs.lemmas.Bool.{and_parts, and_from}
use Rattle.std.specs.Str.{bytes_eq}
use Rattle.smack_rules.specs.declared.modes.Modes.{Modes}
use Rattle.smack_rules.specs.declared.decision.Decision.{Decision}
use Rattle.smack_rules.specs.Modes.{union, without, no_access, is_empty, is_within, is_request}
use Rattle.smack_rules.specs.Decision.{is_star, is_hat, is_floor, is_reading, with_lock, decision}

-- ---- letter by letter

split : (a b g : Bool) → a && not (b || g) ≡ (a && not g) && not b
split false b g = refl
split true true true = refl
split true true false = refl
split true false true = refl
split true false false = refl

split_lock : (a bl gl bw gw : Bool) → a && not ((bl || gl) || (bw || gw)) ≡ (a && not (gl || gw)) && not (bl || bw)
split_lock false bl gl bw gw = refl
split_lock true true true bw gw = refl
split_lock true true false bw true = refl
split_lock true true false bw false = refl
split_lock true false true bw gw = refl
split_lock true false false true true = refl
split_lock true false false true false = refl
split_lock true false false false true = refl
split_lock true false false false false = refl

and_true : (a : Bool) → a && true ≡ a
and_true true = refl
and_true false = refl

-- a letter that is not asked for is not asked for beside others
fewer : (a x g : Bool) → a && not x ≡ false → a && not (x || g) ≡ false
fewer false x g is = refl
fewer true true g is = refl
fewer true false g is = cc

fewer_lock : (a bl bw gl gw : Bool) → a && not (bl || bw) ≡ false → a && not ((bl || gl) || (bw || gw)) ≡ false
fewer_lock false bl bw gl gw is = refl
fewer_lock true true bw gl gw is = refl
fewer_lock true false true true gw is = refl
fewer_lock true false true false gw is = refl
fewer_lock true false false gl gw is = cc

-- a set is without each letter
letters : (r w x a t l u : Bool) → not (r || w || x || a || t || l || u) ≡ true
    → (r ≡ false) × (w ≡ false) × (x ≡ false) × (a ≡ false) × (t ≡ false) × (l ≡ false) × (u ≡ false)
letters false false false false false false false is = (refl, refl, refl, refl, refl, refl, refl)
letters true w x a t l u is = cc
letters false true x a t l u is = cc
letters false false true a t l u is = cc
letters false false false true t l u is = cc
letters false false false false true l u is = cc
letters false false false false false true u is = cc
letters false false false false false false true is = cc

-- ---- sets

-- what is asked is within the modes exactly where what is left of it is within those beside them
pub within-left : (asked b g : Modes)
    → is_within asked (with_lock (union b g)) ≡ is_within (without asked (with_lock g)) (with_lock b)
within-left asked b g = λ i. is_empty (record {
  read = split asked.read b.read g.read i;
  write = split asked.write b.write g.write i;
  execute = split asked.execute b.execute g.execute i;
  append = split asked.append b.append g.append i;
  transmute = split asked.transmute b.transmute g.transmute i;
  lock = split_lock asked.lock b.lock g.lock b.write g.write i;
  bring_up = split asked.bring_up b.bring_up g.bring_up i;
})

no_mark : (asked more : Bool) → not asked ≡ true → not (asked && not more) ≡ true
no_mark true more is = cc
no_mark false more is = refl

none_left : (a b : Bool) → a ≡ false → a && b ≡ false
none_left true b is = cc
none_left false b is = refl

-- nothing left of what is asked is within all modes
pub within-none : (missing b : Modes) → is_empty missing ≡ true → is_within missing (with_lock b) ≡ true
within-none missing b none =
    let e = letters missing.read missing.write missing.execute missing.append missing.transmute missing.lock missing.bring_up none in
    λ i. is_empty (record {
      read = none_left missing.read (not b.read) e.0 i;
      write = none_left missing.write (not b.write) e.1 i;
      execute = none_left missing.execute (not b.execute) e.2 i;
      append = none_left missing.append (not b.append) e.3 i;
      transmute = none_left missing.transmute (not b.transmute) e.4 i;
      lock = none_left missing.lock (not (b.lock || b.write)) e.5 i;
      bring_up = none_left missing.bring_up (not b.bring_up) e.6 i;
    })

-- what is within the modes is within more of them
within-more : (asked b g : Modes) → is_within asked (with_lock b) ≡ true
    → is_within asked (with_lock (union b g)) ≡ true
within-more asked b g is =
    let e = letters (asked.read && not b.read) (asked.write && not b.write) (asked.execute && not b.execute)
    (asked.append && not b.append) (asked.transmute && not b.transmute) (asked.lock && not (b.lock || b.write))
    (asked.bring_up && not b.bring_up) is in
    λ i. is_empty (record {
      read = fewer asked.read b.read g.read e.0 i;
      write = fewer asked.write b.write g.write e.1 i;
      execute = fewer asked.execute b.execute g.execute e.2 i;
      append = fewer asked.append b.append g.append e.3 i;
      transmute = fewer asked.transmute b.transmute g.transmute e.4 i;
      lock = fewer_lock asked.lock b.lock b.write g.lock g.write e.5 i;
      bring_up = fewer asked.bring_up b.bring_up g.bring_up e.6 i;
    })

-- where there is nothing beside the modes, all that is asked is left
reading-left : (asked : Modes) → is_reading (without asked (with_lock no_access)) ≡ is_reading asked
reading-left asked = λ i. is_reading (record {
  read = and_true asked.read i;
  write = and_true asked.write i;
  execute = and_true asked.execute i;
  append = and_true asked.append i;
  transmute = and_true asked.transmute i;
  lock = and_true asked.lock i;
  bring_up = and_true asked.bring_up i;
})

-- what is left of a request is one where it has a letter
pub request-left : (asked more : Modes) → IsTrue (is_request asked) → is_empty (without asked more) ≡ false
    → IsTrue (is_request (without asked more))
request-left asked more request some =
    let both = and_parts (not (is_empty asked)) (not asked.bring_up) request in
    and_from (not (is_empty (without asked more))) (not (asked.bring_up && not more.bring_up)) (ap not some)
    (no_mark asked.bring_up more.bring_up both.1)

-- ---- the cases

abbrev decided_as : Bool → ℕ → Decision
decided_as allowed rule = record { allowed = allowed; rule = rule }

abbrev by_cases : Bool → Bool → Bool → Bool → Bool → Bool → Decision
by_cases star hat floor open_ same within =
    cond star (decided_as false 1) (cond hat (decided_as true 2) (cond floor (decided_as true 3)
    (cond open_ (decided_as true 4)
    (cond same (decided_as true 5) (cond within (decided_as true 6) (decided_as false 7))))))

cases-are : (s o : List ℕ) (asked granted : Modes) → decision s o asked granted
    ≡ by_cases (is_star s) (is_hat s && is_reading asked) (is_floor o && is_reading asked) (is_star o) (bytes_eq s o)
    (is_within asked (with_lock granted))
unfolding decision
cases-are s o asked granted = refl

-- a case before the last holds, whatever is granted beside
kept : (a b c d e within more : Bool) → (within ≡ true → more ≡ true) → ((by_cases a b c d e within).rule ≡ 7 → ⊥)
    → by_cases a b c d e within ≡ by_cases a b c d e more
kept true b c d e within more grows some = refl
kept false true c d e within more grows some = refl
kept false false true d e within more grows some = refl
kept false false false true e within more grows some = refl
kept false false false false true within more grows some = refl
kept false false false false false true more grows some = ap (λ b. cond b (decided_as true 6) (decided_as false 7))
    (sym (grows refl))
kept false false false false false false more grows some = absurd (some refl)

record NoCase (a b c d e : Bool) : Type 0 where
  star : a ≡ false
  hat : b ≡ false
  floor : c ≡ false
  open_ : d ≡ false
  same : e ≡ false

-- no case before the last holds
no-case : (a b c d e within : Bool) → (by_cases a b c d e within).rule ≡ 7 → NoCase a b c d e
no-case true b c d e within is = absurd (omega (arith, is))
no-case false true c d e within is = absurd (omega (arith, is))
no-case false false true d e within is = absurd (omega (arith, is))
no-case false false false true e within is = absurd (omega (arith, is))
no-case false false false false true within is = absurd (omega (arith, is))
no-case false false false false false within is =
    record { star = refl; hat = refl; floor = refl; open_ = refl; same = refl }

by-last : (a b c d e within : Bool) → NoCase a b c d e
    → by_cases a b c d e within ≡ cond within (decided_as true 6) (decided_as false 7)
by-last a b c d e within none = λ i. by_cases (none.star i) (none.hat i) (none.floor i) (none.open_ i)
    (none.same i) within

-- a label of its own is no case for what is left
still : (special : Bool) (asked g : Modes) → (special ≡ true → g ≡ no_access) → special && is_reading asked ≡ false
    → special && is_reading (without asked (with_lock g)) ≡ false
still true asked g plain is =
    ap (λ g. is_reading (without asked (with_lock g))) (plain refl) ∙ reading-left asked ∙ is
still false asked g plain is = refl

module _ (s o : List ℕ) (asked b g : Modes) where
  -- what other cases decide, or the modes alone, more modes do not change
  pub decided-kept : ((decision s o asked b).rule ≡ 7 → ⊥) → decision s o asked b ≡ decision s o asked (union b g)
  decided-kept some =
      let last = ap (λ (decided : Decision). decided.rule) (cases-are s o asked b) in
      cases-are s o asked b
      ∙ kept (is_star s) (is_hat s && is_reading asked) (is_floor o && is_reading asked) (is_star o) (bytes_eq s o)
      (is_within asked (with_lock b)) (is_within asked (with_lock (union b g))) (within-more asked b g)
      (λ is. some (last ∙ is))
      ∙ sym (cases-are s o asked (union b g))

  module _ (is : (decision s o asked b).rule ≡ 7) where
    none : NoCase (is_star s) (is_hat s && is_reading asked) (is_floor o && is_reading asked) (is_star o) (bytes_eq s o)
    none =
        no-case (is_star s) (is_hat s && is_reading asked) (is_floor o && is_reading asked) (is_star o) (bytes_eq s o)
        (is_within asked (with_lock b)) (ap (λ (decided : Decision). decided.rule) (sym (cases-are s o asked b)) ∙ is)

    with-more : decision s o asked (union b g)
        ≡ cond (is_within (without asked (with_lock g)) (with_lock b)) (decided_as true 6) (decided_as false 7)
    with-more =
        cases-are s o asked (union b g)
        ∙ by-last _ _ _ _ _ (is_within asked (with_lock (union b g))) none
        ∙ ap (λ within. cond within (decided_as true 6) (decided_as false 7)) (within-left asked b g)

    -- all that is asked is granted beside
    pub decided-all : is_empty (without asked (with_lock g)) ≡ true → decision s o asked (union b g) ≡ decided_as true 6
    decided-all all =
        with-more ∙ ap (λ within. cond within (decided_as true 6) (decided_as false 7))
        (within-none (without asked (with_lock g)) b all)

    -- the rest is asked of the modes
    pub decided-left : (is_hat s ≡ true → g ≡ no_access) → (is_floor o ≡ true → g ≡ no_access)
        → decision s o (without asked (with_lock g)) b ≡ decision s o asked (union b g)
    decided-left hat floor =
        let missing = without asked (with_lock g) in
        cases-are s o missing b
        ∙ by-last _ _ _ _ _ (is_within missing (with_lock b)) (record {
          star = none.star;
          hat = still (is_hat s) asked g hat none.hat;
          floor = still (is_floor o) asked g floor none.floor;
          open_ = none.open_;
          same = none.same;
        })
        ∙ sym with-more
