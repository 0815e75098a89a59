use Rattle.std.proofs.Common.{◌≡◌, ℕ, ◌+◌, Bool, true, false, not, List, ◌++◌, Vec, Global, Bor, drop, refl, sym, ap, ◌∙◌}
use Rattle.std.specs.List.{flat_map}
use Rattle.cynara_keys.specs.Text.{same_text}
use Rattle.smack_rules.specs.declared.rule.Rule.{Rule}
use Rattle.desk_state.specs.DeskState.{package_rules}
use Rattle.desk_state.specs.parts.Packages.{later_packages}
use Rattle.desk_state.proofs.Expanding.{goes-on, begins}
use Rattle.desk_state.proofs.desks.Desk.append_later_rules.Goals as goal
use Rattle.desk_state.proofs.desks.Desk.append_later_rules.Goals.{then-ne+in_ok-append_rules, else-ne}

not-true : (b : Bool) → not b ≡ true → b ≡ false
not-true true h = cc
not-true false h = refl

not-false : (b : Bool) → not b ≡ false → b ≡ true
not-false true h = refl
not-false false h = cc

pub loop-install-preserved : goal.loop-install-preserved
loop-install-preserved c =
    let rules_of = package_rules c.args.self.now in
    let whole = c.args.rules.now.items ++ flat_map rules_of (later_packages c.args.before.now c.args.installs.now) in
    let at = c.loop-install.install-index in
    elim c.if-ne.branch [
      | then-ne+in_ok-append_rules w ↦
          (let apart : same_text c.install-item.result.package c.loop-install.last.now ≡ false =
          not-true (same_text c.install-item.result.package c.loop-install.last.now) (sym c.ne.ensures ∙ w.if-ne.true) in
          let rules : c.if-ne.rules.items ≡ c.loop-install.rules.items ++ rules_of c.install-item.result.package =
          ap (λ (list : Vec Rule Global). list.items) w.rules-is ∙ w.in_ok-append_rules.ensures in
          let last : c.if-ne.last.now ≡ c.install-item.result.package = ap (λ (name : Bor (List ℕ)). name.now) w.last-is in
          (λ i. rules i ++ flat_map rules_of (later_packages (last i) (drop (at + 1) c.args.installs.now)))
          ∙ begins rules_of whole c.loop-install.rules.items c.loop-install.last.now c.args.installs.now at c.install-item.result
          c.loop-install-test.true c.install-item.is c.loop-install.invariant apart)
      | else-ne w ↦
          (let same : same_text c.install-item.result.package c.loop-install.last.now ≡ true =
          not-false (same_text c.install-item.result.package c.loop-install.last.now) (sym c.ne.ensures ∙ w.if-ne.false) in
          let rules : c.if-ne.rules.items ≡ c.loop-install.rules.items = ap (λ (list : Vec Rule Global). list.items) w.rules-is in
          let last : c.if-ne.last.now ≡ c.loop-install.last.now = ap (λ (name : Bor (List ℕ)). name.now) w.last-is in
          (λ i. rules i ++ flat_map rules_of (later_packages (last i) (drop (at + 1) c.args.installs.now)))
          ∙ goes-on rules_of whole c.loop-install.rules.items c.loop-install.last.now c.args.installs.now at c.install-item.result
          c.loop-install-test.true c.install-item.is c.loop-install.invariant same)
    ]
