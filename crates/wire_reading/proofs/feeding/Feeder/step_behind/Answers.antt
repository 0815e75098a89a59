use Rattle.std.proofs.Common.{rules, arith, ◌≡◌, ◌<◌, ◌++◌, if◌then◌else◌, [], length, Bool, List, ℕ, sym, subst}
use Rattle.wire_reading.specs.Stream.{IsOpen}
use Rattle.wire_reading.specs.parts.Feeding.{Settled, Unsettled}
use Rattle.wire_reading.proofs.Settling.{cut-in-two, short_open, still_open, step_ok, step_err, feeding}
use Rattle.wire_reading.proofs.feeding.Feeder.step_behind.Goals as goal

pub keep-requires : goal.keep-requires
keep-requires c =
    let now = c.args.self.now in
    let is_open : IsOpen now.heard now.partial = search rules in
    let few : length c.args.bytes.now < c.wanted-wanted.result = search rules in
    still_open now.heard now.partial c.args.bytes.now c.wanted-wanted.result is_open few c.wanted-wanted.ensures.up_to
    c.wanted-wanted.ensures.whole

pub invariant_of-self-in-Err-settle : goal.invariant_of-self-in-Err-settle
invariant_of-self-in-Err-settle c =
    (rw c.clear-in-Err-settle.ensures (short_open c.self.inside.heard [] (omega arith)), search rules)

pub returns-in-Err-settle-clause-refused : goal.returns-in-Err-settle-clause-refused
returns-in-Err-settle-clause-refused c =
    let inside = c.self.inside in
    let front = c.split_at.result.0.now in
    let left = c.split_at.result.1.now in
    let whole = cut-in-two c.args.bytes.now front left _ c.split_at.ensures.front c.split_at.ensures.back in
    let grown : c.as_slice.result.now ≡ inside.partial ++ front = search rules in
    let wrong : Unsettled inside.heard (inside.partial ++ front) inside.waiting.items c.settle.new.waiting.items
    c.in-Err-settle.refusal =
    rw grown at c.in-Err-settle.ensures.refused in
    let view : c.args.self.now ≡ feeding inside.heard inside.waiting.items inside.partial inside.failed =
    search rules in
    rw view (step_err inside.heard inside.partial front left c.args.bytes.now c.clear-in-Err-settle.new.self
    inside.waiting.items c.settle.new.waiting.items inside.failed c.in-Err-settle.refusal whole wrong)

pub returns-in-Ok-true-clause-stepped : goal.returns-in-Ok-true-clause-stepped
returns-in-Ok-true-clause-stepped c =
    let inside = c.self.inside in
    let front = c.split_at.result.0.now in
    let left = c.split_at.result.1.now in
    let whole = cut-in-two c.args.bytes.now front left _ c.split_at.ensures.front c.split_at.ensures.back in
    let all = c.as_slice.result.now in
    let grown : all ≡ inside.partial ++ front = search rules in
    let heard : Settled inside.heard all [] inside.waiting.items c.settle.new.waiting.items =
    subst
    (λ (b : Bool). Settled inside.heard all (if b then [] else all) inside.waiting.items c.settle.new.waiting.items)
    c.in-Ok-true.field-0-test c.in-Ok-true.ensures.settled in
    let settled : Settled inside.heard (inside.partial ++ front) c.clear.new.self inside.waiting.items
    c.settle.new.waiting.items =
    rw (sym c.clear.ensures, grown) at heard in
    let view : c.args.self.now ≡ feeding inside.heard inside.waiting.items inside.partial inside.failed =
    search rules in
    rw view (step_ok inside.heard inside.partial front left c.args.bytes.now c.clear.new.self inside.waiting.items
    c.settle.new.waiting.items inside.failed whole settled)

pub returns-in-Ok-false-clause-stepped : goal.returns-in-Ok-false-clause-stepped
returns-in-Ok-false-clause-stepped c =
    let inside = c.self.inside in
    let front = c.split_at.result.0.now in
    let left = c.split_at.result.1.now in
    let whole = cut-in-two c.args.bytes.now front left _ c.split_at.ensures.front c.split_at.ensures.back in
    let all = c.as_slice.result.now in
    let grown : all ≡ inside.partial ++ front = search rules in
    let same : all ≡ c.append.new.self = search rules in
    let heard : Settled inside.heard all all inside.waiting.items c.settle.new.waiting.items =
    subst
    (λ (b : Bool). Settled inside.heard all (if b then [] else all) inside.waiting.items c.settle.new.waiting.items)
    c.in-Ok-false.field-0-test c.in-Ok-false.ensures.settled in
    let settled : Settled inside.heard (inside.partial ++ front) c.append.new.self inside.waiting.items
    c.settle.new.waiting.items =
    subst
    (λ (after : List ℕ). Settled inside.heard (inside.partial ++ front) after inside.waiting.items
    c.settle.new.waiting.items)
    same
    (subst (λ (there : List ℕ). Settled inside.heard there all inside.waiting.items c.settle.new.waiting.items)
    grown heard) in
    let view : c.args.self.now ≡ feeding inside.heard inside.waiting.items inside.partial inside.failed =
    search rules in
    rw view (step_ok inside.heard inside.partial front left c.args.bytes.now c.append.new.self inside.waiting.items
    c.settle.new.waiting.items inside.failed whole settled)
