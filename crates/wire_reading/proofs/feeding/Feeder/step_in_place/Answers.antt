use Rattle.std.proofs.Common.{rules, ◌≡◌, ◌++◌, if◌then◌else◌, [], Bool, List, ℕ, ap, subst}
use Rattle.wire_reading.specs.parts.Feeding.{Settled, Unsettled}
use Rattle.wire_reading.proofs.Settling.{cut-in-two, step_ok, step_err, step_lost, feeding}
use Rattle.wire_reading.proofs.feeding.Feeder.step_in_place.Goals as goal

pub returns-in-Err-clause-refused : goal.returns-in-Err-clause-refused
returns-in-Err-clause-refused c =
    let inside = c.self.inside in
    let front = c.split_at.result.0.now in
    let left = c.split_at.result.1.now in
    let whole = cut-in-two c.args.bytes.now front left _ c.split_at.ensures.front c.split_at.ensures.back in
    let empty : inside.partial ≡ [] = search rules in
    let wrong : Unsettled inside.heard (inside.partial ++ front) inside.waiting.items c.settle.new.waiting.items
    c.in-Err.refusal =
    rw empty c.in-Err.ensures.refused in
    let view : c.args.self.now ≡ feeding inside.heard inside.waiting.items inside.partial inside.failed =
    search rules in
    rw view (step_err inside.heard inside.partial front left c.args.bytes.now inside.partial inside.waiting.items
    c.settle.new.waiting.items inside.failed c.in-Err.refusal whole wrong)

pub returns-in-Ok-true-clause-stepped : goal.returns-in-Ok-true-clause-stepped
returns-in-Ok-true-clause-stepped c =
    let inside = c.self.inside in
    let front = c.split_at.result.0.now in
    let left = c.split_at.result.1.now in
    let whole = cut-in-two c.args.bytes.now front left _ c.split_at.ensures.front c.split_at.ensures.back in
    let empty : inside.partial ≡ [] = search rules in
    let heard : Settled inside.heard front [] inside.waiting.items c.settle.new.waiting.items =
    subst
    (λ (b : Bool). Settled inside.heard front (if b then [] else front) inside.waiting.items c.settle.new.waiting.items)
    c.in-Ok-true.field-0-test c.in-Ok-true.ensures.settled in
    let settled : Settled inside.heard (inside.partial ++ front) inside.partial inside.waiting.items
    c.settle.new.waiting.items =
    rw empty heard in
    let view : c.args.self.now ≡ feeding inside.heard inside.waiting.items inside.partial inside.failed =
    search rules in
    rw view (step_ok inside.heard inside.partial front left c.args.bytes.now inside.partial inside.waiting.items
    c.settle.new.waiting.items inside.failed whole settled)

pub returns-in-Err-append-clause-refused : goal.returns-in-Err-append-clause-refused
returns-in-Err-append-clause-refused c =
    let inside = c.self.inside in
    let front = c.split_at.result.0.now in
    let left = c.split_at.result.1.now in
    let whole = cut-in-two c.args.bytes.now front left _ c.split_at.ensures.front c.split_at.ensures.back in
    let empty : inside.partial ≡ [] = search rules in
    let kept : Settled inside.heard front front inside.waiting.items c.settle.new.waiting.items =
    subst
    (λ (b : Bool). Settled inside.heard front (if b then [] else front) inside.waiting.items c.settle.new.waiting.items)
    c.in-Ok-false.field-0-test c.in-Ok-false.ensures.settled in
    let settled : Settled inside.heard (inside.partial ++ front) front inside.waiting.items c.settle.new.waiting.items =
    rw empty kept in
    let view : c.args.self.now ≡ feeding inside.heard inside.waiting.items inside.partial inside.failed =
    search rules in
    rw view (step_lost inside.heard inside.partial front left c.args.bytes.now front c.append.new.self
    inside.waiting.items c.settle.new.waiting.items inside.failed c.in-Err-append.error whole settled)

pub returns-in_default-clause-stepped : goal.returns-in_default-clause-stepped
returns-in_default-clause-stepped c =
    let inside = c.self.inside in
    let front = c.split_at.result.0.now in
    let left = c.split_at.result.1.now in
    let whole = cut-in-two c.args.bytes.now front left _ c.split_at.ensures.front c.split_at.ensures.back in
    let empty : inside.partial ≡ [] = search rules in
    let same : inside.partial ++ front ≡ front = ap (λ (there : List ℕ). there ++ front) empty in
    let grown : c.append.new.self ≡ inside.partial ++ front = search rules in
    let kept : Settled inside.heard front front inside.waiting.items c.settle.new.waiting.items =
    subst
    (λ (b : Bool). Settled inside.heard front (if b then [] else front) inside.waiting.items c.settle.new.waiting.items)
    c.in-Ok-false.field-0-test c.in-Ok-false.ensures.settled in
    let settled : Settled inside.heard (inside.partial ++ front) c.append.new.self inside.waiting.items
    c.settle.new.waiting.items =
    rw (grown, same) kept in
    let view : c.args.self.now ≡ feeding inside.heard inside.waiting.items inside.partial inside.failed =
    search rules in
    rw view (step_ok inside.heard inside.partial front left c.args.bytes.now c.append.new.self inside.waiting.items
    c.settle.new.waiting.items inside.failed whole settled)
