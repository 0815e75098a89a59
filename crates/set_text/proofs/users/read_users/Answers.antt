use Rattle.std.proofs.Common.{◌≡◌, ◌==◌, ◌++◌, ◌∷◌, [], length, Err, true, false, rules, arith, List, ◌<◌, subst, refl}
use Rattle.std.proofs.Common.{ap, sym, ◌∙◌, length-append}
use Rattle.app_registry.specs.declared.users.User.{User}
use Rattle.set_text.specs.Registry.{read_user}
use Rattle.set_text.proofs.TextLines.{values_behind-value, values_behind-wrong, values_behind-open, values_behind-done}
use Rattle.set_text.proofs.TextLines.{some-bytes}
use Rattle.set_text.proofs.ReadingUsers.{users-registry}
use Rattle.set_text.proofs.users.read_users.Goals as goal

pub returns-in_default-clause-read : goal.returns-in_default-clause-read
returns-in_default-clause-read c =
    let before = c.loop-rest.users.items in
    let rest = c.loop-rest.rest.now in
    let some : (length rest == 0) ≡ false = search rules in
    sym c.loop-rest.invariant.taken
    ∙ values_behind-open read_user before rest c.in_default.ensures.none (some-bytes rest some)
    ∙ ap (λ line. Err line) (sym c.loop-rest.invariant.counted)

pub returns-in_default-read_user-clause-read : goal.returns-in_default-read_user-clause-read
returns-in_default-read_user-clause-read c =
    let before = c.loop-rest.users.items in
    sym c.loop-rest.invariant.taken
    ∙ values_behind-wrong read_user before c.loop-rest.rest.now c.in-Some.line.now c.in-Some.after.now
    c.in-Some.ensures.cut c.in-Some.ensures.first (search rules)
    ∙ ap (λ line. Err line) (sym c.loop-rest.invariant.counted)

pub loop-rest-preserved : goal.loop-rest-preserved
loop-rest-preserved c =
    let before = c.loop-rest.users.items in
    let user = c.in-Some-read_user.user in
    let pushed : c.push.new.self.items ≡ before ++ user ∷ [] = search rules in
    let room : length before < 64 = subst (λ (users : List User). length users < 64) c.deref.ensures.value
    (c.in-Some-read_user.ensures.room refl) in
    record {
      counted = rw pushed (omega (arith, length-append before (user ∷ []), c.loop-rest.invariant.counted));
      few = rw pushed (omega (arith, length-append before (user ∷ []), room));
      taken = rw pushed
          (sym (values_behind-value read_user before c.loop-rest.rest.now c.in-Some.line.now c.in-Some.after.now user
          c.in-Some.ensures.cut c.in-Some.ensures.first (search rules))
          ∙ c.loop-rest.invariant.taken);
    }

pub returns-clause-kept : goal.returns-clause-kept
returns-clause-kept c =
    let done : (length c.loop-rest.rest.now == 0) ≡ true = search rules in
    users-registry c.args.text.now c.loop-rest.users.items
    (sym c.loop-rest.invariant.taken ∙ values_behind-done read_user c.loop-rest.users.items c.loop-rest.rest.now done)
