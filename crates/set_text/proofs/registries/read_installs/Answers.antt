use Rattle.std.proofs.Common.{◌≡◌, ◌==◌, ◌++◌, ◌∷◌, [], List, length, Err, true, false, rules, arith, subst, sym, ap}
use Rattle.std.proofs.Common.{◌∙◌, length-append}
use Rattle.app_registry.specs.Rules.{IsRegistry}
use Rattle.app_registry.specs.declared.installs.Install.{Install}
use Rattle.set_text.specs.Lines.{kept}
use Rattle.set_text.specs.Registry.{install_fits, read_install, install_of, installs_of}
use Rattle.set_text.specs.parts.Reads.{RefusesFile}
use Rattle.set_text.specs.parts.Standing.{package_with, counts_of, noted}
use Rattle.set_text.proofs.ReadingInstalls.{registry-more, package_with-more}
use Rattle.set_text.proofs.ReadingValues.{kept-right, kept-wrong}
use Rattle.set_text.proofs.Refusing.{refuses-at}
use Rattle.set_text.proofs.TextLines.{values_behind-value, values_behind-wrong, values_behind-open, some-bytes}
use Rattle.set_text.proofs.registries.read_installs.Goals as goal

pub returns-in_default-clause-read : goal.returns-in_default-clause-read
returns-in_default-clause-read c =
    let before = c.loop-rest.installs.items in
    let rest = c.loop-rest.rest.now in
    let some : (length rest == 0) ≡ false = search rules in
    sym c.loop-rest.invariant.taken
    ∙ values_behind-open (read_install c.args.users.now) before rest c.in_default.ensures.none (some-bytes rest some)
    ∙ ap (λ line. Err line) (sym c.loop-rest.invariant.numbered)

pub returns-in-Err-clause-read : goal.returns-in-Err-clause-read
returns-in-Err-clause-read c =
    let users = c.args.users.now in
    let before = c.loop-rest.installs.items in
    let line = c.in-Some.line.now in
    subst (λ fault. RefusesFile fault (installs_of users c.args.text.now)) (sym c.at.ensures)
    (refuses-at c.in-Err.fault c.loop-rest.number (install_of line)
    (installs_of users c.args.text.now) c.in-Err.ensures (λ wrong.
    sym c.loop-rest.invariant.taken
    ∙ values_behind-wrong (read_install users) before c.loop-rest.rest.now line c.in-Some.after.now
    c.in-Some.ensures.cut c.in-Some.ensures.first
    (ap (kept (install_fits users before)) wrong)
    ∙ ap (λ line. Err line) (sym c.loop-rest.invariant.numbered)))

pub returns-then-not-fits-clause-read : goal.returns-then-not-fits-clause-read
returns-then-not-fits-clause-read c =
    let users = c.args.users.now in
    let before = c.loop-rest.installs.items in
    let install = c.in-Ok.install in
    let wrong = subst (λ (list : List Install). install_fits users list install
    ≡ false) c.deref-in-loop-rest.ensures.value
    (sym c.fits.ensures ∙ c.if-not-fits.true) in
    sym c.loop-rest.invariant.taken
    ∙ values_behind-wrong (read_install users) before c.loop-rest.rest.now c.in-Some.line.now c.in-Some.after.now
    c.in-Some.ensures.cut c.in-Some.ensures.first
    (ap (kept (install_fits users before)) c.in-Ok.ensures ∙ kept-wrong (install_fits users before) install wrong)
    ∙ ap (λ line. Err line) (sym c.loop-rest.invariant.numbered)

pub loop-rest-preserved : goal.loop-rest-preserved
loop-rest-preserved c =
    let users = c.args.users.now in
    let before = c.loop-rest.installs.items in
    let install = c.in-Ok.install in
    let pushed : c.push.new.self.items ≡ before ++ install ∷ [] = search rules in
    let right = subst (λ (list : List Install). install_fits users list install
    ≡ true) c.deref-in-loop-rest.ensures.value
    (sym c.fits.ensures ∙ c.if-not-fits.false) in
    record {
      numbered = rw pushed (omega (arith, length-append before (install ∷ []), c.loop-rest.invariant.numbered));
      kept = subst (IsRegistry users) (sym pushed)
          (registry-more users before install c.loop-rest.invariant.kept right);
      noted = λ app. c.in_default-note.ensures app ∙ ap (noted install app) (c.loop-rest.invariant.noted app)
          ∙ sym (package_with-more before install app) ∙ sym (ap (λ list. package_with list app) pushed);
      counted = c.with-next.ensures
          ∙ ap (λ (list : List Install). counts_of (list ++ install ∷ [])) c.deref.ensures.value
          ∙ sym (ap counts_of pushed);
      taken = rw pushed (sym (values_behind-value
          (read_install users) before c.loop-rest.rest.now c.in-Some.line.now c.in-Some.after.now install
          c.in-Some.ensures.cut c.in-Some.ensures.first
          (ap (kept (install_fits users before)) c.in-Ok.ensures
          ∙ kept-right (install_fits users before) install right))
          ∙ c.loop-rest.invariant.taken);
    }
