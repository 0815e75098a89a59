use Rattle.std.proofs.Common.{◌≡◌, ℕ, List, Bor, false, ap, sym, ◌∙◌}
use Rattle.cynara_keys.specs.Text.{same_text}
use Rattle.cynara_keys.specs.Field.{wildcard}
use Rattle.bucket_store.proofs.NameNumbering.{inserted-number}
use Rattle.bucket_store.proofs.name_numbers.NameNumbers.number.Goals as goal

pub returns-clause-number : goal.returns-clause-number
returns-clause-number c =
    let other : same_text c.args.text.now wildcard ≡ false =
    ap (same_text c.args.text.now) (sym c.as_slice.ensures) ∙ sym c.eq.ensures ∙ c.if-eq.false in
    inserted-number (λ (name : Bor (List ℕ)). name.now) c.self.inside.names.keys c.args.text c.insert_full.new.self.keys
    c.in_ok-place.place c.in_ok-place.ensures.keys c.in_ok-place.ensures.index other
