use Rattle.std.proofs.Common.{◌≡◌, ◌+◌, List, ℕ, None, Some, sym, ap, ◌∙◌, subst, arith, length}
use Rattle.std.specs.List.{position}
use Rattle.cynara_keys.specs.Text.{same_text}
use Rattle.bucket_eval.proofs.Growing.{place-behind, place-front, place-in, place-neither}
use Rattle.bucket_eval.proofs.names.Names.place.Goals as goal

-- in front
pub returns-in-Some : goal.returns-in-Some
returns-in-Some c =
    subst (λ (names : List (List ℕ)). Some c.in-Some.place ≡ position (same_text c.args.text.now) names) c.self.view_is
    (place-front (λ v. v.items) c.self.inside.front.value.keys c.self.inside.behind.keys c.args.text.now c.in-Some.place
    (sym c.in-Some.is
    ∙ place-in (λ v. v.items) c.args.text.now c.deref.result.now.keys c.self.inside.front.value.keys c.get_index_of.result
    c.get_index_of.ensures.index (λ i. (c.deref.ensures i).keys)))

-- in neither
pub returns-in_default-get_index_of : goal.returns-in_default-get_index_of
returns-in_default-get_index_of c =
    subst (λ (names : List (List ℕ)). None ≡ position (same_text c.args.text.now) names) c.self.view_is
    (place-neither (λ v. v.items) c.self.inside.front.value.keys c.self.inside.behind.keys c.args.text.now
    (sym c.in_default.is
    ∙ place-in (λ v. v.items) c.args.text.now c.deref.result.now.keys c.self.inside.front.value.keys c.get_index_of.result
    c.get_index_of.ensures.index (λ i. (c.deref.ensures i).keys))
    (sym c.in_default-get_index_of.is ∙ c.get_index_of-2.ensures.index))

pub overflow_add-result : goal.overflow_add-result
overflow_add-result c =
    let behind = c.len.ensures.small in
    let front = c.len-2.ensures.small in
    let count = c.len.ensures.len in
    let within = c.in-Some-get_index_of.ensures.within in
    omega (arith, front, behind, count, within)

-- behind
pub returns : goal.returns
returns c =
    ap Some
    (ap (λ n. n + c.in-Some-get_index_of.place) (c.len-2.ensures.len ∙ (λ i. length ((c.deref-2.ensures i).keys))))
    ∙ subst (λ (names : List (List ℕ)). Some (length c.self.inside.front.value.keys + c.in-Some-get_index_of.place)
    ≡ position (same_text c.args.text.now) names) c.self.view_is
    (place-behind (λ v. v.items) c.self.inside.front.value.keys c.self.inside.behind.keys c.args.text.now
    c.in-Some-get_index_of.place
    (sym c.in_default.is
    ∙ place-in (λ v. v.items) c.args.text.now c.deref.result.now.keys c.self.inside.front.value.keys c.get_index_of.result
    c.get_index_of.ensures.index (λ i. (c.deref.ensures i).keys))
    (sym c.in-Some-get_index_of.is ∙ c.get_index_of-2.ensures.index))
