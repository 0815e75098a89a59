use Rattle.std.proofs.Common.{◌≡◌, ◌+◌, ◌++◌, List, [], ◌∷◌, map, take, sym, ap, ◌∙◌, subst}
use Rattle.std.proofs.lemmas.List.{take_more, map-append}
use Rattle.smack_rules.specs.declared.changes.PairChange.{PairChange}
use Rattle.smack_rules.specs.parts.Changes.{ChangeAlike, pair_change}
use Rattle.smack_rules.proofs.ChangeLists.{ChangeAlike-more}
use Rattle.smack_rules.proofs.table.follow_pairs.Goals as goal

pub loop-pair-preserved : goal.loop-pair-preserved
loop-pair-preserved c =
    let pairs = c.args.pairs.now in
    let at = c.loop-pair.pair-index in
    let pair = c.pair-item.result in
    let old = c.args.changes.now.changes.items in
    let kept = c.loop-pair.changes.changes.items in
    let newest = c.follow.new.self.changes.items in
    let before = map pair_change (take at pairs) in
    let made : PairChange = record { key = c.key.result; change = c.setting.result } in
    let is : made ≡ pair_change pair =
    λ i. record {
      key = c.key.ensures i;
      change = record { removed = c.setting.ensures.removed i; added = c.setting.ensures.added i };
    } in
    let more : map pair_change (take (at + 1) pairs) ≡ before ++ pair_change pair ∷ [] =
    ap (map pair_change)
    (take_more pairs at pair c.loop-pair-test.true ∙ ap (λ item. take at pairs ++ item ∷ []) (sym c.pair-item.is))
    ∙ map-append pair_change (take at pairs) (pair ∷ []) in
    subst (λ (others : List PairChange). ChangeAlike newest (old ++ others)) (sym more)
    (ChangeAlike-more old kept newest before (pair_change pair) c.loop-pair.invariant
    (subst (λ (change : PairChange). ChangeAlike newest (kept ++ change ∷ [])) is c.in_ok-follow.ensures))
