use Rattle.std.proofs.Common.{ap, length, ◌≡◌, rules}
use Rattle.state_list.proofs.Adding.{adds_moves}
use Rattle.state_list.proofs.words.Book.put_behind.Goals as goal

pub compare_exchange-found-requires : goal.compare_exchange-found-requires
compare_exchange-found-requires g c =
    let h = c.args.self.now.head_is in
    let offer = c.plain-offer.ensures in
    let pen = c.no_pen-pen.ensures in
    let len : length c.again-seen.result.log ≡ c.count-count.result = search rules in (
      ap (λ w. w.tracked) h,
      search rules,
      search rules,
      offer.0,
      rw (ap (λ w. w.key) h, pen.1, offer.1, offer.3) (adds_moves c.again-seen.result.log c.args.entry.now.value c.count-count.result len),
    )
