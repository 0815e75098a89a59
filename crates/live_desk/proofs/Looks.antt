-- What a look at a copy tells of what a seat has then seen, and how the published states grow.
use Rattle.std.proofs.Common.{◌≡◌, ◌<◌, ◌≤◌, refl, ℕ, Bool, true, false, List, [], ◌∷◌, ◌++◌, Option, Some, None, IfSome, MatchBool, sym, ap, ◌∙◌, subst, fold}
use Rattle.std.proofs.lemmas.List.{append-nil, append_assoc}
use Rattle.std.proofs.lemmas.List.Sums.{fold-append}
use Rattle.std.specs.Bool.{OnTrue}
use mathlib.Core.List.{IsPrefix}
use Rattle.cynara_keys.specs.Key.{Question}
use Rattle.desk_state.specs.DeskState.{DeskState}
use Rattle.live_desk.specs.declared.verdicts.BorrowedVerdict.{BorrowedVerdict}
use Rattle.live_desk.specs.History.{GoesOn, Rises, RisesFrom, last_commit}
use Rattle.live_desk.specs.Shown.{ShownState, IsShown}
use Rattle.live_desk.specs.Seat.{SeatState, HasSeen, IsTold, Tells}
use Rattle.live_desk.specs.Holding.{AtLast}

pub goes_on_all : (xs : List DeskState) → GoesOn xs xs
goes_on_all xs = ([], sym (append-nil xs))

pub goes_on_then : (xs ys zs : List DeskState) → GoesOn xs ys → GoesOn ys zs → GoesOn xs zs
goes_on_then xs ys zs (more, is) (rest, then) =
    (more ++ rest, then ∙ ap (λ (ws : List DeskState). ws ++ rest) is ∙ append_assoc xs more rest)

pub goes_on_prefix : (xs ys : List DeskState) → IsPrefix xs ys → GoesOn xs ys
goes_on_prefix xs ys (more, is) = (more, sym is)

-- whose front begins the other's
pub covers : (b : Bool) (xs ys : List DeskState) → OnTrue b (IsPrefix xs ys) → OnTrue b (GoesOn xs ys)
covers true xs ys begins = goes_on_prefix xs ys begins
covers false xs ys begins = tt

-- a front that caught up with what was shown
pub caught : (b : Bool) (states old new : List DeskState) (desk : DeskState) (note : ℕ) → MatchBool b (new ≡ states) (new ≡ old)
    → IsShown states desk → note ≤ desk.commit → OnTrue b (HasSeen note (Some desk) new)
caught true states old new desk note is shown from =
    let all = subst (λ (l : List DeskState). IsShown l desk) (sym is) shown in (all.0, all.1, from)
caught false states old new desk note is shown from = tt

pub seen_tells : (now : Option DeskState) (question : Question) (seat : SeatState) (Told : BorrowedVerdict → Type 0)
    → HasSeen seat.note now seat.seen → IfSome now (λ desk. IsTold question desk Told) → Tells question seat Told
seen_tells None question seat Told has told = absurd has
seen_tells (Some desk) question seat Told has told = (desk, has.0, has.1, has.2, told)

pub holds_at_last : (now : Option DeskState) (seat : SeatState) (Is : DeskState → Type 0)
    → HasSeen seat.note now seat.seen → IfSome now Is → AtLast seat Is
holds_at_last None seat Is has is = absurd has
holds_at_last (Some desk) seat Is has is = (desk, has.0, has.1, has.2, is)

-- ---- one state more

rises_from_snoc : (low : ℕ) (xs : List DeskState) (d : DeskState) → RisesFrom low xs → last_commit low xs < d.commit → RisesFrom low (xs ++ d ∷ [])
rises_from_snoc low [] d rises above = (above, tt)
rises_from_snoc low (x ∷ xs) d rises above = (rises.0, rises_from_snoc x.commit xs d rises.1 above)

rises_snoc : (xs : List DeskState) (d : DeskState) → Rises xs → last_commit 0 xs < d.commit → Rises (xs ++ d ∷ [])
rises_snoc [] d rises above = tt
rises_snoc (x ∷ xs) d rises above = rises_from_snoc x.commit xs d rises above

last_snoc : (low : ℕ) (xs : List DeskState) (d : DeskState) → last_commit low (xs ++ d ∷ []) ≡ d.commit
last_snoc low [] d = refl
last_snoc low (x ∷ xs) d = last_snoc x.commit xs d

-- what is put behind others is the last of all, and their commits rise
pub shown_behind : (xs ys : List DeskState) (d : DeskState) → ys ≡ xs ++ d ∷ [] → Rises xs → last_commit 0 xs < d.commit → IsShown ys d
shown_behind xs ys d is rises above =
    ((xs, is), subst (λ (l : List DeskState). Rises l) (sym is) (rises_snoc xs d rises above))

pub last_behind : (xs ys : List DeskState) (d : DeskState) → ys ≡ xs ++ d ∷ [] → last_commit 0 ys ≡ d.commit
last_behind xs ys d is = ap (λ (l : List DeskState). last_commit 0 l) is ∙ last_snoc 0 xs d

-- the first of all
pub shown_first : (ys : List DeskState) (d : DeskState) → ys ≡ d ∷ [] → IsShown ys d
shown_first ys d is = (([], is), subst (λ (l : List DeskState). Rises l) (sym is) tt)

pub last_first : (ys : List DeskState) (d : DeskState) → ys ≡ d ∷ [] → last_commit 0 ys ≡ d.commit
last_first ys d is = ap (λ (l : List DeskState). last_commit 0 l) is

-- the last operation is what is shown behind all of them
pub shown_last : (start : Option ShownState) (more all : List ShownState) (shown : ShownState) → all ≡ more ++ shown ∷ []
    → fold (λ _ next. Some next) start all ≡ Some shown
shown_last start more all shown is =
    let f : Option ShownState → ShownState → Option ShownState = λ _ next. Some next in
    ap (λ (ops : List ShownState). fold f start ops) is ∙ fold-append f start more (shown ∷ [])
