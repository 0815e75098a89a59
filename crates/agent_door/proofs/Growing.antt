-- Rounds that grow: a further turn in the last one, and a further round.
use Rattle.std.proofs.Common.{◌≡◌, ◌∙◌, List, [], ◌∷◌, ◌++◌, length, suc, Ok, refl, sym, ap, append_assoc, append-nil}
use Rattle.std.proofs.lemmas.Grind.{flat_map-append}
use Rattle.std.proofs.lemmas.List.{map-append}
use Rattle.std.specs.List.{AllByRecursion, flat_map}
use Rattle.cynara_keys.specs.declared.results.Kind.{Kind}
use Rattle.agent_table.specs.declared.table.Asked.{Asked}
use Rattle.wire_fields.specs.declared.messages.Framed.{Framed}
use Rattle.server_hall.specs.declared.calls.HallCall.{HallCall}
use Rattle.server_hall.specs.declared.calls.HallCall.TheVariants.{Next}
use Rattle.agent_door.specs.Frame.{question_frame}
use Rattle.agent_door.specs.Round.{Turn, Round, IsInVain, turn_call, round_calls, rounds_calls, turn_frames, round_frames, rounds_frames}
use Rattle.agent_door.specs.Round.{turn_told, round_told, rounds_told}

-- the last of some lists goes on
last_grows : {A : Type 0} (f : Round → List A) (rounds : List Round) (old new : Round) (more : List A) → f new ≡ f old ++ more
    → flat_map f (rounds ++ new ∷ []) ≡ flat_map f (rounds ++ old ∷ []) ++ more
last_grows f rounds old new more is =
    flat_map-append f rounds (new ∷ [])
    ∙ (ap (λ list. flat_map f rounds ++ list) (append-nil (f new) ∙ (is ∙ ap (λ list. list ++ more) (sym (append-nil (f old)))))
    ∙ (sym (append_assoc (flat_map f rounds) (f old ++ []) more) ∙ ap (λ list. list ++ more) (sym (flat_map-append f rounds (old ∷ [])))))

-- one more list
one_more : {A : Type 0} (f : Round → List A) (rounds : List Round) (new : Round)
    → flat_map f (rounds ++ new ∷ []) ≡ flat_map f (rounds ++ []) ++ f new
one_more f rounds new =
    flat_map-append f rounds (new ∷ [])
    ∙ (ap (λ list. flat_map f rounds ++ list) (append-nil (f new))
    ∙ ap (λ (list : List Round). flat_map f list ++ f new) (sym (append-nil rounds)))

abbrev pub round_of : Asked → List Turn → Round
round_of asked turns = record { asked = asked; turns = turns }

-- with a further turn
abbrev pub with_turn : Asked → List Turn → Turn → Round
with_turn asked turns one = record { asked = asked; turns = turns ++ one ∷ [] }

-- ---- a further turn

pub calls_grow : (kind : Kind) (rounds : List Round) (asked : Asked) (turns : List Turn) (one : Turn)
    → rounds_calls kind (rounds ++ with_turn asked turns one ∷ [])
    ≡ rounds_calls kind (rounds ++ round_of asked turns ∷ []) ++ turn_call kind asked one ∷ []
calls_grow kind rounds asked turns one =
    last_grows (round_calls kind) rounds (round_of asked turns) (with_turn asked turns one) (turn_call kind asked one ∷ [])
    (ap (λ (list : List HallCall). Next (record { kind = kind; result = Ok asked }) ∷ list)
    (map-append (turn_call kind asked) turns (one ∷ [])))

pub frames_grow : (rounds : List Round) (asked : Asked) (turns : List Turn) (one : Turn)
    → rounds_frames (rounds ++ with_turn asked turns one ∷ [])
    ≡ rounds_frames (rounds ++ round_of asked turns ∷ []) ++ turn_frames one
frames_grow rounds asked turns one =
    last_grows round_frames rounds (round_of asked turns) (with_turn asked turns one) (turn_frames one)
    (flat_map-append turn_frames turns (one ∷ [])
    ∙ ap (λ (list : List Framed). flat_map turn_frames turns ++ list) (append-nil (turn_frames one)))

pub told_grows : (kind : Kind) (rounds : List Round) (asked : Asked) (turns : List Turn) (one : Turn)
    → rounds_told kind (rounds ++ with_turn asked turns one ∷ [])
    ≡ rounds_told kind (rounds ++ round_of asked turns ∷ []) ++ turn_told asked one
told_grows kind rounds asked turns one =
    last_grows (round_told kind) rounds (round_of asked turns) (with_turn asked turns one) (turn_told asked one)
    (ap (λ (list : List Framed). question_frame kind asked ∷ list)
    (flat_map-append (turn_told asked) turns (one ∷ [])
    ∙ ap (λ (list : List Framed). flat_map (turn_told asked) turns ++ list) (append-nil (turn_told asked one))))

-- ---- a further round

pub calls_open : (kind : Kind) (rounds : List Round) (asked : Asked)
    → rounds_calls kind (rounds ++ round_of asked [] ∷ [])
    ≡ rounds_calls kind (rounds ++ []) ++ Next (record { kind = kind; result = Ok asked }) ∷ []
calls_open kind rounds asked = one_more (round_calls kind) rounds (round_of asked [])

pub frames_open : (rounds : List Round) (asked : Asked) → rounds_frames (rounds ++ round_of asked [] ∷ []) ≡ rounds_frames (rounds ++ [])
frames_open rounds asked = one_more round_frames rounds (round_of asked []) ∙ append-nil (rounds_frames (rounds ++ []))

pub told_open : (kind : Kind) (rounds : List Round) (asked : Asked)
    → rounds_told kind (rounds ++ round_of asked [] ∷ []) ≡ rounds_told kind (rounds ++ []) ++ question_frame kind asked ∷ []
told_open kind rounds asked = one_more (round_told kind) rounds (round_of asked [])

-- ---- turns in vain

pub vain_more : (asked : Asked) (turns : List Turn) (one : Turn) → AllByRecursion (IsInVain asked) turns → IsInVain asked one
    → AllByRecursion (IsInVain asked) (turns ++ one ∷ [])
vain_more asked [] one all vain = (vain, tt)
vain_more asked (first ∷ turns) one (is, all) vain = (is, vain_more asked turns one all vain)

pub count_more : (turns : List Turn) (one : Turn) → length (turns ++ one ∷ []) ≡ suc (length turns)
count_more [] one = refl
count_more (first ∷ turns) one = ap suc (count_more turns one)

pub whole_more : (P : Round → Type 0) (rounds : List Round) (round : Round) → AllByRecursion P rounds → P round
    → AllByRecursion P (rounds ++ round ∷ [])
whole_more P [] round all is = (is, tt)
whole_more P (first ∷ rounds) round (it, all) is = (it, whole_more P rounds round all is)
