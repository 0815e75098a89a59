-- What the lines of a text give, and what they have been: a text has one reading, and its values have one text.
use Rattle.std.proofs.Common.{◌≡◌, ℕ, ◌+◌, ◌-◌, ◌≤◌, Bool, true, false, cond, ◌&&◌, ltb, List, [], ◌∷◌, ◌++◌, length}
use Rattle.std.proofs.Common.{map, Option, Some, None, Result, Ok, Err, refl, sym, ap, subst, ◌∙◌, arith, append_assoc}
use Rattle.std.proofs.Common.{append-nil, length-append}
use Rattle.std.specs.declared.cmp.Ordering.{Ordering}
use Rattle.std.specs.declared.cmp.Ordering.TheVariants.{Less}
use Rattle.std.specs.Cmp.{IsTotalOrder}
use Rattle.std.specs.Option.{option_map, option_and_then}
use Rattle.std.specs.Ordering.{is_lt}
use Rattle.std.specs.List.{AllByRecursion, onto_first, slice_get}
use Rattle.std.specs.List.Sorted.{IsStrictlySortedBy}
use Rattle.std.proofs.lemmas.Bool.{and_parts, eqb-true, lt-ltb, ltb-true}
use Rattle.bucket_store.proofs.Lists.{All-weaker}
use Rattle.bucket_store.proofs.Searching.{lt-Less}
use Rattle.text_lines.specs.Lines.{is_newline, HasNoNewline, pieces_of}
use Rattle.set_text.specs.Lines.{text_of, whole_line, whole_lines, values_behind, values_of, at_least_one, kept}
use Rattle.set_text.specs.Lines.{last_of, is_above, rises_above}
use Rattle.set_text.proofs.RoundTrips.{ReadBack, values-text}

-- ---- tests of a value in the light of those before it

module _ {X : Type 0} where
  abbrev pub AllFit : (List X → X → Bool) → List X → List X → Type 0
  AllFit fits before [] = Unit {0}
  AllFit fits before (value ∷ values) = (fits before value ≡ true) × AllFit fits (before ++ value ∷ []) values

  pub fit-both : (fits others : List X → X → Bool) (before values : List X) → AllFit fits before values
      → AllFit others before values
      → AllFit (λ before value. fits before value && others before value) before values
  fit-both fits others before [] fit other = tt
  fit-both fits others before (value ∷ values) fit other = (
    ap (λ b. b && others before value) fit.0 ∙ other.0,
    fit-both fits others (before ++ value ∷ []) values fit.1 other.1,
  )

  pub fit-first : (fits others : List X → X → Bool) (before values : List X)
      → AllFit (λ before value. fits before value && others before value) before values → AllFit fits before values
  fit-first fits others before [] fit = tt
  fit-first fits others before (value ∷ values) fit = (
    (and_parts (fits before value) (others before value) fit.0).0,
    fit-first fits others (before ++ value ∷ []) values fit.1,
  )

  pub fit-second : (fits others : List X → X → Bool) (before values : List X)
      → AllFit (λ before value. fits before value && others before value) before values → AllFit others before values
  fit-second fits others before [] fit = tt
  fit-second fits others before (value ∷ values) fit = (
    (and_parts (fits before value) (others before value) fit.0).1,
    fit-second fits others (before ++ value ∷ []) values fit.1,
  )

  -- a test that does not look at the values before
  pub fit-each : (test : X → Bool) (before values : List X) → AllByRecursion (λ value. test value ≡ true) values
      → AllFit (λ before value. test value) before values
  fit-each test before [] all = tt
  fit-each test before (value ∷ values) all = (all.0, fit-each test (before ++ value ∷ []) values all.1)

  pub each-fit : (test : X → Bool) (before values : List X) → AllFit (λ before value. test value) before values
      → AllByRecursion (λ value. test value ≡ true) values
  each-fit test before [] fit = tt
  each-fit test before (value ∷ values) fit = (fit.0, each-fit test (before ++ value ∷ []) values fit.1)

  -- ---- the values rise

  get-end : (xs : List X) (x : X) → slice_get (xs ++ x ∷ []) (length xs) ≡ Some x
  get-end [] x = refl
  get-end (y ∷ xs) x = get-end xs x

  pub last_of-end : (xs : List X) (x : X) → last_of (xs ++ x ∷ []) ≡ Some x
  last_of-end xs x =
      let at : length (xs ++ x ∷ []) - 1 ≡ length xs = omega (arith, length-append xs (x ∷ [])) in
      ap (slice_get (xs ++ x ∷ [])) at ∙ get-end xs x

  module _ (cmp : X → X → Ordering) where
    behind-fit : (before : List X) (value : X) (values : List X) → AllByRecursion (λ next. cmp value next ≡ Less) values
        → IsStrictlySortedBy cmp values → AllFit (rises_above cmp) (before ++ value ∷ []) values
    unfolding IsStrictlySortedBy
    behind-fit before value [] below rest = tt
    behind-fit before value (next ∷ values) below rest = (
      ap (λ last. is_above cmp last next) (last_of-end before value) ∙ ap is_lt below.0,
      behind-fit (before ++ value ∷ []) next values rest.0 rest.1,
    )

    pub rises-fit : (values : List X) → IsStrictlySortedBy cmp values → AllFit (rises_above cmp) [] values
    unfolding IsStrictlySortedBy
    rises-fit [] rise = tt
    rises-fit (value ∷ values) rise = (refl, behind-fit [] value values rise.0 rise.1)

    fit-behind : IsTotalOrder cmp → (before : List X) (value : X) (values : List X)
        → AllFit (rises_above cmp) (before ++ value ∷ []) values
        → AllByRecursion (λ next. cmp value next ≡ Less) values × IsStrictlySortedBy cmp values
    unfolding IsStrictlySortedBy
    fit-behind order before value [] fit = (tt, tt)
    fit-behind order before value (next ∷ values) fit =
        let less : cmp value next ≡ Less =
        lt-Less (cmp value next) (sym (ap (λ last. is_above cmp last next) (last_of-end before value)) ∙ fit.0) in
        let later = fit-behind order (before ++ value ∷ []) next values fit.1 in (
          (
            less,
            All-weaker (λ other. cmp next other ≡ Less) (λ other. cmp value other ≡ Less)
                (λ other above. order.trans value next other less above) values later.0,
          ),
          (later.0, later.1),
        )

    pub fit-rises : IsTotalOrder cmp → (values : List X) → AllFit (rises_above cmp) [] values
        → IsStrictlySortedBy cmp values
    unfolding IsStrictlySortedBy
    fit-rises order [] fit = tt
    fit-rises order (value ∷ values) fit = fit-behind order [] value values fit.1

  -- ---- there are no more than there may be

  module _ (count : List X → ℕ)
      (step : (before : List X) (value : X) → count (before ++ value ∷ []) ≡ count before + 1) (most : ℕ) where
    pub few-fit : (before values : List X) → count before + length values ≤ most
        → AllFit (λ before value. ltb (count before) most) before values
    few-fit before [] few = tt
    few-fit before (value ∷ values) few = (
      lt-ltb (count before) most (omega (arith, few)),
      few-fit (before ++ value ∷ []) values (omega (arith, few, step before value)),
    )

    pub fit-few : (before values : List X) → count before ≤ most
        → AllFit (λ before value. ltb (count before) most) before values
        → count before + length values ≤ most
    fit-few before [] small fit = omega (arith, small)
    fit-few before (value ∷ values) small fit =
        let here = ltb-true (count before) most fit.0 in
        let rest = fit-few (before ++ value ∷ []) values (omega (arith, here, step before value)) fit.1 in
        omega (arith, rest, step before value)

  -- ---- values read back

  pub read-back : (fits : List X → X → Bool) (parse : List ℕ → Option X) (spell : X → List ℕ) (before values : List X)
      → AllByRecursion (λ value. HasNoNewline (spell value) × (parse (spell value) ≡ Some value)) values
      → AllFit fits before values
      → ReadBack (λ before line. kept (fits before) (parse line)) spell before values
  read-back fits parse spell before [] all fit = tt
  read-back fits parse spell before (value ∷ values) all fit = (
    all.0.0,
    ap (kept (fits before)) all.0.1 ∙ ap (λ b. cond b (Some value) None) fit.0,
    read-back fits parse spell (before ++ value ∷ []) values all.1 fit.1,
  )

  -- the text of values that fit reads back as the values
  pub values-read : (fits : List X → X → Bool) (parse : List ℕ → Option X) (spell : X → List ℕ) (values : List X)
      → AllByRecursion (λ value. HasNoNewline (spell value) × (parse (spell value) ≡ Some value)) values
      → AllFit fits [] values
      → values_of (λ before line. kept (fits before) (parse line)) (text_of spell values) ≡ Ok values
  values-read fits parse spell values all fit =
      values-text (λ before line. kept (fits before) (parse line)) spell [] values
      (read-back fits parse spell [] values all fit)

-- ---- what lines have been

some-tail : (byte : ℕ) (found : Option (List ℕ)) (line : List ℕ) → option_map (λ line. byte ∷ line) found ≡ Some line
    → (rest : List ℕ) × (found ≡ Some rest) × (line ≡ byte ∷ rest)
some-tail byte None line h = cc
some-tail byte (Some rest) line h = (rest, refl, cc)

whole_line-on : (byte : ℕ) (piece : List ℕ) → is_newline byte ≡ false
    → whole_line (byte ∷ piece) ≡ option_map (λ line. byte ∷ line) (whole_line piece)
whole_line-on byte piece other =
    ap (λ b. cond b (Some []) (option_map (λ line. byte ∷ line) (whole_line piece))) other

head-is : (first : Option (List ℕ)) (rest others : List (Option (List ℕ))) (line : List ℕ)
    → first ∷ rest ≡ Some line ∷ others
    → (first ≡ Some line) × (rest ≡ others)
head-is first rest others line h = (cc, cc)

-- a text whose lines are all whole is these lines, each with a newline
pub lines-text : (text : List ℕ) (lines : List (List ℕ)) → whole_lines text ≡ map (λ line. Some line) lines
    → text ≡ text_of (λ line. line) lines
lines-text [] [] h = refl
lines-text [] (line ∷ lines) h = cc
lines-text (byte ∷ bytes) lines h = by (is_newline byte) refl (pieces_of bytes) refl lines h (lines-text bytes)
  where
    by : (newline : Bool) → is_newline byte ≡ newline → (pieces : List (List ℕ)) → pieces_of bytes ≡ pieces
        → (lines : List (List ℕ))
        → map whole_line (cond newline ((byte ∷ []) ∷ pieces) (onto_first byte pieces)) ≡ map (λ line. Some line) lines
        → ((lines : List (List ℕ)) → map whole_line (pieces_of bytes) ≡ map (λ line. Some line) lines
        → bytes ≡ text_of (λ line. line) lines)
        → byte ∷ bytes ≡ text_of (λ line. line) lines
    by true is pieces are [] h rest = cc
    by true is pieces are (line ∷ lines) h rest =
        let first : whole_line (byte ∷ []) ≡ Some [] = ap (λ b. cond b (Some []) None) is in
        let parts = head-is (whole_line (byte ∷ [])) (map whole_line pieces) (map (λ line. Some line) lines) line h in
        let none : line ≡ [] = cc in
        let ten : byte ≡ 10 = eqb-true byte 10 is in
        let later = rest lines (ap (map whole_line) are ∙ parts.1) in
        (λ i. ten i ∷ later i) ∙ ap (λ (line : List ℕ). (line ++ 10 ∷ []) ++ text_of (λ line. line) lines) (sym none)
    by false is [] are lines h rest = no_end lines h
      where
        no_end : (lines : List (List ℕ)) → whole_line (byte ∷ []) ∷ [] ≡ map (λ line. Some line) lines
            → byte ∷ bytes ≡ text_of (λ line. line) lines
        no_end [] h = cc
        no_end (line ∷ lines) h =
            let parts = head-is (whole_line (byte ∷ [])) [] (map (λ line. Some line) lines) line h in
            let first = whole_line-on byte [] is in cc
    by false is (piece ∷ pieces) are [] h rest = cc
    by false is (piece ∷ pieces) are (line ∷ lines) h rest =
        let parts = head-is (whole_line (byte ∷ piece)) (map whole_line pieces)
        (map (λ line. Some line) lines) line h in
        let tail = some-tail byte (whole_line piece) line (sym (whole_line-on byte piece is) ∙ parts.0) in
        let heads : whole_line piece ∷ map whole_line pieces ≡ Some tail.0 ∷ map (λ line. Some line) lines =
        (λ i. tail.1 i ∷ parts.1 i) in
        let later = rest (tail.0 ∷ lines) (ap (map whole_line) are ∙ heads) in
        ap (λ bytes. byte ∷ bytes) later
        ∙ ap (λ (line : List ℕ). (line ++ 10 ∷ []) ++ text_of (λ line. line) lines) (sym tail.2)

text_of-map : {X : Type 0} (spell : X → List ℕ) (values : List X)
    → text_of (λ line. line) (map spell values) ≡ text_of spell values
text_of-map spell [] = refl
text_of-map spell (value ∷ values) = ap (λ rest. (spell value ++ 10 ∷ []) ++ rest) (text_of-map spell values)

-- ---- what was read

module _ {X : Type 0} (read : List X → List ℕ → Option X) where
  -- each line gave its value, in the light of those before it
  abbrev pub Gave : List X → List (List ℕ) → List X → Type 0
  Gave before [] [] = Unit {0}
  Gave before [] (value ∷ values) = ⊥
  Gave before (line ∷ lines) [] = ⊥
  Gave before (line ∷ lines) (value ∷ values) = (read before line ≡ Some value) × Gave
      (before ++ value ∷ []) lines values

  pub record IsReading (before : List X) (lines : List (Option (List ℕ))) (after : List X) : Type 0 where
    pub texts : List (List ℕ)
    pub values : List X
    pub whole : lines ≡ map (λ line. Some line) texts
    pub behind : after ≡ before ++ values
    pub gave : Gave before texts values

  on_found : List X → List (Option (List ℕ)) → Option X → Result (List X) ℕ
  on_found before lines (Some value) = values_behind read (before ++ value ∷ []) lines
  on_found before lines None = Err (length before + 1)

  values-cons : (before : List X) (line : Option (List ℕ)) (lines : List (Option (List ℕ)))
      → values_behind read before (line ∷ lines) ≡ on_found before lines (option_and_then (read before) line)
  unfolding on_found
  values-cons before line lines =
      elim (option_and_then (read before) line) as (λ found. elim found as (λ found. Result (List X) ℕ) [
        | Some value ↦ values_behind read (before ++ value ∷ []) lines
        | None ↦ Err (length before + 1)
      ]
      ≡ on_found before lines found) [ Some value ↦ refl | None ↦ refl ]

  pub reading : (before : List X) (lines : List (Option (List ℕ))) (after : List X)
      → values_behind read before lines ≡ Ok after
      → IsReading before lines after
  unfolding on_found
  reading before [] after h = record {
    texts = [];
    values = [];
    whole = refl;
    behind = (let same : before ≡ after = cc in sym same ∙ sym (append-nil before));
    gave = tt;
  }
  reading before (None ∷ lines) after h =
      let wrong : Err (length before + 1) ≡ Ok after = sym (values-cons before None lines) ∙ h in cc
  reading before (Some line ∷ lines) after h =
      by (read before line) refl (sym (values-cons before (Some line) lines) ∙ h)
      (λ value. reading (before ++ value ∷ []) lines after)
    where
      by : (found : Option X) → read before line ≡ found → on_found before lines found ≡ Ok after
          → ((value : X) → values_behind read (before ++ value ∷ []) lines ≡ Ok after → IsReading
          (before ++ value ∷ []) lines after)
          → IsReading before (Some line ∷ lines) after
      by None is gives rest = cc
      by (Some value) is gives rest =
          let later = rest value gives in
          record {
            texts = line ∷ later.texts;
            values = value ∷ later.values;
            whole = ap (λ lines. Some line ∷ lines) later.whole;
            behind = later.behind ∙ append_assoc before (value ∷ []) later.values;
            gave = (is, later.gave);
          }

kept-some : {X : Type 0} (rules : X → Bool) (found : Option X) (value : X) → kept rules found ≡ Some value
    → (found ≡ Some value) × (rules value ≡ true)
kept-some rules None value h = cc
kept-some rules (Some other) value h = by (rules other) refl h
  where
    by : (b : Bool) → rules other ≡ b → cond b (Some other) None ≡ Some value
        → (Some other ≡ Some value) × (rules value ≡ true)
    by true is h = let same : other ≡ value = cc in (h, ap rules (sym same) ∙ is)
    by false is h = cc

module _ {X : Type 0} (fits : List X → X → Bool) (parse : List ℕ → Option X) (spell : X → List ℕ) (P : X → Type 0) where
  -- a text is the lines of these values, which keep the rules
  pub record IsTextOf (text : List ℕ) (values : List X) : Type 0 where
    pub same : text ≡ text_of spell values
    pub fit : AllFit fits [] values
    pub all : AllByRecursion P values

  abbrev IsParsed : Type 0
  IsParsed = (line : List ℕ) (value : X) → parse line ≡ Some value → (spell value ≡ line) × P value

  gave-spelled : IsParsed → (before : List X) (lines : List (List ℕ)) (values : List X)
      → Gave (λ before line. kept (fits before) (parse line)) before lines values
      → (map spell values ≡ lines) × AllFit fits before values × AllByRecursion P values
  gave-spelled parsed before [] [] gave = (refl, tt, tt)
  gave-spelled parsed before [] (value ∷ values) gave = absurd gave
  gave-spelled parsed before (line ∷ lines) [] gave = absurd gave
  gave-spelled parsed before (line ∷ lines) (value ∷ values) gave =
      let here = kept-some (fits before) (parse line) value gave.0 in
      let told = parsed line value here.0 in
      let rest = gave-spelled parsed (before ++ value ∷ []) lines values gave.1 in
      (λ i. told.0 i ∷ rest.0 i, (here.1, rest.1), (told.1, rest.2))

  -- what was read from a text has the text
  pub values-spelled : IsParsed → (text : List ℕ) (values : List X)
      → values_of (λ before line. kept (fits before) (parse line)) text ≡ Ok values → IsTextOf text values
  values-spelled parsed text values h =
      let told = reading (λ before line. kept (fits before) (parse line)) [] (whole_lines text) values h in
      let parts = gave-spelled parsed [] told.texts told.values told.gave in
      let own : values ≡ told.values = told.behind in
      record {
        same = lines-text text told.texts told.whole ∙ ap (text_of (λ line. line)) (sym parts.0)
            ∙ text_of-map spell told.values
            ∙ ap (text_of spell) (sym own);
        fit = subst (AllFit fits []) (sym own) parts.1;
        all = subst (AllByRecursion P) (sym own) parts.2;
      }

-- a file that has at least one line
pub some-line : {X : Type 0} (result : Result (List X) ℕ) (values : List X) → at_least_one result ≡ Ok values
    → (result ≡ Ok values) × (first : X) × (rest : List X) × (values ≡ first ∷ rest)
some-line (Ok []) values h = cc
some-line (Ok (value ∷ others)) values h = (h, value, others, cc)
some-line (Err line) values h = cc
