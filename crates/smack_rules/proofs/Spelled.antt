-- What is spelled reads back: words parted by one space, modes, and rules.
use Rattle.std.proofs.Common.{◌≡◌, ℕ, ◌<◌, ◌==◌, Bool, true, false, cond, ltb, nat_lt, ◌&&◌, not, List, [], ◌∷◌, length, get_or, position, Option, Some, None, is_none, Ok, Err, refl, ap, ◌∙◌, arith}
use Rattle.std.specs.List.{list_all, filter, position_or_len, AllByRecursion}
use Rattle.std.proofs.lemmas.Bool.{ltb-false, le-ltb}
use Rattle.std.proofs.lemmas.List.Splits.{slice_split_none, slice_split_at}
use Rattle.std.proofs.lemmas.List.Sums.{AllPass-from_list_all, list_all-from_AllPass, fails_before_first, position_or_len_is}
use Rattle.smack_rules.specs.declared.modes.Modes.{Modes}
use Rattle.smack_rules.specs.declared.label.LabelRefusal.{LabelRefusal}
use Rattle.smack_rules.specs.declared.label.LabelRefusal.TheVariants.{Empty, TooLong}
use Rattle.smack_rules.specs.Label.{is_label_byte, byte_fault, label_fault}
use Rattle.smack_rules.specs.Modes.{spelling, modes_of, is_mode_word, stands_in, letters_that}
use Rattle.smack_rules.specs.Rule.{is_label, line_rule, rule_of_words, rule_behind, set_rule, adjust_rule}
use Rattle.smack_rules.specs.Spelling.{parted, rule_text}
use Rattle.smack_rules.specs.declared.rule.Rule.TheVariants.{Set, Adjust}
use Rattle.smack_rules.specs.declared.rule.LineRefusal.TheVariants.{Form}
use Rattle.smack_rules.specs.Words.{is_blank, is_word, words_of}

-- a word of bytes that may stand in a label, which blanks and newlines may not
pub record IsPlain (word : List ℕ) : Type 0 where
  pub some : is_word word ≡ true
  pub bytes : list_all is_label_byte word ≡ true

not_blank : (byte : ℕ) → is_label_byte byte ≡ true → is_blank byte ≡ false
not_blank byte h = grind arith

pub no_blank : (word : List ℕ) → list_all is_label_byte word ≡ true → (k d : ℕ) → k < length word
    → is_blank (get_or word k d) ≡ false
no_blank word h k d below = not_blank (get_or word k d) (AllPass-from_list_all is_label_byte word h k d below)

-- What holds of each set of modes is tested on all of them.

abbrev every : (Bool → Bool) → Bool
every test = test true && test false

both : (a b : Bool) → (a && b) ≡ true → (a ≡ true) × (b ≡ true)
both true b h = (refl, h)
both false b h = cc

every-at : (test : Bool → Bool) → every test ≡ true → (b : Bool) → test b ≡ true
every-at test h true = (both (test true) (test false) h).0
every-at test h false = (both (test true) (test false) h).1

abbrev is_same : Bool → Bool → Bool
is_same true b = b
is_same false b = not b

is_same-≡ : (a b : Bool) → is_same a b ≡ true → a ≡ b
is_same-≡ true true h = refl
is_same-≡ true false h = cc
is_same-≡ false true h = cc
is_same-≡ false false h = refl

-- the set of these letters
abbrev modes_with : Bool → Bool → Bool → Bool → Bool → Bool → Bool → Modes
modes_with r w x a t l b =
    record { read = r; write = w; execute = x; append = a; transmute = t; lock = l; bring_up = b }

abbrev of_every : (Modes → Bool) → Bool
of_every test =
    every (λ r. every (λ w. every (λ x. every (λ a. every (λ t. every (λ l. every (λ b. test (modes_with r w x a t l b))))))))

of_every-at : (test : Modes → Bool) → of_every test ≡ true → (m : Modes) → test m ≡ true
of_every-at test h m =
    every-at (λ b. test (modes_with m.read m.write m.execute m.append m.transmute m.lock b))
    (every-at (λ l. every (λ b. test (modes_with m.read m.write m.execute m.append m.transmute l b)))
    (every-at (λ t. every (λ l. every (λ b. test (modes_with m.read m.write m.execute m.append t l b))))
    (every-at (λ a. every (λ t. every (λ l. every (λ b. test (modes_with m.read m.write m.execute a t l b)))))
    (every-at (λ x. every (λ a. every (λ t. every (λ l. every (λ b. test (modes_with m.read m.write x a t l b))))))
    (every-at (λ w. every (λ x. every (λ a. every (λ t. every (λ l. every (λ b. test (modes_with m.read w x a t l b)))))))
    (every-at (λ r. every (λ w. every (λ x. every (λ a. every (λ t. every (λ l. every (λ b. test (modes_with r w x a t l b)))))))) h
    m.read) m.write) m.execute) m.append) m.transmute) m.lock) m.bring_up

-- the letters that stand in the printed set are those of the set
stands_in-spelling : (letter : ℕ) (present : Modes → Bool)
    → of_every (λ m. is_same (stands_in (spelling m) letter) (present m)) ≡ true
    → (m : Modes) → stands_in (spelling m) letter ≡ present m
stands_in-spelling letter present h m =
    is_same-≡ (stands_in (spelling m) letter) (present m)
    (of_every-at (λ m. is_same (stands_in (spelling m) letter) (present m)) h m)

-- what a set is printed as names that set
pub modes_of-spelling : (m : Modes) → modes_of (spelling m) ≡ Some m
modes_of-spelling m =
    ap (λ named. cond named (Some (letters_that (stands_in (spelling m)))) None)
    (of_every-at (λ m. is_mode_word (spelling m)) refl m)
    ∙ (λ i. Some (record {
      read = stands_in-spelling 114 (λ m. m.read) refl m i;
      write = stands_in-spelling 119 (λ m. m.write) refl m i;
      execute = stands_in-spelling 120 (λ m. m.execute) refl m i;
      append = stands_in-spelling 97 (λ m. m.append) refl m i;
      transmute = stands_in-spelling 116 (λ m. m.transmute) refl m i;
      lock = stands_in-spelling 108 (λ m. m.lock) refl m i;
      bring_up = stands_in-spelling 98 (λ m. m.bring_up) refl m i;
    }))

abbrev is_plain : List ℕ → Bool
is_plain word = is_word word && list_all is_label_byte word

pub IsPlain-spelling : (m : Modes) → IsPlain (spelling m)
IsPlain-spelling m =
    let plain = both (is_word (spelling m)) (list_all is_label_byte (spelling m)) (of_every-at (λ m. is_plain (spelling m)) refl m) in
    record { some = plain.0; bytes = plain.1 }

-- The bytes of a label are plain, and plain bytes are those of a label.

not_not : (b : Bool) → not b ≡ false → b ≡ true
not_not true h = refl
not_not false h = cc

not_true : (b : Bool) → b ≡ true → not b ≡ false
not_true true h = refl
not_true false h = cc

option_none : (b : Bool) (x : ℕ) → cond b (Some x) None ≡ None → b ≡ false
option_none true x h = cc
option_none false x h = refl

pub label_bytes-from_position : (word : List ℕ) → position (λ byte. not (is_label_byte byte)) word ≡ None
    → list_all is_label_byte word ≡ true
label_bytes-from_position word h =
    let bad : ℕ → Bool = λ byte. not (is_label_byte byte) in
    let past = ltb-false _ _ (option_none (ltb (position_or_len bad word) (length word)) _ h) in
    list_all-from_AllPass is_label_byte word
    (λ k d below. not_not (is_label_byte (get_or word k d)) (fails_before_first bad word k d (omega (arith, past))))

pub position-from_label_bytes : (word : List ℕ) → list_all is_label_byte word ≡ true
    → position (λ byte. not (is_label_byte byte)) word ≡ None
position-from_label_bytes word h =
    let bad : ℕ → Bool = λ byte. not (is_label_byte byte) in
    let at_end : position_or_len bad word ≡ length word =
    position_or_len_is bad word (length word) 0 (omega arith)
    (λ k below. not_true (is_label_byte (get_or word k 0)) (AllPass-from_list_all is_label_byte word h k 0 below))
    (λ below. absurd (omega (arith, below))) in
    rw at_end (ap (λ b. cond b (Some (length word)) None) (le-ltb (length word) (length word) (omega arith)))

fault_none : (b : Bool) (fault : LabelRefusal) (other : Option LabelRefusal) → cond b (Some fault) other ≡ None
    → (b ≡ false) × (other ≡ None)
fault_none true fault other h = cc
fault_none false fault other h = (refl, h)

no_bad_byte : (word : List ℕ) (at : Option ℕ) → byte_fault word at ≡ None → at ≡ None
no_bad_byte word (Some at) h = cc
no_bad_byte word None h = refl

-- a label is a plain word
pub IsPlain-label : (word : List ℕ) → label_fault word ≡ None → IsPlain word
IsPlain-label word h =
    let some = fault_none (length word == 0) Empty _ h in
    let short = fault_none (nat_lt 255 (length word)) TooLong _ some.1 in
    let bad : ℕ → Bool = λ byte. not (is_label_byte byte) in
    record {
      some = ap not some.0;
      bytes = label_bytes-from_position word (no_bad_byte word (position bad word) short.1);
    }

-- plain words, parted by one space, are the words of the line
pub words_of-parted : (words : List (List ℕ)) → AllByRecursion IsPlain words → words_of (parted words) ≡ words
words_of-parted [] h = refl
words_of-parted (word ∷ []) h =
    ap (filter is_word) (slice_split_none is_blank word (no_blank word h.0.bytes))
    ∙ ap (λ b. cond b (word ∷ []) []) h.0.some
words_of-parted (word ∷ next ∷ words) h =
    let rest = words_of (parted (next ∷ words)) in
    ap (filter is_word) (slice_split_at is_blank word 32 (parted (next ∷ words)) (no_blank word h.0.bytes) refl)
    ∙ ap (λ b. cond b (word ∷ rest) rest) h.0.some
    ∙ ap (λ words. word ∷ words) (words_of-parted (next ∷ words) h.1)

-- A rule's line reads back.

label_found : (word : List ℕ) → label_fault word ≡ None → is_label word ≡ true
label_found word h = ap is_none h

read_words : (subject object : List ℕ) (modes : List (List ℕ)) → label_fault subject ≡ None → label_fault object ≡ None
    → AllByRecursion IsPlain modes
    → line_rule (parted (subject ∷ object ∷ modes)) ≡ rule_behind subject object modes
read_words subject object modes s o plain =
    ap rule_of_words (words_of-parted (subject ∷ object ∷ modes) (IsPlain-label subject s, (IsPlain-label object o, plain)))
    ∙ ap (λ b. cond (b && is_label object) (rule_behind subject object modes) (Err Form)) (label_found subject s)
    ∙ ap (λ b. cond b (rule_behind subject object modes) (Err Form)) (label_found object o)

pub line_rule-set : (subject object : List ℕ) (modes : Modes) → label_fault subject ≡ None → label_fault object ≡ None
    → line_rule (rule_text (Set subject object modes)) ≡ Ok (Some (Set subject object modes))
line_rule-set subject object modes s o =
    read_words subject object (spelling modes ∷ []) s o (IsPlain-spelling modes, tt)
    ∙ ap (set_rule subject object) (modes_of-spelling modes)

pub line_rule-adjust : (subject object : List ℕ) (allow deny : Modes) → label_fault subject ≡ None → label_fault object ≡ None
    → line_rule (rule_text (Adjust subject object allow deny)) ≡ Ok (Some (Adjust subject object allow deny))
line_rule-adjust subject object allow deny s o =
    read_words subject object (spelling allow ∷ spelling deny ∷ []) s o
    (IsPlain-spelling allow, (IsPlain-spelling deny, tt))
    ∙ ap (λ first. adjust_rule subject object first (modes_of (spelling deny))) (modes_of-spelling allow)
    ∙ ap (adjust_rule subject object (Some allow)) (modes_of-spelling deny)
