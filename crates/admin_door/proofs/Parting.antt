-- Files that are told in parts.
use Rattle.std.proofs.Common.{◌≡◌, ◌∙◌, ◌<◌, ◌≤◌, ◌+◌, inl, inr, ℕ, List, [], ◌∷◌, ◌++◌, length, map, take, drop, get_or, refl, sym, ap, subst}
use Rattle.std.proofs.Common.{◌==◌, true, false, append_assoc, append-nil, arith, Result, Ok, Err, MatchResult}
use Rattle.std.proofs.lemmas.Grind.{flat_map-append}
use Rattle.std.proofs.lemmas.Bool.{eqb-true}
use Rattle.std.proofs.lemmas.List.{take_more, take-append-drop, map-append, nil_from_length}
use Rattle.std.specs.List.{AllByRecursion, flat_map}
use Rattle.desk_ports.specs.declared.file_sets.SetFile.{SetFile}
use Rattle.wire_fields.specs.declared.messages.Message.{Message}
use Rattle.wire_fields.specs.declared.messages.Message.TheVariants.{StateFile}
use Rattle.door_frames.specs.declared.endings.Ended.{Ended}
use Rattle.door_frames.specs.declared.endings.Ended.TheVariants.{Memory}
use Rattle.admin_door.specs.State.{AreFiles, ArePartsOf, AreParts, IsPart}

-- one file more
files-then : (files : List SetFile) (messages : List Message) (file : SetFile) (parts : List (List ℕ)) → AreFiles files messages
    → ArePartsOf file.bytes parts → AreFiles (files ++ file ∷ []) (messages ++ map (StateFile file.name) parts)
files-then [] messages file parts none are =
    let told : List Message = map (StateFile file.name) parts in
    (parts, [], ap (λ (list : List Message). list ++ told) none ∙ sym (append-nil told), are, refl)
files-then (first ∷ files) messages file parts (its, others, is, own, rest) are =
    let told : List Message = map (StateFile file.name) parts in (
      its,
      others ++ told,
      ap (λ (list : List Message). list ++ told) is ∙ append_assoc (map (StateFile first.name) its) others told,
      own,
      files-then files others file parts rest are,
    )

pub files-more : (files : List SetFile) (at : ℕ) (file : SetFile) (before after : List Message) (parts : List (List ℕ)) → at < length files
    → file ≡ get_or files at file → AreFiles (take at files) before
    → after ≡ before ++ map (StateFile file.name) parts → ArePartsOf file.bytes parts → AreFiles (take (at + 1) files) after
files-more files at file before after parts within is told told_now are =
    subst (λ (front : List SetFile). AreFiles front after)
    (sym (take_more files at file within ∙ ap (λ (last : SetFile). take at files ++ last ∷ []) (sym is)))
    (subst (λ (list : List Message). AreFiles (take at files ++ file ∷ []) list) (sym told_now)
    (files-then (take at files) before file parts told are))

-- some parts of a file are told, and these bytes are left
pub record IsTold (name bytes : List ℕ) (before now : List Message) (rest : List ℕ) : Type 0 where
  pub parts : List (List ℕ)
  pub told : now ≡ before ++ map (StateFile name) parts
  pub bytes_are : flat_map (λ part. part) parts ++ rest ≡ bytes
  pub each : AllByRecursion IsPart parts

pub none-told : (name bytes : List ℕ) (before : List Message) → IsTold name bytes before before bytes
none-told name bytes before = record { parts = []; told = sym (append-nil before); bytes_are = refl; each = tt }

each-more : (parts : List (List ℕ)) (part : List ℕ) → AllByRecursion IsPart parts → IsPart part → AllByRecursion IsPart (parts ++ part ∷ [])
each-more [] part each is = (is, tt)
each-more (first ∷ parts) part each is = (each.0, each-more parts part each.1 is)

-- one part more
pub part-told : (name bytes : List ℕ) (before now after : List Message) (rest part behind : List ℕ) → IsTold name bytes before now rest
    → part ++ behind ≡ rest → IsPart part → after ≡ now ++ StateFile name part ∷ [] → IsTold name bytes before after behind
part-told name bytes before now after rest part behind t split is told = record {
  parts = t.parts ++ part ∷ [];
  told = told ∙ (ap (λ (list : List Message). list ++ StateFile name part ∷ []) t.told
      ∙ (append_assoc before (map (StateFile name) t.parts) (StateFile name part ∷ [])
      ∙ ap (λ (list : List Message). before ++ list) (sym (map-append (StateFile name) t.parts (part ∷ [])))));
  bytes_are = ap (λ list. list ++ behind)
      (flat_map-append (λ part. part) t.parts (part ∷ []) ∙ ap (λ list. flat_map (λ part. part) t.parts ++ list) (append-nil part))
      ∙ (append_assoc (flat_map (λ part. part) t.parts) part behind
      ∙ (ap (λ list. flat_map (λ part. part) t.parts ++ list) split ∙ t.bytes_are));
  each = each-more t.parts part t.each is;
}

-- none is left
pub all-told : (name bytes : List ℕ) (before now : List Message) (rest : List ℕ) → IsTold name bytes before now rest → rest ≡ []
    → (parts : List (List ℕ)) × (now ≡ before ++ map (StateFile name) parts) × AreParts bytes parts
all-told name bytes before now rest t none = (
  t.parts,
  t.told,
  (
    sym (append-nil (flat_map (λ part. part) t.parts))
        ∙ (ap (λ list. flat_map (λ part. part) t.parts ++ list) (sym none) ∙ t.bytes_are),
    t.each,
  ),
)

-- ---- what is left of the bytes

pub cut-back : (rest part behind : List ℕ) (count : ℕ) → part ≡ take count rest → behind ≡ drop count rest → part ++ behind ≡ rest
cut-back rest part behind count front back = rw (front, back) (take-append-drop count rest)

pub some-left : (rest : List ℕ) → (length rest == 0) ≡ false → 0 < length rest
some-left [] is = absurd (true_is_false is)
  where
    true_is_false : true ≡ false → ⊥
    true_is_false same = cc
some-left (byte ∷ rest) is = omega arith

pub none-left : (rest : List ℕ) → (length rest == 0) ≡ true → rest ≡ []
none-left rest is = nil_from_length rest (eqb-true (length rest) 0 is)

-- ---- a file without bytes

pub empty-told : {V : Type 0} (items : V → List Message) (result : Result V Ended) (before : List Message) (name bytes : List ℕ)
    → (length bytes == 0) ≡ true
    → MatchResult result (λ longer. items longer ≡ before ++ StateFile name [] ∷ []) (λ ended. ended ≡ Memory)
    → MatchResult result
    (λ longer. (parts : List (List ℕ)) × (items longer ≡ before ++ map (StateFile name) parts) × ArePartsOf bytes parts)
    (λ ended. ended ≡ Memory)
empty-told items (Ok longer) before name bytes none is = ([] ∷ [], is, inl (none-left bytes none, refl))
empty-told items (Err ended) before name bytes none is = is
