-- How the state of a disk goes on over a row of changes, and what stops in the row leave.
use Rattle.std.proofs.Common.{◌≡◌, ℕ, ◌+◌, Bool, true, false, ◌||◌, List, [], ◌∷◌, ◌++◌, map, Option, Some, refl, sym, ◌∙◌, ap, subst, cond, take, drop, length, get_or, ◌<◌, append_assoc}
use Rattle.std.proofs.lemmas.List.{take_more, take-append-drop, map-append, get_or-map}
use Rattle.std.proofs.Math.ListN.{length-map}
use Rattle.std.proofs.lemmas.Bool.{true≢false}
use Rattle.desk_ports.specs.declared.file_sets.SetFile.{SetFile}
use Rattle.desk_ports.specs.FileMap.{FileMap, NameSet, with_name, names_of}
use Rattle.desk_ports.specs.Disk.{DiskState, MayLeave, WhereTold, Gives, Disturbs, KeepsState, MakesDurable, IsTouchedOnly, with_all_durable, with_touched, IsDisturbedAt}
use Rattle.desk_ports.specs.Moments.{Elapses, AddsOnly}
use Rattle.desk_ports.proofs.Moments.{AddsOnly-none, AddsOnly-call, AddsOnly-then, AddsOnly-more}
use Rattle.std.specs.Str.{bytes_eq}
use Rattle.guard_files.specs.parts.Changes.{Change, touching, after}
use Rattle.guard_files.proofs.Sets.{touching-append, after-append}

or_left : (a b : Bool) → (a || b) ≡ false → a ≡ false
or_left false b none = refl
or_left true b none = none

or_right : (a b : Bool) → (a || b) ≡ false → b ≡ false
or_right false b none = none
or_right true b none = absurd (true≢false none)

-- what is untouched after the changes was so before them
pub touching-less : (changes : List Change) (names : NameSet) (name : List ℕ) → touching changes names name ≡ false
    → names name ≡ false
touching-less [] names name none = none
touching-less (change ∷ changes) names name none =
    or_right (bytes_eq change.0 name) (names name) (touching-less changes (with_name names change.0) name none)

-- a stop after more changes may leave what it may leave after fewer
pub may_leave-more : (done rest : List Change) (state : DiskState) (left : FileMap)
    → MayLeave (after done state) left → MayLeave (after (done ++ rest) state) left
may_leave-more done rest state left may name none =
    may name (touching-less rest (touching done state.touched) name (sym (ap (λ names. names name) (touching-append done rest state.touched)) ∙ none))

-- also where the next one fails
pub may_leave-disturbed : (state next : DiskState) (name : List ℕ) (content : Option (List ℕ)) (left : FileMap)
    → IsDisturbedAt state name next → MayLeave next left → MayLeave (after ((name, content) ∷ []) state) left
may_leave-disturbed state next name content left disturbed may other none =
    let apart = or_left (bytes_eq name other) (state.touched other) none in
    may other (disturbed.untouched other apart ∙ or_right (bytes_eq name other) (state.touched other) none)
    ∙ ap (λ files. files other) disturbed.durable

-- what is read now is something that a stop may leave
pub touched_only-after : (changes : List Change) (state : DiskState) → IsTouchedOnly state
    → IsTouchedOnly (after changes state)
touched_only-after [] state only = only
touched_only-after (change ∷ changes) state only =
    touched_only-after changes (with_touched state change.0 change.1) (λ name none.
    let apart = or_left (bytes_eq change.0 name) (state.touched name) none in
    ap (λ test. cond test change.1 (state.current name)) apart
    ∙ only name (or_right (bytes_eq change.0 name) (state.touched name) none))

module _ {D : Type 0} (state : D → Option DiskState) (moment : D → ℕ) (left_since : D → ℕ → FileMap → Type 0) where
  -- after these changes since the first disk, and no stop in between left what a stop after all of them may not leave
  pub record IsAfter (all done : List Change) (old now : D) : Type 0 where
    pub reached : WhereTold (state old) (λ before. state now ≡ Some (after done before))
    pub moments : WhereTold (state old) (λ before. AddsOnly moment left_since old now (MayLeave (after all before)))

  pub IsAfter-none : (all : List Change) (disk : D) → IsAfter all [] disk disk
  IsAfter-none all disk = record {
    reached = λ before told. told;
    moments = λ before told. AddsOnly-none moment left_since disk (MayLeave (after all before));
  }

  -- one more change, which was made
  pub IsAfter-more : (all done rest : List Change) (name : List ℕ) (content : Option (List ℕ)) (old now next : D)
      → all ≡ done ++ (name, content) ∷ rest → IsAfter all done old now → Gives (state now) name content (state next)
      → WhereTold (state next) (Elapses (moment now) (moment next) (left_since now) (left_since next))
      → IsAfter all (done ++ (name, content) ∷ []) old next
  IsAfter-more all done rest name content old now next is so_far gives time =
      let reached : WhereTold (state old) (λ before. state next ≡ Some (after (done ++ (name, content) ∷ []) before)) = λ before told.
      gives (after done before) (so_far.reached before told) ∙ ap Some (sym (after-append done ((name, content) ∷ []) before)) in
      record {
        reached = reached;
        moments = λ before told.
            let P : FileMap → Type 0 = MayLeave (after all before) in
            AddsOnly-then moment left_since old now next P (so_far.moments before told)
            (AddsOnly-call moment left_since now next P (after (done ++ (name, content) ∷ []) before)
            (time (after (done ++ (name, content) ∷ []) before) (reached before told))
            (λ left may. subst (λ changes. MayLeave (after changes before) left) (sym (is ∙ regroup done (name, content) rest))
            (may_leave-more (done ++ (name, content) ∷ []) rest before left may)));
      }
    where
      regroup : (done : List Change) (change : Change) (rest : List Change)
          → done ++ change ∷ rest ≡ (done ++ change ∷ []) ++ rest
      regroup [] change rest = refl
      regroup (first ∷ done) change rest = ap (λ changes. first ∷ changes) (regroup done change rest)

  -- what stops left where the next change failed
  pub IsAfter-failed : (all done rest : List Change) (name : List ℕ) (content : Option (List ℕ)) (old now next : D)
      → all ≡ done ++ (name, content) ∷ rest → IsAfter all done old now → Disturbs (state now) name (state next)
      → WhereTold (state next) (Elapses (moment now) (moment next) (left_since now) (left_since next))
      → WhereTold (state old) (λ before. AddsOnly moment left_since old next (MayLeave (after all before)))
  IsAfter-failed all done rest name content old now next is so_far disturbs time before told =
      let P : FileMap → Type 0 = MayLeave (after all before) in
      let failed = disturbs (after done before) (so_far.reached before told) in
      AddsOnly-then moment left_since old now next P (so_far.moments before told)
      (AddsOnly-call moment left_since now next P failed.0 (time failed.0 failed.1)
      (λ left may. subst (λ changes. MayLeave (after changes before) left) (sym (is ∙ grouped done (name, content) rest))
      (may_leave-more (done ++ (name, content) ∷ []) rest before left
      (λ other none. may_leave-disturbed (after done before) failed.0 name content left failed.2 may other
      (sym (ap (λ names. names other) (touching-append done ((name, content) ∷ []) before.touched)) ∙ none)))))
    where
      grouped : (done : List Change) (change : Change) (rest : List Change)
          → done ++ change ∷ rest ≡ (done ++ change ∷ []) ++ rest
      grouped [] change rest = refl
      grouped (first ∷ done) change rest = ap (λ changes. first ∷ changes) (grouped done change rest)

  -- a row in a row
  pub IsAfter-row : (all done row rest : List Change) (old now next : D) → all ≡ (done ++ row) ++ rest
      → IsAfter all done old now
      → WhereTold (state now) (λ before. state next ≡ Some (after row before))
      → WhereTold (state now) (λ before. AddsOnly moment left_since now next (MayLeave (after row before)))
      → IsAfter all (done ++ row) old next
  IsAfter-row all done row rest old now next is so_far reached moments = record {
    reached = λ before told. reached (after done before) (so_far.reached before told) ∙ ap Some (sym (after-append done row before));
    moments = λ before told.
        AddsOnly-then moment left_since old now next (MayLeave (after all before)) (so_far.moments before told)
        (AddsOnly-more moment left_since now next (MayLeave (after row (after done before))) (MayLeave (after all before))
        (in_row all done row rest is before)
        (moments (after done before) (so_far.reached before told)));
  }
    where
      in_row : (all done row rest : List Change) → all ≡ (done ++ row) ++ rest → (before : DiskState) (left : FileMap)
          → MayLeave (after row (after done before)) left → MayLeave (after all before) left
      in_row all done row rest is before left may =
          subst (λ changes. MayLeave (after changes before) left) (sym is)
          (may_leave-more (done ++ row) rest before left
          (subst (λ state. MayLeave state left) (sym (after-append done row before)) may))

  pub IsAfter-row_failed : (all done row rest : List Change) (old now next : D) → all ≡ (done ++ row) ++ rest
      → IsAfter all done old now
      → WhereTold (state now) (λ before. AddsOnly moment left_since now next (MayLeave (after row before)))
      → WhereTold (state old) (λ before. AddsOnly moment left_since old next (MayLeave (after all before)))
  IsAfter-row_failed all done row rest old now next is so_far moments before told =
      AddsOnly-then moment left_since old now next (MayLeave (after all before)) (so_far.moments before told)
      (AddsOnly-more moment left_since now next (MayLeave (after row (after done before))) (MayLeave (after all before))
      (λ left may. subst (λ changes. MayLeave (after changes before) left) (sym is)
      (may_leave-more (done ++ row) rest before left
      (subst (λ state. MayLeave state left) (sym (after-append done row before)) may)))
      (moments (after done before) (so_far.reached before told)))

  -- and then all of it was made durable
  pub IsAfter-durable : (all : List Change) (old now next : D) → IsAfter all all old now
      → MakesDurable (state now) (state next)
      → WhereTold (state old) (λ before. state next ≡ Some (with_all_durable (after all before)))
  IsAfter-durable all old now next so_far durable before told = durable (after all before) (so_far.reached before told)

  -- a stop at the sync leaves nothing new
  pub IsAfter-synced : (all : List Change) (old now next : D) → IsAfter all all old now
      → MakesDurable (state now) (state next)
      → WhereTold (state now) IsTouchedOnly
      → WhereTold (state next) (Elapses (moment now) (moment next) (left_since now) (left_since next))
      → WhereTold (state old) (λ before. AddsOnly moment left_since old next (MayLeave (after all before)))
  IsAfter-synced all old now next so_far durable only time before told =
      let P : FileMap → Type 0 = MayLeave (after all before) in
      let reached = so_far.reached before told in
      let there = durable (after all before) reached in
      AddsOnly-then moment left_since old now next P (so_far.moments before told)
      (AddsOnly-call moment left_since now next P (with_all_durable (after all before)) (time _ there)
      (λ left may name none. may name refl ∙ only (after all before) reached name none))

  pub IsAfter-unsynced : (all : List Change) (old now next : D) → IsAfter all all old now
      → KeepsState (state now) (state next)
      → WhereTold (state next) (Elapses (moment now) (moment next) (left_since now) (left_since next))
      → WhereTold (state old) (λ before. AddsOnly moment left_since old next (MayLeave (after all before)))
  IsAfter-unsynced all old now next so_far kept time before told =
      let P : FileMap → Type 0 = MayLeave (after all before) in
      let there = kept (after all before) (so_far.reached before told) in
      AddsOnly-then moment left_since old now next P (so_far.moments before told)
      (AddsOnly-call moment left_since now next P (after all before) (time _ there) (λ left may. may))

  -- a row from the start on
  pub IsAfter-first : (row rest : List Change) (old now : D)
      → WhereTold (state old) (λ before. state now ≡ Some (after row before))
      → WhereTold (state old) (λ before. AddsOnly moment left_since old now (MayLeave (after row before)))
      → IsAfter (row ++ rest) row old now
  IsAfter-first row rest old now reached moments =
      IsAfter-row (row ++ rest) [] row rest old old now refl (IsAfter-none (row ++ rest) old) reached moments

  pub IsAfter-first_failed : (row rest : List Change) (old now : D)
      → WhereTold (state old) (λ before. AddsOnly moment left_since old now (MayLeave (after row before)))
      → WhereTold (state old) (λ before. AddsOnly moment left_since old now (MayLeave (after (row ++ rest) before)))
  IsAfter-first_failed row rest old now moments =
      IsAfter-row_failed (row ++ rest) [] row rest old old now refl (IsAfter-none (row ++ rest) old) moments

-- a row that is one change for each item, at the item of a loop
module _ {X : Type 0} (f : X → Change) where
  pub row_so_far : (items : List X) (i : ℕ) (x : X) → i < length items → x ≡ get_or items i x
      → map f (take (i + 1) items) ≡ map f (take i items) ++ f x ∷ []
  row_so_far items i x within is =
      ap (map f) (take_more items i x within ∙ ap (λ y. take i items ++ y ∷ []) (sym is)) ∙ map-append f (take i items) (x ∷ [])

  pub row_split : (items : List X) (i : ℕ) (x : X) → i < length items → x ≡ get_or items i x
      → map f items ≡ map f (take i items) ++ f x ∷ map f (drop (i + 1) items)
  row_split items i x within is =
      ap (map f) (sym (take-append-drop (i + 1) items) ∙ ap (λ front. front ++ drop (i + 1) items) (take_more items i x within ∙ ap (λ y. take i items ++ y ∷ []) (sym is))
      ∙ append_assoc (take i items) (x ∷ []) (drop (i + 1) items))
      ∙ map-append f (take i items) (x ∷ drop (i + 1) items)

-- the name at a place of names that are placed each for its file
pub placed_at : (place : List ℕ → List ℕ) (names : List (List ℕ)) (files : List SetFile) (i : ℕ) (name : List ℕ) (file : SetFile)
    → names ≡ map place (names_of files) → i < length files → name ≡ get_or names i name → file ≡ get_or files i file
    → name ≡ place file.name
placed_at place names files i name file are within name_is file_is =
    let same : length (names_of files) ≡ length files = simp length-map in
    let within_names : i < length (names_of files) = subst (λ n. i < n) (sym same) within in
    name_is ∙ ap (λ names. get_or names i name) are
    ∙ get_or-map place (names_of files) i file.name name within_names
    ∙ ap place (get_or-map (λ (file : SetFile). file.name) files i file file.name within ∙ ap (λ file. file.name) (sym file_is))

-- the names of the files so far
pub named_so_far : (files : List SetFile) (i : ℕ) (file : SetFile) → i < length files → file ≡ get_or files i file
    → names_of (take (i + 1) files) ≡ names_of (take i files) ++ file.name ∷ []
named_so_far files i file within is =
    ap names_of (take_more files i file within ∙ ap (λ y. take i files ++ y ∷ []) (sym is)) ∙ map-append (λ (file : SetFile). file.name) (take i files) (file ∷ [])

-- the items so far, and those that are left
pub items_so_far : {X : Type 0} (items : List X) (i : ℕ) (x : X) → i < length items → x ≡ get_or items i x
    → take (i + 1) items ≡ take i items ++ x ∷ []
items_so_far items i x within is = take_more items i x within ∙ ap (λ y. take i items ++ y ∷ []) (sym is)

pub items_split : {X : Type 0} (items : List X) (i : ℕ) (x : X) → i < length items → x ≡ get_or items i x
    → items ≡ take i items ++ x ∷ drop (i + 1) items
items_split items i x within is =
    sym (take-append-drop (i + 1) items) ∙ ap (λ front. front ++ drop (i + 1) items) (items_so_far items i x within is)
    ∙ append_assoc (take i items) (x ∷ []) (drop (i + 1) items)
