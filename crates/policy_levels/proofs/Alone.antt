-- A policy set or deleted under a key of one user concerns that user alone.
use Rattle.std.proofs.Common.{◌≡◌, ℕ, Bool, true, false, not, cond, ◌&&◌, List, [], ◌∷◌, decimal, map, refl, sym, ap, ◌∙◌}
use Rattle.std.specs.Prelude.{◌==◌}
use Rattle.std.specs.declared.cmp.Ordering.TheVariants.{Equal}
use Rattle.std.specs.List.{filter}
use Rattle.std.specs.List.Sorted.{IsStrictlySortedBy}
use Rattle.std.specs.Ordering.{is_eq}
use Rattle.std.specs.Cmp.{both_tied}
use Rattle.std.specs.Cmp.Lexicographic.{texts_ties}
use Rattle.std.proofs.lemmas.Bool.{and_parts}
use Rattle.cynara_keys.specs.Field.{wildcard, field_text, field_admits, field_matches, same_field}
use Rattle.cynara_keys.specs.Key.{Key, Question, key_cmp, same_key, key_matches}
use Rattle.cynara_keys.specs.PolicyResult.{Ruling}
use Rattle.cynara_keys.specs.Text.{same_text}
use Rattle.cynara_keys.specs.declared.fields.Field.{Field}
use Rattle.cynara_keys.specs.declared.fields.Field.TheVariants.{Any, Exact}
use Rattle.cynara_keys.specs.declared.fields.FilterField.TheVariants.{Exact as ExactStored}
use Rattle.cynara_keys.specs.declared.keys.Policy.{Policy}
use Rattle.cynara_keys.proofs.Order.{same_text-≡, ≡-same_text, key_cmp-equal}
use Rattle.app_registry.proofs.Texts.{decimal-no_wildcard}
use Rattle.bucket_store.specs.Change.{is_at, after_change, with_changes}
use Rattle.bucket_store.specs.Database.{Database, Placed}
use Rattle.bucket_store.specs.Order.{placed_cmp, put}
use Rattle.bucket_store.specs.declared.policy_changes.Change.{Change}
use Rattle.bucket_store.specs.declared.policy_changes.Change.TheVariants.{Set, Delete}
use Rattle.bucket_store.proofs.Sound.{placed_total}
use Rattle.evaluation_laws.specs.Agreement.{AgreeOn}
use Rattle.evaluation_laws.proofs.Alike.{answers-alike}
use Rattle.evaluation_laws.proofs.Matching.{concerns, matching-chosen}
use Rattle.policy_levels.specs.Isolation.{is_for, rows_of_others, AnswersOthersAlike, ConcernsAlone}
use Rattle.policy_levels.proofs.Unseen.{put-unseen, without-unseen}

and_false : (b : Bool) → b && false ≡ false
and_false true = refl
and_false false = refl

-- ---- the same key

placed_cmp-equal : (a b : Placed) → is_eq (placed_cmp a b) ≡ same_text a.bucket b.bucket && same_key a.policy.key b.policy.key
placed_cmp-equal a b = sym (both_tied _ _ _ _ (texts_ties a.bucket b.bucket) (sym (key_cmp-equal a.policy.key b.policy.key)))

user_same : (a b : Key) → same_key a b ≡ true → field_text a.user ≡ field_text b.user
user_same a b is =
    let rest = and_parts (same_field a.client b.client) (same_field a.user b.user && same_field a.privilege b.privilege) is in
    let users = and_parts (same_field a.user b.user) (same_field a.privilege b.privilege) rest.1 in
    same_text-≡ (field_text a.user) (field_text b.user) users.0

module _ (uid : ℕ) where
  -- a field with the text of a user's number is that one user
  field_is : (field : Field) → field_text field ≡ decimal uid → field ≡ Exact (decimal uid)
  field_is Any is =
      let wrong : true ≡ false = sym (≡-same_text (decimal uid) wildcard (sym is)) ∙ decimal-no_wildcard uid in
      cc
  field_is (Exact name) is = ap Exact is

  module _ (name : List ℕ) (key : Key) (own : key.user ≡ Exact (decimal uid)) where
    user_of : (placed : Placed) → is_at name key placed ≡ true → placed.policy.key.user ≡ Exact (decimal uid)
    user_of placed is =
        let both = and_parts (same_text placed.bucket name) (same_key placed.policy.key key) is in
        field_is placed.policy.key.user (user_same placed.policy.key key both.1 ∙ ap field_text own)

    -- a test that no policy of the one user passes
    module _ (test : Placed → Bool) (others : (placed : Placed) → placed.policy.key.user ≡ Exact (decimal uid) → test placed ≡ false)
        (policies : List Placed) (rise : IsStrictlySortedBy placed_cmp policies) where
      set_unseen : (result : Ruling) → filter test (after_change policies (Set name key result)) ≡ filter test policies
      set_unseen result =
          let new : Placed = record { bucket = name; policy = record { key = key; result = result } } in
          put-unseen placed_total test new
          (λ other tied. others other (user_of other (sym (placed_cmp-equal other new) ∙ ap is_eq tied)))
          policies rise

      delete_unseen : filter test (after_change policies (Delete name key)) ≡ filter test policies
      delete_unseen = without-unseen test (is_at name key) (λ other is. others other (user_of other is)) policies

-- the key of a change
abbrev pub key_in : Change → Key
key_in (Set name key result) = key
key_in (Delete name key) = key

module _ (uid : ℕ) (test : Placed → Bool)
    (others : (placed : Placed) → placed.policy.key.user ≡ Exact (decimal uid) → test placed ≡ false)
    (policies : List Placed) (rise : IsStrictlySortedBy placed_cmp policies) where
  change_unseen : (change : Change) → (key_in change).user ≡ Exact (decimal uid)
      → filter test (after_change policies change) ≡ filter test policies
  change_unseen (Set name key result) own = set_unseen uid name key own test others policies rise result
  change_unseen (Delete name key) own = delete_unseen uid name key own test others policies rise

-- ---- what other users see

module _ (uid : ℕ) where
  -- a question of another user matches no policy of the one user
  not_asked : (question : Question) → same_text question.user (decimal uid) ≡ false → (key : Key) → key.user ≡ Exact (decimal uid)
      → key_matches key question ≡ false
  not_asked question other key own =
      let apart : same_text (decimal uid) question.user ≡ false = by_case (same_text (decimal uid) question.user) refl in
      ap (λ b. field_matches key.client question.client && (b && field_matches key.privilege question.privilege))
      (ap (λ field. field_matches field question.user) own ∙ apart)
      ∙ and_false (field_matches key.client question.client) where
        by_case : (b : Bool) → same_text (decimal uid) question.user ≡ b → same_text (decimal uid) question.user ≡ false
        by_case false is = is
        by_case true is =
            let back : same_text question.user (decimal uid) ≡ true =
            ≡-same_text question.user (decimal uid) (sym (same_text-≡ (decimal uid) question.user is)) in
            let wrong : true ≡ false = sym back ∙ other in
            cc

  no_row : (placed : Placed) → placed.policy.key.user ≡ Exact (decimal uid) → not (is_for uid placed) ≡ false
  no_row placed own =
      ap (λ field. not (field_admits (ExactStored (decimal uid)) field)) own
      ∙ ap not (≡-same_text (decimal uid) (decimal uid) refl)

  no_match : (question : Question) → same_text question.user (decimal uid) ≡ false → (name : List ℕ) (placed : Placed)
      → placed.policy.key.user ≡ Exact (decimal uid) → concerns name question placed ≡ false
  no_match question other name placed own =
      ap (λ b. same_text placed.bucket name && b) (not_asked question other placed.policy.key own)
      ∙ and_false (same_text placed.bucket name)

-- a change under a key of one user
module _ (uid : ℕ) (database : Database) (rise : IsStrictlySortedBy placed_cmp database.policies)
    (change : Change) (own : (key_in change).user ≡ Exact (decimal uid)) where
  abbrev after : Database
  after = with_changes (change ∷ []) database

  agree : (question : Question) → same_text question.user (decimal uid) ≡ false → AgreeOn question after database
  agree question other = record {
    buckets = refl;
    policies = λ name.
        matching-chosen after question name
        ∙ ap (map (λ placed. placed.policy))
        (change_unseen uid (concerns name question) (no_match uid question other name) database.policies rise change own)
        ∙ sym (matching-chosen database question name);
  }

  pub change-alone : ConcernsAlone uid database after
  change-alone = record {
    rows = change_unseen uid (λ placed. not (is_for uid placed)) (no_row uid) database.policies rise change own;
    answers = λ question other. answers-alike question after database (agree question other);
  }
