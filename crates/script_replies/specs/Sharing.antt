-- What lines on shares are answered, and the shares that lines leave.
use Rattle.std.specs.Prelude.{ℕ, Bool, true, false, List, [], ◌++◌, length, Option, Some, None}
use Rattle.std.specs.List.{flat_map}
use Rattle.smack_rules.specs.declared.rule.Rule.{Rule}
use Rattle.smack_rules.specs.declared.rule.Rule.TheVariants.{Set, Adjust}
use Rattle.app_registry.specs.Registry.{RegistryLists}
use Rattle.private_sharing.specs.Rules.{rules}
use Rattle.private_sharing.specs.Shares.{count_of, opened, closed}
use Rattle.private_sharing.specs.Refusal.{open_fault, close_fault}
use Rattle.private_sharing.specs.declared.shares.Share.{Share}
use Rattle.private_sharing.specs.declared.refusals.ShareRefusal.{ShareRefusal}
use Rattle.private_sharing.specs.declared.refusals.ShareRefusal.TheVariants.{UnknownApp, SameLabel, NotShared, Most}
use Rattle.private_sharing.specs.declared.refusals.ShareRefusal.TheVariants.{Memory}
use Rattle.line_answers.specs.Answers.{shared_text, rule_row_text, rule_rows_text, unknown_app_text, same_label_text}
use Rattle.line_answers.specs.Answers.{not_shared_text, share_limit_text}

-- why a share is not opened or closed; want of memory is no refusal
abbrev pub share_refusal_text : ShareRefusal → List ℕ
share_refusal_text (UnknownApp app) = unknown_app_text app
share_refusal_text (SameLabel label) = same_label_text label
share_refusal_text NotShared = not_shared_text
share_refusal_text (Most most) = share_limit_text most
share_refusal_text (Memory error) = []

-- a refusal names a rule; no line answers want of memory
abbrev pub names_share_rule : ShareRefusal → Bool
names_share_rule (Memory error) = false
names_share_rule broken = true

-- how often the share is open among these, or why it was refused
abbrev pub shared_reply : List ℕ → List ℕ → List ℕ → List Share → Option ShareRefusal → List ℕ
shared_reply owner target name shares None = shared_text (count_of owner target name shares)
shared_reply owner target name shares (Some refusal) = share_refusal_text refusal

-- a refusal leaves the shares as they were
abbrev pub shares_if : Option ShareRefusal → List Share → List Share → List Share
shares_if None before after = after
shares_if (Some refusal) before after = before

module _ (registry : RegistryLists) (owner target name : List ℕ) (shares : List Share) where
  abbrev pub share_reply : List ℕ
  share_reply =
      shared_reply owner target name (opened owner target name shares) (open_fault registry owner target name shares)

  abbrev pub shares_opened : List Share
  shares_opened = shares_if (open_fault registry owner target name shares) shares (opened owner target name shares)

module _ (owner target name : List ℕ) (shares : List Share) where
  abbrev pub unshare_reply : List ℕ
  unshare_reply =
      shared_reply owner target name (closed owner target name shares) (close_fault owner target name shares)

  abbrev pub shares_closed : List Share
  shares_closed = shares_if (close_fault owner target name shares) shares (closed owner target name shares)

-- ---- rules

-- a rule that gives modes; shares give no other
abbrev pub rule_text : Rule → List ℕ
rule_text (Adjust subject object allow deny) = rule_row_text subject object allow
rule_text (Set subject object modes) = []

-- the rules, a line each, and how many they are
abbrev pub rules_text : List Rule → List ℕ
rules_text given = flat_map rule_text given ++ rule_rows_text (length given)

abbrev pub shares_reply : RegistryLists → List Share → List ℕ
shares_reply registry shares = rules_text (rules registry shares)
