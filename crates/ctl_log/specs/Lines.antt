-- Lines of a log: words, with one space between two.
use Rattle.std.specs.Prelude.{◌≡◌, ℕ, List, ◌∷◌, ◌++◌, Option, Some, None, codes}
use Rattle.ctl_log.specs.declared.entries.Decider.{Decider}
use Rattle.ctl_log.specs.declared.entries.Decision.{Decision}
use Rattle.ctl_log.specs.declared.entries.Entry.{Entry}
use Rattle.ctl_log.specs.declared.entries.KeyWords.{KeyWords}
use Rattle.ctl_log.specs.declared.entries.LogLine.{LogLine}
use Rattle.ctl_log.specs.declared.entries.LogLine.TheVariants.{Check, Missed, Other}

-- a word, and what stands behind the space that follows it
abbrev pub then_word : List ℕ → List ℕ → List ℕ
then_word word rest = word ++ 32 ∷ rest

-- the key of the policy that decided, or `default`
abbrev pub key_text : Option KeyWords → List ℕ
key_text None = codes "default"
key_text (Some key) = then_word key.client.now (then_word key.user.now key.privilege.now)

-- `TIME BY BUCKET` and the key
abbrev pub decider_text : Decider → List ℕ
decider_text decider =
    then_word decider.time.now
    (then_word decider.by.now (then_word decider.cause.bucket.now (key_text decider.cause.key)))

-- the privilege, with which the short form ends
abbrev pub ending_text : List ℕ → Option Decider → List ℕ
ending_text privilege None = privilege
ending_text privilege (Some decider) = then_word privilege (decider_text decider)

-- `RESULT COMMIT CLIENT USER PRIVILEGE`, and what decided
abbrev pub decision_text : Decision → Option Decider → List ℕ
decision_text decision decider =
    then_word decision.result.now
    (then_word decision.commit.now
    (then_word decision.client.now (then_word decision.user.now (ending_text decision.privilege.now decider))))

-- `monitor WORKER NUMBER`, and the decision
abbrev pub entry_text : Entry → List ℕ
entry_text entry =
    codes "monitor "
    ++ then_word entry.worker.now (then_word entry.number.now (decision_text entry.decision entry.decider))

-- What was read of a line is what the line says.
abbrev pub Says : LogLine → List ℕ → Type 0
Says (Check entry) line = line ≡ entry_text entry
Says (Missed worker count) line = line ≡ codes "missed " ++ then_word worker.now count.now
Says Other line = Unit {0}
