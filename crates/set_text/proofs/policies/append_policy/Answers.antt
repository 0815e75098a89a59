use Rattle.std.proofs.Common.{◌≡◌, List, ℕ, Result, Ok, Err, OnOk, None, subst, ap}
use Rattle.std.specs.Prelude.{is_none}
use Rattle.cynara_keys.specs.Field.{field_of, field_fault}
use Rattle.cynara_keys.specs.declared.fields.Field.{Field}
use Rattle.cynara_keys.specs.declared.fields.Field.TheVariants.{Any, Exact}
use Rattle.cynara_keys.specs.declared.keys.Policy.{Policy}
use Rattle.cynara_keys.proofs.Spelling.{IsSound, field_of-sound}
use Rattle.set_text.specs.IsSpelt.{IsField, IsKey, IsRuling, IsPolicy}
use Rattle.set_text.proofs.policies.append_policy.Goals as goal

spelt_field : (field : Field) → IsSound field → IsField field
spelt_field Any sound = tt
spelt_field (Exact name) sound = ap is_none sound

spelt_text : (text : List ℕ) (field : Field) → field_of text ≡ field → field_fault text ≡ None → IsField field
spelt_text text field is fits = subst IsField is (spelt_field (field_of text) (field_of-sound text fits))

spelt_policy : {A E : Type 0} (result : Result A E) (policy : Policy) → IsKey policy.key → OnOk result (IsRuling policy.result)
    → OnOk result (IsPolicy policy)
spelt_policy (Ok done) policy key ruling = record { key = key; result = ruling }
spelt_policy (Err error) policy key ruling = tt

pub returns-clause-spelt : goal.returns-clause-spelt
returns-clause-spelt c =
    let key = c.args.policy.now.key in
    spelt_policy c.append_ruling.result c.args.policy.now
    (record {
      client = spelt_text c.client.result.now key.client c.client.ensures.reads_back c.client.ensures.accepted;
      user = spelt_text c.user.result.now key.user c.user.ensures.reads_back c.user.ensures.accepted;
      privilege = spelt_text c.privilege.result.now key.privilege c.privilege.ensures.reads_back c.privilege.ensures.accepted;
    })
    c.append_ruling.ensures.spelt
