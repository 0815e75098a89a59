use Rattle.wire_fields.proofs.FieldLaws.{key_front}
use Rattle.wire_fields.proofs.readers.key.Goals as goal

pub slice_bounds-packed-count : goal.slice_bounds-packed-count
slice_bounds-packed-count c =
    (key_front c.args.fields.now c.key_field_text.new.fields c.key_field_text-2.new.fields c.key_field_text-3.new.fields
    c.rest-front.result.now c.rest.result.now c.in_ok-client.client.now c.in_ok-user.user.now
    c.in_ok-privilege.privilege.now
    c.rest-front.ensures.bytes c.rest-front.ensures.rest c.rest.ensures.rest c.in_ok-client.ensures.text
    c.in_ok-user.ensures.text c.in_ok-privilege.ensures.text).0

pub of_packed-requires-clause-packed : goal.of_packed-requires-clause-packed
of_packed-requires-clause-packed c =
    (key_front c.args.fields.now c.key_field_text.new.fields c.key_field_text-2.new.fields c.key_field_text-3.new.fields
    c.rest-front.result.now c.rest.result.now c.in_ok-client.client.now c.in_ok-user.user.now
    c.in_ok-privilege.privilege.now
    c.rest-front.ensures.bytes c.rest-front.ensures.rest c.rest.ensures.rest c.in_ok-client.ensures.text
    c.in_ok-user.ensures.text c.in_ok-privilege.ensures.text).1
