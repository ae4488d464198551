use Rattle.hq_request_tree.specs.Fields.{fields_of, keyed_field_view}
use Rattle.std.proofs.Common.{◌≡◌, ◌∙◌, ap, map, ◌++◌, codes}
use Rattle.hq_reply.specs.RootTexts.{members_text, texts_of}
use Rattle.hq_reply.specs.TableObject.{table_members}
use Rattle.hq_schema.specs.Schema.{schema_view}
use Rattle.hq_reply.proofs.Roots.{data_written}
use Rattle.hq_reply.proofs.Told.{tells_not}
use Rattle.hq_reply.proofs.reply.data_reply.Goals as goal

pub returns-clause-body : goal.returns-clause-body
returns-clause-body c of_table is =
    let fs = fields_of (map keyed_field_view c.args.fields.now.items) in
    let begun : c.append.new.self ≡ codes "{\"data\":{" = c.in_ok-append.ensures.ok ∙ ap (λ t. t ++ codes "{\"data\":{") c.new-body.ensures in
    data_written (schema_view c.args.schema.now) of_table fs c.members_in.result.items c.put_fields.new.out c.append-2.new.self (c.members_in.ensures (table_members of_table fs) is)
    (c.in_ok-put_fields.ensures ∙ ap (λ t. t ++ members_text (schema_view c.args.schema.now) (texts_of c.members_in.result.items) fs) begun) c.in_ok-append-2.ensures.ok

pub returns-clause-kind : goal.returns-clause-kind
returns-clause-kind c =
    let fs = fields_of (map keyed_field_view c.args.fields.now.items) in
    let begun : c.append.new.self ≡ codes "{\"data\":{" = c.in_ok-append.ensures.ok ∙ ap (λ t. t ++ codes "{\"data\":{") c.new-body.ensures in
    let members = members_text (schema_view c.args.schema.now) (texts_of c.members_in.result.items) fs in
    tells_not members c.put_fields.new.out c.append-2.new.self (c.in_ok-put_fields.ensures ∙ ap (λ t. t ++ members) begun) c.in_ok-append-2.ensures.ok
