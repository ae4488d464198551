use Rattle.std.proofs.Common.{◌≡◌, ◌++◌, drop, map}
use Rattle.hq_request_tree.specs.Fields.{fields_of, keyed_field_view}
use Rattle.hq_schema.specs.Schema.{schema_view}
use Rattle.hq_reply.specs.RootTexts.{members_text, root_texts, texts_in, texts_of}
use Rattle.hq_reply.proofs.Texts.{rest_text}
use Rattle.hq_reply.proofs.root.put_fields.Given as goal

-- what is written with what is left to write is the whole
abbrev pub invariant-loop-at : goal.invariant-loop-at
invariant-loop-at l =
    l.out ++ rest_text l.at (root_texts (schema_view l.schema) (texts_in l.left) (fields_of (map keyed_field_view (drop l.at l.fields.items))))
    ≡ l.initial.out ++ members_text (schema_view l.schema) (texts_of l.fn.tables.items) (fields_of (map keyed_field_view l.fields.items))
