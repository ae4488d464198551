-- The text of a reply with data (GraphQL October 2021, section 7.1: response format).
use Rattle.std.specs.Prelude.{◌≡◌, ℕ, List, codes}
use Rattle.hq_answer.specs.Answers.{IsAnswer}
use Rattle.hq_answer.specs.declared.answer.Answer.{Answer}
use Rattle.hq_request_tree.specs.Fields.{FieldTrees, FieldTree}
use Rattle.hq_base.specs.Compact.{compact}
use Rattle.hq_base.specs.Json.{JsonTree, obj, member, no_member}
use Rattle.hq_schema.specs.Schema.{SchemaTree}
use Rattle.hq_reply.specs.RootObject.{root_members}
use Rattle.hq_reply.specs.TableObject.{table_object}

abbrev pub data_text : JsonTree → List ℕ
data_text json = compact (obj (member (codes "data") json no_member))

-- the body has the object of all root fields, whatever gives those that start at a table what is answered
abbrev pub HasData : SchemaTree → FieldTrees → (tables : Answer) → (body : List ℕ) → Type 0
HasData schema fs tables body =
    (of_table : FieldTree → JsonTree) → IsAnswer tables (table_object of_table fs) → body ≡ data_text (obj (root_members schema of_table fs))
