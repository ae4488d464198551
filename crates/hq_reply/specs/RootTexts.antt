-- The text of the object of root fields, in which those that start at a table take the texts that a database gave, in order.
use Rattle.std.specs.Prelude.{ℕ, List, [], ◌∷◌, ◌++◌, map, codes, Option, Some, None}
use Rattle.std.specs.List.{join_with_byte}
use Rattle.std.specs.Vec.Iter.{into_iter_items}
use Rattle.std.specs.declared.alloc.Global.{Global}
use Rattle.std.specs.declared.vec.IntoIter.{IntoIter}
use Rattle.hq_answer.specs.declared.answer.AnswerMember.{AnswerMember}
use Rattle.hq_request_tree.specs.Fields.{FieldTrees, no_field, field, FieldTree}
use Rattle.hq_base.specs.Compact.{compact, quoted}
use Rattle.hq_base.specs.Json.{JsonTree}
use Rattle.hq_schema.specs.Schema.{SchemaTree}
use Rattle.hq_reply.specs.RootObject.{own_value}

-- the texts of an object's members
abbrev pub texts_of : List AnswerMember → List (List ℕ)
texts_of ms = map (λ m. m.text) ms

-- of those that are left to take
abbrev pub texts_in : IntoIter AnswerMember Global → List (List ℕ)
texts_in left = texts_of (into_iter_items left)

-- the text of a root field's value: its own, or the next of these texts
abbrev pub value_text : (own : Option JsonTree) → (texts : List (List ℕ)) → List ℕ
value_text (Some value) texts = compact value
value_text None [] = codes "null"
value_text None (text ∷ texts) = text

-- the texts that are left for the fields behind it
abbrev pub texts_left : (own : Option JsonTree) → (texts : List (List ℕ)) → List (List ℕ)
texts_left (Some value) texts = texts
texts_left None [] = []
texts_left None (text ∷ texts) = texts

-- both of a root field in a schema
abbrev pub field_text : SchemaTree → (texts : List (List ℕ)) → FieldTree → List ℕ
field_text schema texts f = value_text (own_value schema f) texts

abbrev pub texts_behind : SchemaTree → (texts : List (List ℕ)) → FieldTree → List (List ℕ)
texts_behind schema texts f = texts_left (own_value schema f) texts

-- a root field with its key before it
abbrev pub keyed_text : SchemaTree → (texts : List (List ℕ)) → (List ℕ × FieldTree) → List ℕ
keyed_text schema texts f = quoted f.0 ++ 58 ∷ field_text schema texts f.1

-- each root field with its key
abbrev pub root_texts : SchemaTree → (texts : List (List ℕ)) → FieldTrees → List (List ℕ)
root_texts schema texts no_field = []
root_texts schema texts (field key f fs) = keyed_text schema texts (key, f) ∷ root_texts schema (texts_behind schema texts f) fs

-- the text of the object's members
abbrev pub members_text : SchemaTree → (texts : List (List ℕ)) → FieldTrees → List ℕ
members_text schema texts fs = join_with_byte 44 (root_texts schema texts fs)
