-- What a collected field stands for, and its arguments.
use Rattle.std.specs.Prelude.{ℕ, List, Bool, false, ◌||◌, cond, Option, Some, None, is_some, Result, Ok, Err}
use Rattle.hq_base.specs.Due.{mapped}
use Rattle.hq_base.specs.declared.value.Val.{Val}
use Rattle.hq_request_arguments.specs.Context.{Context}
use Rattle.hq_request_arguments.specs.Due.{arguments_due}
use Rattle.hq_request_arguments.specs.FieldArguments.{FieldArguments, rows, key, count, type_name, deprecated}
use Rattle.hq_request_coerce.specs.Faults.{fault_of}
use Rattle.hq_request_coerce.specs.declared.refusal.CoerceRefusal.{CoerceRefusal}
use Rattle.hq_request_coerce.specs.declared.refusal.CoerceRefusal.TheVariants.{Fault}
use Rattle.hq_gql_nodes.specs.Known.{object_at, known_field}
use Rattle.hq_gql_tree.specs.Selections.{FieldHead}
use Rattle.hq_gql_tree.specs.declared.rule.RuleId.{RuleId}
use Rattle.hq_gql_tree.specs.declared.rule.RuleId.TheVariants as rule
use Rattle.hq_schema.specs.Look.{type_at}
use Rattle.hq_schema.specs.Schema.{FieldTree, TypeTree, SchemaTree, base}
use Rattle.hq_model.specs.Selected.{ListArguments}

-- a value, or the first fault
abbrev pub Due : Type 0 → Type 0
Due A = Result A CoerceRefusal

-- the fault of a rule at a field
abbrev pub fault_at : RuleId → FieldHead → CoerceRefusal
fault_at r h = Fault (fault_of r (Some h.at))

abbrev pub refused : {A : Type 0} → RuleId → FieldHead → Due A
refused r h = Err (fault_at r h)

-- fields are collected below a field only where its type has fields (5.3.3); none are where directives skip them all
abbrev pub is_complete : SchemaTree → FieldTree → (empty : Bool) → Bool
is_complete s f empty = empty || is_some (object_at s (base f.ty))

-- the definition of a field in a schema, and its coerced arguments
abbrev pub KnownField : Type 0
KnownField = FieldTree × FieldArguments

abbrev pub known_of : Context → (t : ℕ) → FieldHead → (empty : Bool) → Option FieldTree → Due KnownField
known_of c t h empty None = refused rule.FieldSelections h
known_of c t h empty (Some f) = cond (is_complete c.schema f empty) (mapped (λ a. (f, a)) (arguments_due c t f h)) (refused rule.LeafFieldSelections h)

-- of a field in the object type of a place, at a row of table t
abbrev pub known_due : Context → (place t : ℕ) → FieldHead → (empty : Bool) → Due KnownField
known_due c place t h empty = known_of c t h empty (known_field c.schema (Some place) h.name)

-- the place of the type that a field leads to
abbrev pub leads_to : KnownField → ℕ
leads_to k = base k.0.ty

-- the name of the type of a place
abbrev pub name_of_type : FieldHead → Option TypeTree → Due (List ℕ)
name_of_type h None = refused rule.FieldSelections h
name_of_type h (Some d) = Ok d.name

abbrev pub type_name_due : SchemaTree → (place : ℕ) → FieldHead → Due (List ℕ)
type_name_due s place h = name_of_type h (type_at s place)

-- the arguments of each kind of field; those of another kind are no arguments of it (5.4.1)
abbrev pub rows_of : FieldHead → FieldArguments → Due ListArguments
rows_of h (rows a) = Ok a
rows_of h _ = refused rule.ArgumentNames h

abbrev pub key_of : FieldHead → FieldArguments → Due (List Val)
key_of h (key vs) = Ok vs
key_of h _ = refused rule.ArgumentNames h

-- what is counted: perhaps a column, and whether different values alone
abbrev pub count_of : FieldHead → FieldArguments → Due (Option ℕ × Bool)
count_of h (count c distinct) = Ok (c, distinct)
count_of h _ = refused rule.ArgumentNames h

abbrev pub type_name_of : FieldHead → FieldArguments → Due (List ℕ)
type_name_of h (type_name n) = Ok n
type_name_of h _ = refused rule.ArgumentNames h

-- whether deprecated things are asked for, which they are not without such an argument
abbrev pub deprecated_of : FieldArguments → Bool
deprecated_of (deprecated b) = b
deprecated_of _ = false
