-- The response keys of one object differ, and they are at most 50 (GraphQL October 2021, section 6.3.2: collected fields).
use Rattle.std.specs.Prelude.{◌≡◌, ℕ, List, [], ◌∷◌, map, length, Bool, true, ◌&&◌, nat_le, bytes_eq}
use Rattle.hq_base.specs.Lists.{all_differ}
use Rattle.hq_model.specs.Schema.{Schema}
use Rattle.hq_request_tree.specs.Everywhere.{Everywhere}
use Rattle.hq_request_tree.specs.Fields.{FieldTrees, no_field, field, FieldTree, column, typename, no_queries, object, list, by_key, aggregate, introspect, PartTrees, no_part, part, PartTree, summary, nodes, part_typename}
use Rattle.hq_request_tree.specs.declared.aggregate.AggField.{AggField}
use Rattle.hq_request_tree.specs.declared.aggregate.AggField.TheVariants as take
use Rattle.hq_request_tree.specs.declared.aggregate.KeyedAggCol.{KeyedAggCol}
use Rattle.hq_request_tree.specs.declared.aggregate.KeyedAggField.{KeyedAggField}

-- the response keys of an object
abbrev pub are_keys : List (List ℕ) → Bool
are_keys keys = nat_le (length keys) 50 && all_differ bytes_eq keys

-- those of fields and of the parts of an aggregate, in order
abbrev pub keys_of : FieldTrees → List (List ℕ)
keys_of no_field = []
keys_of (field key f fs) = key ∷ keys_of fs

abbrev pub part_keys : PartTrees → List (List ℕ)
part_keys no_part = []
part_keys (part key p ps) = key ∷ part_keys ps

-- the columns of an aggregate
abbrev pub TakenKeys : List KeyedAggCol → Type 0
TakenKeys cs = are_keys (map (λ c. c.key) cs) ≡ true

-- below each field of aggregate
abbrev pub OneSummaryKeys : AggField → Type 0
OneSummaryKeys (take.Count c distinct) = Unit {0}
OneSummaryKeys (take.Columns a cs) = TakenKeys cs
OneSummaryKeys (take.Typename name) = Unit {0}

abbrev pub EachSummaryKeys : List KeyedAggField → Type 0
EachSummaryKeys [] = Unit {0}
EachSummaryKeys (f ∷ fs) = OneSummaryKeys f.field × EachSummaryKeys fs

-- the object of a field
abbrev pub FieldKeys : (t : ℕ) → FieldTree → Type 0
FieldKeys t (column c) = Unit {0}
FieldKeys t (typename name) = Unit {0}
FieldKeys t no_queries = Unit {0}
FieldKeys t (object r fs) = are_keys (keys_of fs) ≡ true
FieldKeys t (list o a fs) = are_keys (keys_of fs) ≡ true
FieldKeys t (by_key u key fs) = are_keys (keys_of fs) ≡ true
FieldKeys t (aggregate o a ps) = are_keys (part_keys ps) ≡ true
FieldKeys t (introspect f) = Unit {0}

-- the object of a part of an aggregate
abbrev pub PartKeys : (u : ℕ) → PartTree → Type 0
PartKeys u (summary fs) = (are_keys (map (λ f. f.key) fs) ≡ true) × EachSummaryKeys fs
PartKeys u (nodes fs) = are_keys (keys_of fs) ≡ true
PartKeys u (part_typename name) = Unit {0}

-- each object of a request
abbrev pub AllKeys : FieldTrees → Schema → (root : ℕ) → Type 0
AllKeys fs s root = (are_keys (keys_of fs) ≡ true) × Everywhere FieldKeys PartKeys fs s root
