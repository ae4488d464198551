-- What collected fields of aggregates ask for (Hasura, Queries: aggregate fields).
use Rattle.std.specs.Prelude.{ℕ, List, [], ◌∷◌, Ok}
use Rattle.hq_base.specs.Due.{mapped, ◌>>=◌}
use Rattle.hq_request_arguments.specs.Context.{Context}
use Rattle.hq_request_build.specs.KnownField.{Due, refused, KnownField, known_due, leads_to, type_name_due, count_of}
use Rattle.hq_request_tree.specs.declared.aggregate.AggCol.{AggCol}
use Rattle.hq_request_tree.specs.declared.aggregate.AggCol.TheVariants as of
use Rattle.hq_request_tree.specs.declared.aggregate.AggField.{AggField}
use Rattle.hq_request_tree.specs.declared.aggregate.AggField.TheVariants as take
use Rattle.hq_request_tree.specs.declared.aggregate.KeyedAggCol.{KeyedAggCol}
use Rattle.hq_request_tree.specs.declared.aggregate.KeyedAggField.{KeyedAggField}
use Rattle.hq_request_collect.specs.Tree.{CollectedTrees, no_collected, collected, is_empty}
use Rattle.hq_request_collect.specs.TreeSeen.{FieldSeen}
use Rattle.hq_gql_tree.specs.Selections.{FieldHead}
use Rattle.hq_gql_tree.specs.declared.rule.RuleId.TheVariants as rule
use Rattle.hq_schema.specs.declared.origin.FieldOrigin.{FieldOrigin}
use Rattle.hq_schema.specs.declared.origin.FieldOrigin.TheVariants as origin

-- a field of what one aggregate gives, by what it stands for
abbrev pub taken_by : Context → (place : ℕ) → FieldHead → FieldOrigin → Due AggCol
taken_by c place h (origin.Column col) = Ok (of.Column col)
taken_by c place h origin.TypeName = mapped of.Typename (type_name_due c.schema place h)
taken_by c place h o = refused rule.FieldSelections h

abbrev pub with_taken : (key : List ℕ) → AggCol → List KeyedAggCol → List KeyedAggCol
with_taken key f fs = record { key = key; field = f } ∷ fs

-- the fields of what one aggregate gives, in the type of a place
abbrev pub taken_due : Context → (place t : ℕ) → CollectedTrees → Due (List KeyedAggCol)
taken_due c place t no_collected = Ok []
taken_due c place t (collected key h below others) =
    (known_due c place t h (is_empty below) >>= λ k. taken_by c place h k.0.origin)
    >>= λ f. mapped (with_taken key f) (taken_due c place t others)

-- one of these
abbrev pub one_taken_due : Context → (place t : ℕ) → FieldSeen → Due AggCol
one_taken_due c place t f = known_due c place t f.head (is_empty f.below) >>= λ k. taken_by c place f.head k.0.origin

-- a field of aggregate, by what it stands for and its arguments, where `below` are the fields below it
abbrev pub summary_by : Context → (place : ℕ) → FieldHead → KnownField → (below : Due (List KeyedAggCol)) → FieldOrigin → Due AggField
summary_by c place h k below origin.Count = mapped (λ x. take.Count x.0 x.1) (count_of h k.1)
summary_by c place h k below (origin.Aggregated a) = mapped (take.Columns a) below
summary_by c place h k below origin.TypeName = mapped take.Typename (type_name_due c.schema place h)
summary_by c place h k below o = refused rule.FieldSelections h

abbrev pub with_summary : (key : List ℕ) → AggField → List KeyedAggField → List KeyedAggField
with_summary key f fs = record { key = key; field = f } ∷ fs

-- the fields of aggregate, in the type of a place
abbrev pub summaries_due : Context → (place t : ℕ) → CollectedTrees → Due (List KeyedAggField)
summaries_due c place t no_collected = Ok []
summaries_due c place t (collected key h below others) =
    (known_due c place t h (is_empty below) >>= λ k. summary_by c place h k (taken_due c (leads_to k) t below) k.0.origin)
    >>= λ f. mapped (with_summary key f) (summaries_due c place t others)

-- one of these
abbrev pub one_summary_due : Context → (place t : ℕ) → FieldSeen → Due AggField
one_summary_due c place t f = known_due c place t f.head (is_empty f.below) >>= λ k. summary_by c place f.head k (taken_due c (leads_to k) t f.below) k.0.origin
