-- Fields of introspection that collected fields ask for (GraphQL October 2021, section 4).
use Rattle.std.specs.Prelude.{ℕ, Bool, false, None, Ok}
use Rattle.hq_base.specs.Due.{mapped, ◌>>=◌}
use Rattle.hq_request_arguments.specs.Context.{Context}
use Rattle.hq_request_build.specs.KnownField.{Due, refused, KnownField, known_due, leads_to, deprecated_of}
use Rattle.hq_request_tree.specs.Introspection.{IntrospectionTree, look, IntrospectionTrees, no_look, looks}
use Rattle.hq_request_collect.specs.Tree.{CollectedTrees, no_collected, collected, is_empty}
use Rattle.hq_request_collect.specs.TreeSeen.{FieldSeen}
use Rattle.hq_gql_tree.specs.Selections.{FieldHead}
use Rattle.hq_gql_tree.specs.declared.rule.RuleId.TheVariants as rule
use Rattle.hq_schema.specs.declared.origin.FieldOrigin.{FieldOrigin}
use Rattle.hq_schema.specs.declared.origin.FieldOrigin.TheVariants as origin

-- whether a field of a type of introspection asks for deprecated things, by what it stands for
abbrev pub flag_by : FieldHead → KnownField → FieldOrigin → Due Bool
flag_by h k origin.Introspection = Ok (deprecated_of k.1)
flag_by h k origin.TypeName = Ok false
flag_by h k o = refused rule.FieldSelections h

-- such a field, where `below` tells what stands below it
abbrev pub look_of : FieldHead → (below : KnownField → Due IntrospectionTrees) → KnownField → Due IntrospectionTree
look_of h below k = flag_by h k k.0.origin >>= λ deprecated. mapped (look h.name None deprecated) (below k)

-- fields in the type of a place
abbrev pub looks_due : Context → (place t : ℕ) → CollectedTrees → Due IntrospectionTrees
looks_due c place t no_collected = Ok no_look
looks_due c place t (collected key h below others) =
    (known_due c place t h (is_empty below) >>= look_of h (λ k. looks_due c (leads_to k) t below))
    >>= λ f. mapped (looks key f) (looks_due c place t others)

-- one of these
abbrev pub look_due : Context → (place t : ℕ) → FieldSeen → Due IntrospectionTree
look_due c place t f = known_due c place t f.head (is_empty f.below) >>= look_of f.head (λ k. looks_due c (leads_to k) t f.below)
