-- A role that sees what two roles see: the rows of both, and of each row only what one of them shows of it.
use Rattle.std.specs.Prelude.{◌≡◌, List, [], ◌∷◌, true, false, None, codes, refl}
use Rattle.std.specs.Fmt.{digits}
use Rattle.hq_base.specs.Compact.{escaped}
use Rattle.hq_base.specs.declared.aggregate.Aggregate.TheVariants.{Sum}
use Rattle.hq_base.specs.declared.value.Val.TheVariants as val
use Rattle.hq_model.specs.Bexp.{test}
use Rattle.hq_model.specs.Database.{Row}
use Rattle.hq_model.specs.Grants.{Grants, grants_of}
use Rattle.hq_model.specs.Meta.{MetaTree}
use Rattle.hq_model.specs.View.{Agree}
use Rattle.hq_model.specs.declared.bexp.Operand.TheVariants as operand
use Rattle.hq_model.specs.declared.bexp.Operands.TheVariants as operands
use Rattle.hq_model.specs.declared.op.Op.TheVariants.{Eq}
use Rattle.hq_model.specs.declared.test.Test.TheVariants.{Compare}
use Rattle.hq_request_tree.specs.Fields.{FieldTrees, field, column, list, aggregate, from_table, part, no_part, summary}
use Rattle.hq_request_tree.specs.declared.aggregate.AggCol.TheVariants as of
use Rattle.hq_request_tree.specs.declared.aggregate.AggField.TheVariants as take
use Rattle.hq_request_tree.proofs.Blog.{number, authors, articles_rated, database, schema, tables, inheriting, session_of, given, given_over, plain, only}
use Rattle.hq_request_tree.proofs.Worked.{by, listed}

abbrev meta : MetaTree
meta =
    inheriting (record { role = codes "mix"; set = codes "pub" ∷ codes "own" ∷ codes "pub" ∷ [] } ∷ []) []
    (record { role = codes "pub"; cols = 0 ∷ 2 ∷ []; filter = test 3 (Compare Eq) (operands.List (operand.Const (val.Bool true) ∷ [])) false; limit = None; aggregations = false }
    ∷ record {
      role = codes "own";
      cols = 0 ∷ 2 ∷ 4 ∷ [];
      filter = test 1 (Compare Eq) (operands.List (operand.Session (codes "x-hasura-user-id") ∷ [])) false;
      limit = None;
      aggregations = true;
    } ∷ [])

abbrev mix : Grants
mix = grants_of (session_of (codes "mix") (codes "1")) tables meta

ids_and_ratings : FieldTrees
ids_and_ratings = only (codes "article") (list (from_table 1) plain (field (codes "id") (column 0) (only (codes "rating") (column 4))))

columns_shown : given mix ids_and_ratings ≡ codes "{\"article\":[{\"id\":10,\"rating\":5},{\"id\":11,\"rating\":null},{\"id\":12,\"rating\":null},{\"id\":13,\"rating\":null}]}"
unfolding digits escaped ids_and_ratings
columns_shown = refl

conditions_shown : given mix (listed (record plain { wanted = test 4 (Compare Eq) (operands.List (operand.Const (number 5) ∷ [])) false })) ≡ codes "{\"article\":[{\"id\":10}]}"
unfolding digits escaped
conditions_shown = refl

sorts_shown : given mix (listed (record plain { sorts = by 4 true true ∷ [] })) ≡ codes "{\"article\":[{\"id\":11},{\"id\":12},{\"id\":13},{\"id\":10}]}"
unfolding digits escaped
sorts_shown = refl

abbrev counted : FieldTrees
counted =
    only (codes "article_aggregate") (aggregate (from_table 1) plain (part (codes "aggregate") (summary (
    record { key = codes "count"; field = take.Count None false }
    ∷ record { key = codes "sum"; field = take.Columns Sum (record { key = codes "rating"; field = of.Column 4 } ∷ []) } ∷ [])) no_part))

aggregates_shown : given mix counted ≡ codes "{\"article_aggregate\":{\"aggregate\":{\"count\":4,\"sum\":{\"rating\":5}}}}"
unfolding digits escaped
aggregates_shown = refl

-- another rating where it is not shown
abbrev other : List (List Row)
other = authors ∷ articles_rated (number 5) (number 9) (number 7) ∷ []

agree : Agree schema mix database other
agree = refl

hidden_changed : given_over other mix ids_and_ratings ≡ given mix ids_and_ratings
unfolding digits escaped ids_and_ratings
hidden_changed = refl
