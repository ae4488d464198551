use Rattle.std.proofs.Common.{◌≡◌, ◌∙◌, ◌∷◌, [], length, subst, arith}
use Rattle.hq_load_index.specs.Grids.{rows_in}
use Rattle.hq_load_index.specs.Indexes.{columns_of}
use Rattle.hq_sql_constants.specs.Sifted.{AreTaken}
use Rattle.hq_sql_constants.specs.declared.marked.Constants.{Constants}
use Rattle.hq_sql_constants.proofs.Chosen.{ones_few, constants_are, has_slots}
use Rattle.hq_sql_constants.proofs.marked.constants_of.Goals as goal

pub build-requires : goal.build-requires
build-requires c =
    let values = c.args.values.items in
    let long : c.args.values.len ≡ length c.args.values.items = omega (arith, c.args.values.ok.0) in
    let count : c.len-count.result ≡ length values = c.len-count.ensures ∙ long in
    ones_few (length values) c.len-count.result values (rows_in c.of-grid.result) count c.requires c.of-grid.ensures

pub returns-clause-are : goal.returns-clause-are
returns-clause-are c =
    let values = c.args.values.items in
    let s : Constants = record { grid = c.of-grid.result; index = c.in_ok-index.index; taken = c.in_ok-taken.taken } in
    let own : columns_of c.in_ok-index.index ≡ 0 ∷ [] = c.in_ok-index.ensures.columns ∙ c.in_ok-columns.ensures in
    let long : c.args.values.len ≡ length c.args.values.items = omega (arith, c.args.values.ok.0) in
    let count : c.len-count.result ≡ length values = c.len-count.ensures ∙ long in
    constants_are values c.len-count.result s count c.of-grid.ensures c.in_ok-index.ensures.over own

pub returns-clause-slots : goal.returns-clause-slots
returns-clause-slots c =
    let values = c.args.values.items in
    let marks : AreTaken values c.in_ok-taken.taken.items = subst (λ vs. AreTaken vs c.in_ok-taken.taken.items) c.as_slice.ensures.value c.in_ok-taken.ensures in
    has_slots values _ (returns-clause-are c) marks
