use Rattle.std.proofs.Common.{◌∙◌, ℕ, Bool, List, ap, drop_of_length-le, sym}
use Rattle.std.specs.List.{list_any}
use Rattle.hq_base.specs.Aggregates.{is_aggregate_of}
use Rattle.hq_model.specs.Permission.{named_from}
use Rattle.hq_model.specs.Schema.{column, schema_of}
use Rattle.hq_copy.proofs.SchemaNames.{any_fails, any_hidden, any_passes}
use Rattle.hq_copy.proofs.schema_names.is_aggregated.Goals as goal
use Rattle.hq_copy.proofs.schema_names.is_aggregated.Goals.{else-is_free_name-via-then-is_free_name+else-is_of, else-is_free_name-via-else-is_free_name}

pub returns-then-is_of : goal.returns-then-is_of
returns-then-is_of c m =
    let a = c.args.aggregate in
    let test : ℕ → Bool = λ d. is_aggregate_of a (column (schema_of c.args.tables.now m) c.args.tracked.now.table d).ty in
    any_passes test c.as_slice-names.result.now c.loop-c.c c.index-names-c.result c.loop-c-test.true c.index-names-c.is _
    (c.loop-c.invariant m ∙ ap (λ (ns : List (List ℕ)). list_any test (named_from 0 ns)) c.as_slice-names.ensures)
    (sym c.is_free_name.ensures ∙ c.if-is_free_name.true)
    (sym (c.is_of.ensures ∙ ap (is_aggregate_of a) (c.type_at.ensures m)) ∙ c.if-is_of.true)

pub loop-c-preserved : goal.loop-c-preserved
loop-c-preserved c m =
    let a = c.args.aggregate in
    let test : ℕ → Bool = λ d. is_aggregate_of a (column (schema_of c.args.tables.now m) c.args.tracked.now.table d).ty in
    let names = c.as_slice-names.result.now in
    elim c.else-is_free_name.branch [
      | else-is_free_name-via-then-is_free_name+else-is_of w ↦ any_fails test names c.loop-c.c c.index-names-c.result c.loop-c-test.true c.index-names-c.is _ (c.loop-c.invariant m)
          (sym (w.is_of.ensures ∙ ap (is_aggregate_of a) (w.type_at.ensures m)) ∙ w.if-is_of.false)
      | else-is_free_name-via-else-is_free_name w ↦ any_hidden test names c.loop-c.c c.index-names-c.result c.loop-c-test.true c.index-names-c.is _ (c.loop-c.invariant m)
          (sym c.is_free_name.ensures ∙ w.if-is_free_name.false)
    ]

pub returns : goal.returns
returns c m =
    let test : ℕ → Bool = λ d. is_aggregate_of c.args.aggregate (column (schema_of c.args.tables.now m) c.args.tracked.now.table d).ty in
    sym (ap (λ (ns : List (List ℕ)). list_any test (named_from c.loop-c.c ns)) (drop_of_length-le c.as_slice-names.result.now c.loop-c-test.false))
    ∙ c.loop-c.invariant m
    ∙ ap (λ (ns : List (List ℕ)). list_any test (named_from 0 ns)) c.as_slice-names.ensures
