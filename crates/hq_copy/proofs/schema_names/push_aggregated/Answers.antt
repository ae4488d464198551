use Rattle.std.proofs.Common.{◌∙◌, ℕ, Bool, List, ◌∷◌, [], ◌++◌, ap, append-nil, drop_of_length-le, filter, map, sym}
use Rattle.hq_base.specs.Aggregates.{aggregate_suffix}
use Rattle.hq_base.specs.declared.aggregate.Aggregate.{Aggregate}
use Rattle.hq_model.specs.Meta.{tracked_view}
use Rattle.hq_model.specs.Schema.{schema_of}
use Rattle.hq_model.specs.SchemaNames.{is_aggregated}
use Rattle.hq_copy.proofs.SchemaNames.{filtered_kept, filtered_left}
use Rattle.hq_copy.proofs.schema_names.push_aggregated.Goals as goal
use Rattle.hq_copy.proofs.schema_names.push_aggregated.Goals.{then-is_aggregated+in_ok-push_end, else-is_aggregated}

pub loop-aggregate-preserved : goal.loop-aggregate-preserved
loop-aggregate-preserved c m =
    let name = c.args.tracked.now.name in
    let test : Aggregate → Bool = is_aggregated (schema_of c.args.tables.now m) (tracked_view c.args.tracked.now) in
    let named : Aggregate → List ℕ = λ a. name ++ aggregate_suffix a in
    let all = c.args.aggregates.now in
    let before = c.loop-aggregate.names in
    elim c.if-is_aggregated.branch [
      | then-is_aggregated+in_ok-push_end w ↦ filtered_kept test named all c.loop-aggregate.aggregate-index _ before c.if-is_aggregated.names _ c.loop-aggregate-test.true
          (sym (c.is_aggregated.ensures m) ∙ w.if-is_aggregated.true)
          (w.names-is ∙ w.in_ok-push_end.ensures ∙ ap (λ (end : List ℕ). before ++ (name ++ end) ∷ []) w.type_suffix.ensures.suffix)
          (c.loop-aggregate.invariant m)
      | else-is_aggregated w ↦ filtered_left test named all c.loop-aggregate.aggregate-index _ before c.if-is_aggregated.names _ c.loop-aggregate-test.true
          (sym (c.is_aggregated.ensures m) ∙ w.if-is_aggregated.false) w.names-is (c.loop-aggregate.invariant m)
    ]

pub returns : goal.returns
returns c m =
    let name = c.args.tracked.now.name in
    let test : Aggregate → Bool = is_aggregated (schema_of c.args.tables.now m) (tracked_view c.args.tracked.now) in
    let names = c.loop-aggregate.names in
    sym (ap (λ (rest : List Aggregate). names ++ map (λ a. name ++ aggregate_suffix a) (filter test rest)) (drop_of_length-le c.args.aggregates.now c.loop-aggregate-test.false) ∙ append-nil names)
    ∙ c.loop-aggregate.invariant m
