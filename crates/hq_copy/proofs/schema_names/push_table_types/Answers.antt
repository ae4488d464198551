use Rattle.std.proofs.Common.{◌∙◌, ℕ, List, ◌∷◌, ◌++◌, ap, filter, map, append-nil}
use Rattle.std.specs.Prelude.{codes}
use Rattle.std.proofs.lemmas.Result.{on_ok_weaker}
use Rattle.hq_base.specs.Aggregates.{aggregate_suffix, all_aggregates}
use Rattle.hq_base.specs.declared.aggregate.Aggregate.{Aggregate}
use Rattle.hq_schema.specs.Parts.{aggregate_parts, part_suffix, row_parts}
use Rattle.hq_schema.specs.declared.part.Part.{Part}
use Rattle.hq_model.specs.Meta.{tracked_view}
use Rattle.hq_model.specs.Schema.{schema_of}
use Rattle.hq_model.specs.SchemaNames.{is_aggregated}
use Rattle.hq_copy.proofs.SchemaNames.{three_pieces}
use Rattle.hq_copy.proofs.schema_names.push_table_types.Goals as goal

pub returns : goal.returns
returns c =
    let name = c.args.tracked.now.name in
    let named = λ (parts : List Part). map (λ p. name ++ part_suffix p) parts in
    on_ok_weaker c.push_aggregated.result
    (λ h m.
    let s = schema_of c.args.tables.now m in
    let over = λ (all : List Aggregate). map (λ a. name ++ aggregate_suffix a) (filter (is_aggregated s (tracked_view c.args.tracked.now)) all) in
    let behind : List (List ℕ) =
    (name ++ codes "_bool_exp") ∷ (name ++ codes "_order_by") ∷ (name ++ codes "_select_column")
    ∷ (name ++ codes "_aggregate") ∷ (name ++ codes "_aggregate_fields") ∷ over all_aggregates in
    let zero = c.args.names.now in
    let one = c.push_parts.new.names in
    let two = c.push_parts-2.new.names in
    three_pieces zero one two c.push_aggregated.new.names (named row_parts) (named aggregate_parts) (over all_aggregates)
    (c.in_ok-push_parts.ensures ∙ ap (λ (ps : List Part). zero ++ named ps) c.of_rows.ensures)
    (c.in_ok-push_parts-2.ensures ∙ ap (λ (ps : List Part). one ++ named ps) c.of_aggregates.ensures)
    (h m ∙ ap (λ (all : List Aggregate). two ++ over all) c.all.ensures)
    ∙ ap (λ (n : List ℕ). zero ++ n ∷ behind) (append-nil name))
    c.push_aggregated.ensures
