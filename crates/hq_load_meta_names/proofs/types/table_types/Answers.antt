use Rattle.std.proofs.Common.{◌≡◌, ◌∙◌, ap, ℕ, List, [], ◌∷◌, ◌++◌, map, append-nil}
use Rattle.std.specs.Prelude.{codes}
use Rattle.std.proofs.lemmas.Result.{IfOk-weaker}
use Rattle.hq_schema.specs.Parts.{row_parts, aggregate_parts}
use Rattle.hq_schema.specs.declared.part.Part.{Part}
use Rattle.hq_load_meta_names.specs.Types.{part_name, aggregated_name}
use Rattle.hq_load_meta_names.proofs.types.table_types.Goals as goal

pub returns : goal.returns
returns c =
    let name = c.args.name.now in
    let named = λ (parts : List Part). map (part_name name) parts in
    let aggregated = map (aggregated_name name) c.args.aggregates.now in
    let behind : List (List ℕ) =
    (name ++ codes "_bool_exp") ∷ (name ++ codes "_order_by") ∷ (name ++ codes "_select_column")
    ∷ (name ++ codes "_aggregate") ∷ (name ++ codes "_aggregate_fields") ∷ aggregated
    in
    let one : c.in_ok-names.names ≡ named row_parts =
    c.in_ok-names.ensures ∙ ap (λ (parts : List Part). c.new.result ++ named parts) c.of_rows.ensures ∙ ap (λ (ns : List (List ℕ)). ns ++ named row_parts) c.new.ensures
    in
    let two : c.in_ok-names-2.names ≡ named row_parts ++ named aggregate_parts =
    c.in_ok-names-2.ensures ∙ ap (λ (parts : List Part). c.in_ok-names.names ++ named parts) c.of_aggregates.ensures ∙ ap (λ (ns : List (List ℕ)). ns ++ named aggregate_parts) one
    in
    IfOk-weaker c.push_aggregated.result _ _
    (λ names h. h ∙ (ap (λ (ns : List (List ℕ)). ns ++ aggregated) two ∙ ap (λ (n : List ℕ). n ∷ behind) (append-nil name)))
    c.push_aggregated.ensures
