use Rattle.std.proofs.Common.{◌≡◌, ◌∙◌, ◌++◌, refl, sym, ap, map, Option, Some, None, rules}
use Rattle.std.specs.Prelude.{option_map}
use Rattle.std.specs.List.{filter_map}
use Rattle.std.specs.Option.{option_to_list}
use Rattle.std.proofs.lemmas.List.{map-append, append-nil}
use Rattle.hq_schema.specs.Schema.{ArgTree, arg_view}
use Rattle.hq_schema_of_role.specs.Inputs.{column_input}
use Rattle.hq_schema_of_role.proofs.Loops.{filter_map_drop-more, all_done}
use Rattle.hq_schema_of_role.proofs.inputs.push_columns.Goals as goal
use Rattle.hq_schema_of_role.proofs.inputs.push_columns.Goals.{in-Some+in_ok-push, in_default}

pub loop-column-preserved : goal.loop-column-preserved
loop-column-preserved c =
    let step =
    λ (o : Option ArgTree) (gives : column_input c.args.p c.column-item.result ≡ o)
    (grows : map arg_view c.match-branch-2.inputs.items ≡ map arg_view c.loop-column.inputs.items ++ option_to_list o).
    filter_map_drop-more (column_input c.args.p) c.as_slice-column-items.result.now c.loop-column.column-index c.column-item.result o
    (map arg_view c.loop-column.inputs.items) _ _ c.loop-column.invariant c.loop-column-test.true c.column-item.is gives grows in
    elim c.match-branch-2.branch [
      | in-Some+in_ok-push w
          ↦ step (Some (arg_view w.in-Some.input)) (sym c.in_ok-input.ensures ∙ ap (option_map arg_view) w.in-Some.is)
          (ap (λ v. map arg_view v.items) w.inputs-is ∙ ap (map arg_view) w.in_ok-push.ensures.items ∙ map-append arg_view _ _)
      | in_default w ↦
          let none : c.in_ok-input.field-0 ≡ None = search rules in
          step None (sym c.in_ok-input.ensures ∙ ap (option_map arg_view) none) (ap (λ v. map arg_view v.items) w.inputs-is ∙ sym (append-nil _))
    ]

pub returns : goal.returns
returns c =
    all_done (filter_map (column_input c.args.p)) c.as_slice-column-items.result.now c.loop-column.column-index
    (map arg_view c.loop-column.inputs.items) _ c.loop-column.invariant c.loop-column-test.false refl
    ∙ ap (λ ls. map arg_view c.args.inputs.now.items ++ filter_map (column_input c.args.p) ls) c.as_slice-column-items.ensures
