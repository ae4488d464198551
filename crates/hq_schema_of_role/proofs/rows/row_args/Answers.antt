use Rattle.std.proofs.Common.{◌∙◌, [], ◌∷◌, ◌++◌, ap, map}
use Rattle.std.proofs.lemmas.List.{map-append}
use Rattle.hq_schema.specs.Schema.{arg_view}
use Rattle.hq_schema_of_role.specs.Rows.{row_arg}
use Rattle.hq_schema_of_role.proofs.Loops.{map_take-more}
use Rattle.hq_schema_of_role.proofs.rows.row_args.Goals as goal

pub loop-row-preserved : goal.loop-row-preserved
loop-row-preserved c =
    map_take-more row_arg c.args.rows.now c.loop-row.row-index _ (map arg_view c.loop-row.args.items) (map arg_view c.push.new.self.items) c.loop-row.invariant c.loop-row-test.true
    (ap (map arg_view) c.in_ok-push.ensures.items ∙ map-append arg_view _ _ ∙ ap (λ a. map arg_view c.loop-row.args.items ++ a ∷ []) (c.in_ok-row_arg.ensures ∙ ap row_arg c.row-item.is))
