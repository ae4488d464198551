use Rattle.std.proofs.Common.{◌∙◌, List, ap}
use Rattle.hq_model.specs.Schema.{table}
use Rattle.hq_request_tree.specs.Arguments.{arguments_view}
use Rattle.hq_compile_tables.specs.Contexts.{context_schema, context_granted}
use Rattle.hq_compile_tables.specs.Shown.{look_in}
use Rattle.hq_compile_tables.specs.declared.shown.MaskPlace.{MaskPlace}
use Rattle.hq_compile_lists.specs.Starts.{start_tie}
use Rattle.hq_compile_lists.proofs.Selects.{rows_are, keys_are}
use Rattle.hq_compile_lists.proofs.list.list_body.Goals as goal

-- the parts are made in the order of their numbers: masks, conditions, sort keys
pub returns-clause-body : goal.returns-clause-body
returns-clause-body c =
    let s = context_schema c.args.context.now in
    let g = context_granted c.args.context.now in
    let t = c.args.t in
    let n = c.args.n in
    let a = arguments_view c.args.start.now.args.now in
    let cs = c.args.used.now in
    let tie = start_tie s c.args.start.now n in
    let look = λ (places : List MaskPlace). look_in places (table s t).columns n in
    let shown = ap look c.as_slice-places.ensures ∙ c.in_ok-masks.ensures.looks in
    record {
      rows = λ limit outs children.
          rows_are s g t cs a n tie c.args.next.now c.mask_parts.new.next c.list_members.new.next (look c.as_slice-places.result.now) _ _ _ children _ _ outs limit
          c.in_ok-distinct.ensures c.in_ok-members.ensures.members c.in_ok-sorts.ensures.joins c.in_ok-sorts.ensures.orders c.in_ok-masks.ensures.joins shown
          c.in_ok-members.ensures.numbers c.in_ok-masks.ensures.numbers c.requires;
      keys = keys_are s g t cs a n tie c.args.next.now c.mask_parts.new.next c.list_members.new.next (look c.as_slice-places.result.now) _
          c.in_ok-sorts.ensures.outputs shown c.in_ok-members.ensures.numbers c.in_ok-masks.ensures.numbers c.requires;
      looks = c.in_ok-masks.ensures.looks;
    }
