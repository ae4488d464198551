use Rattle.std.proofs.Common.{◌∙◌, map, sym}
use Rattle.std.proofs.lemmas.Result.{on_ok_weaker}
use Rattle.hq_model.specs.PermView.{mask_view}
use Rattle.hq_sql_tree.specs.View.{join_view}
use Rattle.hq_compile_tables.specs.Contexts.{context_schema}
use Rattle.hq_compile_masks.proofs.Places.{joins_if, places_if, numbers_if, no_joins, no_places, no_numbers}
use Rattle.hq_compile_masks.proofs.masks.push_mask.Goals as goal

-- a mask whose column is used is the one that is added
pub returns-then-is_used-clause-joins : goal.returns-then-is_used-clause-joins
returns-then-is_used-clause-joins c =
    let is = sym c.is_used.ensures ∙ c.if-is_used.true in
    on_ok_weaker c.add_mask.result
    (λ adds. joins_if c.args.used.now (context_schema c.args.context.now) c.args.t c.args.p (mask_view c.args.mask.now) c.args.next.now _ _ is adds)
    c.add_mask.ensures.joins

pub returns-then-is_used-clause-places : goal.returns-then-is_used-clause-places
returns-then-is_used-clause-places c =
    let is = sym c.is_used.ensures ∙ c.if-is_used.true in
    on_ok_weaker c.add_mask.result
    (λ adds. places_if c.args.used.now (context_schema c.args.context.now) c.args.t c.args.p (mask_view c.args.mask.now) c.args.next.now _ _ is adds)
    c.add_mask.ensures.places

pub returns-then-is_used-clause-numbers : goal.returns-then-is_used-clause-numbers
returns-then-is_used-clause-numbers c =
    let is = sym c.is_used.ensures ∙ c.if-is_used.true in
    on_ok_weaker c.add_mask.result
    (λ adds. numbers_if c.args.used.now (context_schema c.args.context.now) c.args.t c.args.p (mask_view c.args.mask.now) c.args.next.now _ is adds)
    c.add_mask.ensures.numbers

-- of one whose column is not, there is nothing
pub returns-else-is_used-clause-joins : goal.returns-else-is_used-clause-joins
returns-else-is_used-clause-joins c =
    no_joins c.args.used.now (context_schema c.args.context.now) c.args.t c.args.p (mask_view c.args.mask.now) c.args.next.now
    (map join_view c.args.parts.now.joins.items) (sym c.is_used.ensures ∙ c.if-is_used.false)

pub returns-else-is_used-clause-places : goal.returns-else-is_used-clause-places
returns-else-is_used-clause-places c =
    no_places c.args.used.now (context_schema c.args.context.now) c.args.t c.args.p (mask_view c.args.mask.now) c.args.next.now c.args.parts.now.places (sym c.is_used.ensures ∙ c.if-is_used.false)

pub returns-else-is_used-clause-numbers : goal.returns-else-is_used-clause-numbers
returns-else-is_used-clause-numbers c =
    no_numbers c.args.used.now (context_schema c.args.context.now) c.args.t c.args.p (mask_view c.args.mask.now) c.args.next.now (sym c.is_used.ensures ∙ c.if-is_used.false)
