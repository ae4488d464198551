use Rattle.std.proofs.Common.{◌≡◌, ◌∙◌, ℕ, ◌+◌, ap, arith}
use Rattle.hq_model.specs.Schema.{rel}
use Rattle.hq_translation.specs.Masks.{filter_numbers}
use Rattle.hq_compile_tables.specs.Contexts.{context_schema, context_granted}
use Rattle.hq_compile_masks.proofs.Firsts.{joins_at, looks_at, filter_at, linked_at}
use Rattle.hq_compile_masks.proofs.first.remote_row.Goals as goal

pub returns-clause-joins : goal.returns-clause-joins
returns-clause-joins c =
    joins_at (context_schema c.args.context.now) (context_granted c.args.context.now) c.args.used.now _ _ _ _ c.remote-table.ensures c.in_ok-number.ensures.taken _ c.in_ok-masks.ensures.joins

pub returns-clause-looks : goal.returns-clause-looks
returns-clause-looks c =
    looks_at (context_schema c.args.context.now) (context_granted c.args.context.now) c.args.used.now _ _ _ _ c.remote-table.ensures c.in_ok-number.ensures.taken _ c.in_ok-masks.ensures.looks

pub returns-clause-members : goal.returns-clause-members
returns-clause-members c =
    let s = context_schema c.args.context.now in
    let g = context_granted c.args.context.now in
    let behind : c.take_number.new.next ≡ c.in_ok-number.number + 1 = omega (arith, c.in_ok-number.ensures.taken, c.in_ok-number.ensures.numbers) in
    let from = filter_at s g c.args.used.now _ _ _ _ c.remote-table.ensures c.in_ok-number.ensures.taken _ _ c.in_ok-masks.ensures.numbers behind in
    linked_at s g c.args.t c.args.p c.args.r _ _ _ _ _ c.in_ok-members.ensures.members c.in_ok-number.ensures.taken from

pub returns-clause-numbers : goal.returns-clause-numbers
returns-clause-numbers c =
    let s = context_schema c.args.context.now in
    let g = context_granted c.args.context.now in
    let u = (rel s c.args.t c.args.r).remote in
    let behind : c.take_number.new.next ≡ c.in_ok-number.number + 1 = omega (arith, c.in_ok-number.ensures.taken, c.in_ok-number.ensures.numbers) in
    let from = filter_at s g c.args.used.now _ _ _ _ c.remote-table.ensures c.in_ok-number.ensures.taken _ _ c.in_ok-masks.ensures.numbers behind in
    c.in_ok-members.ensures.numbers ∙ ap (λ (m : ℕ). m + filter_numbers s g u) from
