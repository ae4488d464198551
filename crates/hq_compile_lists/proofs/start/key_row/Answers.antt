use Rattle.std.proofs.Common.{◌≡◌, ◌∙◌, ℕ, ◌+◌, List, ap, refl, arith}
use Rattle.hq_model.specs.Schema.{table}
use Rattle.hq_translation.specs.Masks.{filter_numbers}
use Rattle.hq_compile_tables.specs.Contexts.{context_schema, context_granted}
use Rattle.hq_compile_tables.specs.Shown.{look_in}
use Rattle.hq_compile_tables.specs.declared.shown.MaskPlace.{MaskPlace}
use Rattle.hq_compile_masks.proofs.Firsts.{joins_at, looks_at, filter_at}
use Rattle.hq_compile_lists.proofs.Keys.{keyed_at}
use Rattle.hq_compile_lists.proofs.start.key_row.Goals as goal

pub returns-clause-joins : goal.returns-clause-joins
returns-clause-joins c =
    joins_at (context_schema c.args.context.now) (context_granted c.args.context.now) c.args.used.now _ _ _ _ refl c.in_ok-number.ensures.taken _ c.in_ok-masks.ensures.joins

pub returns-clause-looks : goal.returns-clause-looks
returns-clause-looks c =
    looks_at (context_schema c.args.context.now) (context_granted c.args.context.now) c.args.used.now _ _ _ _ refl c.in_ok-number.ensures.taken _ c.in_ok-masks.ensures.looks

-- the tie reads shown cells, whose places are known by then
pub returns-clause-members : goal.returns-clause-members
returns-clause-members c =
    let s = context_schema c.args.context.now in
    let g = context_granted c.args.context.now in
    let t = c.args.t in
    let cs = c.args.used.now in
    let next = c.args.next.now in
    let taken = c.in_ok-number.ensures.taken in
    let behind : c.take_number.new.next ≡ c.in_ok-number.number + 1 = omega (arith, taken, c.in_ok-number.ensures.numbers) in
    let look = ap (λ (places : List MaskPlace). look_in places (table s t).columns next) c.as_slice-places.ensures ∙ looks_at s g cs _ _ _ _ refl taken _ c.in_ok-masks.ensures.looks in
    keyed_at s g t _ _ next cs c.as_slice-places.result.now _ _ c.in_ok-members.ensures.members taken look
    (filter_at s g cs t t _ _ refl taken _ _ c.in_ok-masks.ensures.numbers behind)

pub returns-clause-numbers : goal.returns-clause-numbers
returns-clause-numbers c =
    let s = context_schema c.args.context.now in
    let g = context_granted c.args.context.now in
    let t = c.args.t in
    let taken = c.in_ok-number.ensures.taken in
    let behind : c.take_number.new.next ≡ c.in_ok-number.number + 1 = omega (arith, taken, c.in_ok-number.ensures.numbers) in
    c.in_ok-members.ensures.numbers ∙ ap (λ (m : ℕ). m + filter_numbers s g t) (filter_at s g c.args.used.now t t _ _ refl taken _ _ c.in_ok-masks.ensures.numbers behind)
