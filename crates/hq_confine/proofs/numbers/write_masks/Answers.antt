use Rattle.std.proofs.Common.{◌+◌, ℕ, ◌≤◌, ◌^◌, List, drop, map, ap, sym, subst}
use Rattle.std.proofs.lemmas.List.{drop_all}
use Rattle.hq_base.proofs.Loops.{next_item}
use Rattle.hq_model.specs.PermView.{mask_view}
use Rattle.hq_model.specs.Permission.{Mask}
use Rattle.hq_model.specs.Permitted.{mask_of}
use Rattle.hq_translation.specs.Predicates.{own_numbers}
use Rattle.hq_confine_uses.specs.Views.{rules_schema}
use Rattle.hq_confine.proofs.Small.{mask_more, no_masks}
use Rattle.hq_confine.proofs.numbers.write_masks.Goals as goal

pub loop-mask-preserved : goal.loop-mask-preserved
loop-mask-preserved c =
    let s = rules_schema c.args.rules.now in
    let items = c.args.masks.now in
    let i = c.loop-mask.mask-index in
    let item = c.mask-item.result in
    let P = λ (ms : List Mask). (k : ℕ) → 1 + own_numbers (mask_of ms k) s c.args.t ≤ 2 ^ 64 in
    λ rest. c.loop-mask.invariant
    (subst P (sym (ap (map mask_view) (next_item items i item c.loop-mask-test.true c.mask-item.is)))
    (mask_more s c.args.t (mask_view item) (map mask_view (drop (i + 1) items)) c.in_ok-write.ensures rest))

pub returns : goal.returns
returns c =
    let s = rules_schema c.args.rules.now in
    let P = λ (ms : List Mask). (k : ℕ) → 1 + own_numbers (mask_of ms k) s c.args.t ≤ 2 ^ 64 in
    c.loop-mask.invariant (subst P (sym (ap (map mask_view) (drop_all c.loop-mask.mask-index c.args.masks.now c.loop-mask-test.false))) (no_masks s c.args.t))
