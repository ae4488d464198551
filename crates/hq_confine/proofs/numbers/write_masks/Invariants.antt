use Rattle.std.proofs.Common.{ℕ, ◌+◌, ◌≤◌, ◌^◌, drop, map}
use Rattle.hq_model.specs.PermView.{mask_view}
use Rattle.hq_model.specs.Permitted.{mask_of}
use Rattle.hq_translation.specs.Predicates.{own_numbers}
use Rattle.hq_confine_uses.specs.Views.{rules_schema}
use Rattle.hq_confine.proofs.numbers.write_masks.Given as goal

-- where those that are left can be written, all can
abbrev pub invariant-loop-mask : goal.invariant-loop-mask
invariant-loop-mask l =
    let s = rules_schema l.rules in
    ((c : ℕ) → 1 + own_numbers (mask_of (map mask_view (drop l.mask-index l.masks)) c) s l.t ≤ 2 ^ 64) → (c : ℕ) → 1 + own_numbers (mask_of (map mask_view l.masks) c) s l.t ≤ 2 ^ 64
