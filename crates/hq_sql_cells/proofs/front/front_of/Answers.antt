use Rattle.std.proofs.Common.{◌≡◌, ◌∙◌, ◌+◌, ◌*◌, ◌-◌, suc, drop, sym, ap, arith}
use Rattle.hq_sql_cells.specs.Fronts.{digits, front_of}
use Rattle.hq_sql_cells.proofs.Fronts.{digit_more, room_left, room_more}
use Rattle.hq_sql_cells.proofs.front.front_of.Goals as goal

pub overflow_mul-front : goal.overflow_mul-front
overflow_mul-front c =
    let lt = c.loop-at-test.true in
    let left = room_left c.loop-at.at (omega (arith, lt)) in
    omega (arith, c.loop-at.invariant.small, left)

pub overflow_add-front : goal.overflow_add-front
overflow_add-front c =
    let lt = c.loop-at-test.true in
    let left = room_left c.loop-at.at (omega (arith, lt)) in
    omega (arith, c.loop-at.invariant.small, left, c.byte_at.ensures.small)

pub loop-at-preserved : goal.loop-at-preserved
loop-at-preserved c =
    let lt = c.loop-at-test.true in
    let at = c.loop-at.at in
    let bytes = c.args.bytes.now in
    let one : 8 - at ≡ suc (8 - (at + 1)) = omega (arith, lt) in
    record {
      number = ap (λ k. digits (8 - (at + 1)) (c.loop-at.front * 256 + k) (drop (at + 1) bytes)) c.byte_at.ensures.byte
          ∙ sym (digit_more (8 - (at + 1)) c.loop-at.front at bytes) ∙ ap (λ n. digits n c.loop-at.front (drop at bytes)) (sym one) ∙ c.loop-at.invariant.number;
      small = omega (arith, c.loop-at.invariant.small, c.byte_at.ensures.small, room_more at);
    }

pub returns-clause-bytes : goal.returns-clause-bytes
returns-clause-bytes c = λ i. omega (arith, c.type_inv.bytes i)
