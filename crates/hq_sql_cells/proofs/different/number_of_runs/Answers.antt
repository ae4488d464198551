use Rattle.std.proofs.Common.{◌≡◌, ◌∙◌, ◌+◌, ◌<◌, length, drop, ap, sym, refl, rules, arith}
use Rattle.hq_sql_cells.specs.Totals.{same_number}
use Rattle.hq_sql_cells.proofs.Groups.{pass_from}
use Rattle.hq_sql_cells.proofs.Numbers.{runs_end, runs_more, runs_stay}
use Rattle.hq_sql_cells.proofs.different.number_of_runs.Goals as goal
use Rattle.hq_sql_cells.proofs.different.number_of_runs.Goals.{then-is_other, else-is_other}

pub loop-next-preserved : goal.loop-next-preserved
loop-next-preserved c =
    let ns = c.args.numbers.now in
    let i = c.loop-next.next-index in
    let lt : i < length ns = omega (arith, c.loop-next-test.true) in
    elim c.if-is_other.branch [
      | then-is_other w ↦ (
        ap (λ l. c.if-is_other.number + length (pass_from same_number l (drop (i + 1) ns))) w.last-is
            ∙ runs_more c.loop-next.number i c.if-is_other.number c.loop-next.last _ ns _ lt (search rules) (sym c.is_other.ensures ∙ w.if-is_other.true) c.loop-next.invariant.0 w.number-is,
        omega (arith, w.number-is, c.loop-next.invariant.1),
      )
      | else-is_other w ↦ (
        ap (λ k. k + length (pass_from same_number c.if-is_other.last (drop (i + 1) ns))) w.number-is
            ∙ ap (λ l. c.loop-next.number + length (pass_from same_number l (drop (i + 1) ns))) w.last-is
            ∙ runs_stay c.loop-next.number i c.loop-next.last _ ns _ lt (search rules) (sym c.is_other.ensures ∙ w.if-is_other.false) c.loop-next.invariant.0,
        omega (arith, w.number-is, c.loop-next.invariant.1),
      )
    ]

pub returns : goal.returns
returns c = runs_end c.loop-next.number c.loop-next.next-index c.loop-next.last c.args.numbers.now (search rules) c.loop-next.invariant.0 c.requires
