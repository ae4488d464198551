-- The columns that are kept so far, with those of the rest that pass, are all that pass.
use Rattle.std.proofs.Common.{◌≡◌, ℕ, List, [], ◌∷◌, ◌++◌, Bool, cond, filter, drop, ◌+◌, sym, subst, rules}
use Rattle.std.specs.Prelude.{◌==◌}
use Rattle.std.specs.List.{list_any}
use Rattle.hq_model.proofs.Lists.{filter_step}
use Rattle.hq_model.proofs.permission.told_columns.Goals as goal
use Rattle.hq_model.proofs.permission.told_columns.Goals.{then-has_column+in_ok-push, else-has_column}

pub loop-col-preserved : goal.loop-col-preserved
loop-col-preserved c =
    let p : ℕ → Bool = λ x. list_any (λ d. d == x) c.args.told.now in
    let item = c.col-item.result in
    let kept : c.if-has_column.cols ≡ cond (p item) (c.loop-col.cols ++ item ∷ []) c.loop-col.cols =
    elim c.if-has_column.branch [ then-has_column+in_ok-push w ↦ search rules | else-has_column w ↦ search rules ]
    in
    subst (λ (cols : List ℕ). cols ++ filter p (drop (c.loop-col.col-index + 1) c.as_slice-col-items.result.now) ≡ filter p c.as_slice-col-items.result.now) (sym kept)
    (filter_step p _ _ item c.loop-col.cols c.loop-col-test.true c.col-item.is c.loop-col.invariant)
