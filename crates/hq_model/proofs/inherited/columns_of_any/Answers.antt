-- The columns that are kept so far, with those of the rest that pass, are all that pass.
use Rattle.std.proofs.Common.{◌≡◌, ℕ, List, [], ◌∷◌, ◌++◌, Bool, cond, filter, drop, map, ◌+◌, sym, subst, rules}
use Rattle.std.specs.List.{list_any}
use Rattle.hq_model.specs.Permission.{permits}
use Rattle.hq_model.specs.PermView.{permission_view}
use Rattle.hq_model.proofs.Lists.{filter_step}
use Rattle.hq_model.proofs.inherited.columns_of_any.Goals as goal
use Rattle.hq_model.proofs.inherited.columns_of_any.Goals.{then-some_permits+in_ok-push, else-some_permits}

pub loop-col-preserved : goal.loop-col-preserved
loop-col-preserved c =
    let p : ℕ → Bool = λ x. list_any (permits x) (map permission_view c.args.views.now) in
    let item = c.col-item.result in
    let kept : c.if-some_permits.cols ≡ cond (p item) (c.loop-col.cols ++ item ∷ []) c.loop-col.cols =
    elim c.if-some_permits.branch [ then-some_permits+in_ok-push w ↦ search rules | else-some_permits w ↦ search rules ]
    in
    subst (λ (cols : List ℕ). cols ++ filter p (drop (c.loop-col.col-index + 1) c.as_slice-col-items.result.now) ≡ filter p c.as_slice-col-items.result.now) (sym kept)
    (filter_step p _ _ item c.loop-col.cols c.loop-col-test.true c.col-item.is c.loop-col.invariant)
