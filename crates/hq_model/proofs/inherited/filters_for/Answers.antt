use Rattle.std.proofs.Common.{◌≡◌, ◌∙◌, sym, ap, refl, ℕ, Bool, true, false, cond, List, [], ◌∷◌, map, ◌++◌, Vec, Global}
use Rattle.std.proofs.lemmas.List.{map-append, append-nil}
use Rattle.hq_model.specs.Bexp.{BexpTree, bexp_view}
use Rattle.hq_model.specs.Permission.{Permission, filters_of, filters_for, permits}
use Rattle.hq_model.specs.PermView.{permission_view}
use Rattle.hq_model.specs.declared.bexp.Bexp.{Bexp}
use Rattle.hq_model.specs.declared.perm.PermView.{PermView}
use Rattle.hq_model.proofs.Joining.{put_more}
use Rattle.hq_model.proofs.inherited.filters_for.Goals as goal
use Rattle.hq_model.proofs.inherited.filters_for.Goals.{then-permits+in_ok-copy+in_ok-push, else-permits}

-- the filter of a permission, where it has the column
abbrev filter_for : ℕ → PermView → List BexpTree
filter_for col v = cond (permits col (permission_view v)) (bexp_view v.filter ∷ []) []

one_filter : (b : Bool) (p : Permission) (ps : List Permission) → filters_of (cond b (p ∷ ps) ps) ≡ cond b (p.filter ∷ []) [] ++ filters_of ps
one_filter true p ps = refl
one_filter false p ps = refl

-- a filter is added where it is of one that has the column
added : (col : ℕ) (v : PermView) (done new : List Bexp) (copy : Bexp) → permits col (permission_view v) ≡ true → new ≡ done ++ copy ∷ [] → bexp_view copy ≡ bexp_view v.filter
    → map bexp_view new ≡ map bexp_view done ++ filter_for col v
added col v done new copy has grows same =
    ap (map bexp_view) grows ∙ map-append bexp_view done (copy ∷ []) ∙ ap (λ b. map bexp_view done ++ b ∷ []) same ∙ ap (λ b. map bexp_view done ++ cond b (bexp_view v.filter ∷ []) []) (sym has)

-- and else none
kept : (col : ℕ) (v : PermView) (done new : List Bexp) → permits col (permission_view v) ≡ false → new ≡ done → map bexp_view new ≡ map bexp_view done ++ filter_for col v
kept col v done new lacks same =
    ap (map bexp_view) same ∙ sym (append-nil (map bexp_view done)) ∙ ap (λ b. map bexp_view done ++ cond b (bexp_view v.filter ∷ []) []) (sym lacks)

-- one more filter, where it is of one that has the column
pub loop-view-preserved : goal.loop-view-preserved
loop-view-preserved c =
    let done : List Bexp = c.loop-view.filters.items in
    let v = c.view-item.result in
    let items : Vec Bexp Global → List Bexp = λ fs. fs.items in
    let grows : map bexp_view c.if-permits.filters.items ≡ map bexp_view done ++ filter_for c.args.col v =
    elim c.if-permits.branch [
      | then-permits+in_ok-copy+in_ok-push w ↦
          added c.args.col v done c.if-permits.filters.items w.in_ok-copy.field-0 (sym c.permits.ensures ∙ w.if-permits.true) (ap items w.filters-is ∙ w.in_ok-push.ensures.items) w.in_ok-copy.ensures
      | else-permits w ↦ kept c.args.col v done c.if-permits.filters.items (sym c.permits.ensures ∙ w.if-permits.false) (ap items w.filters-is)
    ] in
    put_more (λ (vs : List PermView). filters_for c.args.col (map permission_view vs)) (filter_for c.args.col) (λ x vs. one_filter _ _ _)
    c.args.views.now c.loop-view.view-index v (map bexp_view done) _ _ c.loop-view-test.true c.view-item.is c.loop-view.invariant grows
