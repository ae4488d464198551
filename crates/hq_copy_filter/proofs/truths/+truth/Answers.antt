use Rattle.std.proofs.Common.{◌∙◌, ℕ, ◌+◌, ◌<◌, List, ap, ap₂, drop, length, map, sym, arith}
use Rattle.hq_base.proofs.Loops.{next_item}
use Rattle.std.proofs.lemmas.Result.{IfOk-weaker}
use Rattle.hq_copy_filter.specs.Kept.{some_kept}
use Rattle.hq_copy_filter.specs.Lent.{database_of}
use Rattle.hq_copy_filter.proofs.Ands.{and3_assoc}
use Rattle.hq_sql_cells.proofs.Truths.{or3_assoc}
use Rattle.hq_model.specs.Bexp.{bexp_view, bexps_of}
use Rattle.hq_model.specs.Logic.{and3, or3, truth_of}
use Rattle.hq_model.specs.Described.{scope_schema}
use Rattle.hq_model.specs.Seen.{all_of}
use Rattle.hq_model.specs.declared.bexp.Bexp.{Bexp}
use Rattle.hq_model.specs.declared.meta.Pair.{Pair}
use Rattle.hq_model.specs.declared.truth.Truth.{Truth}
use Rattle.hq_model.specs.Truth.{truth, truth_of_all, truth_of_any}
use Rattle.hq_copy_filter.proofs.truths.+truth.Goals as goal

pub all_true-loop-bexp-preserved : goal.all_true-loop-bexp-preserved
all_true-loop-bexp-preserved t c =
    let items = c.deref-bexp-items.result.now in
    let i = c.loop-bexp.bexp-index in
    let within : i < length items = omega arith in
    let s = scope_schema c.args.scope.now in
    let S = all_of s (database_of c.args.tables.now) in
    let b = c.bexp-item.result in
    let all = c.loop-bexp.all in
    let left = λ (bs : List Bexp). truth_of_all (bexps_of (map bexp_view bs)) s S c.args.t c.args.row.now in
    let rest = left (drop (i + 1) items) in
    ap (λ (x : Truth). and3 x rest) (c.and-all.ensures ∙ ap (and3 all) c.in_ok-truth.ensures) ∙ and3_assoc all (truth (bexp_view b) s S c.args.t c.args.row.now) rest
    ∙ ap (λ (bs : List Bexp). and3 all (left bs)) (sym (next_item items i b within c.bexp-item.is)) ∙ c.loop-bexp.invariant

pub any_true-loop-bexp-preserved : goal.any_true-loop-bexp-preserved
any_true-loop-bexp-preserved t c =
    let items = c.deref-bexp-items.result.now in
    let i = c.loop-bexp.bexp-index in
    let within : i < length items = omega arith in
    let s = scope_schema c.args.scope.now in
    let S = all_of s (database_of c.args.tables.now) in
    let b = c.bexp-item.result in
    let any = c.loop-bexp.any in
    let left = λ (bs : List Bexp). truth_of_any (bexps_of (map bexp_view bs)) s S c.args.t c.args.row.now in
    let rest = left (drop (i + 1) items) in
    ap (λ (x : Truth). or3 x rest) (c.or-any.ensures ∙ ap (or3 any) c.in_ok-truth.ensures) ∙ or3_assoc any (truth (bexp_view b) s S c.args.t c.args.row.now) rest
    ∙ ap (λ (bs : List Bexp). or3 any (left bs)) (sym (next_item items i b within c.bexp-item.is)) ∙ c.loop-bexp.invariant

pub related-returns : goal.related-returns
related-returns t c =
    let s = scope_schema c.args.scope.now in
    let d = database_of c.args.tables.now in
    IfOk-weaker c.some_row.result _ _
    (λ found h. h
    ∙ ap₂ (λ (u : ℕ) (ps : List Pair). truth_of (some_kept (bexp_view c.args.bexp.now) s d u ps c.args.row.now))
    c.remote-remote.ensures c.pairs_of-pairs.ensures)
    c.some_row.ensures
