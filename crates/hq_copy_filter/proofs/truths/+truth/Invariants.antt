use Rattle.std.proofs.Common.{◌≡◌, map, drop}
use Rattle.std.specs.List.{list_any}
use Rattle.hq_copy_filter.specs.Kept.{is_met}
use Rattle.hq_copy_filter.specs.Lent.{database_of}
use Rattle.hq_model.specs.Bexp.{bexp_view, bexps_of}
use Rattle.hq_model.specs.Logic.{and3, or3}
use Rattle.hq_model.specs.Described.{scope_schema}
use Rattle.hq_model.specs.Seen.{all_of}
use Rattle.hq_model.specs.Truth.{truth_of_all, truth_of_any}
use Rattle.hq_copy_filter.proofs.truths.+truth.Given as goal

-- those so far, and those that are left
abbrev pub invariant-all_true-loop-bexp : goal.invariant-all_true-loop-bexp
invariant-all_true-loop-bexp l =
    let s = scope_schema l.scope in
    let S = all_of s (database_of l.tables) in
    and3 l.all (truth_of_all (bexps_of (map bexp_view (drop l.bexp-index l.bexp-items))) s S l.t l.row) ≡ truth_of_all (bexps_of (map bexp_view l.bexps.items)) s S l.t l.row

abbrev pub invariant-any_true-loop-bexp : goal.invariant-any_true-loop-bexp
invariant-any_true-loop-bexp l =
    let s = scope_schema l.scope in
    let S = all_of s (database_of l.tables) in
    or3 l.any (truth_of_any (bexps_of (map bexp_view (drop l.bexp-index l.bexp-items))) s S l.t l.row) ≡ truth_of_any (bexps_of (map bexp_view l.bexps.items)) s S l.t l.row

-- no row so far, and so one of those that are left or none
abbrev pub invariant-some_met-loop-at : goal.invariant-some_met-loop-at
invariant-some_met-loop-at l =
    let met = is_met (bexp_view l.bexp) (scope_schema l.scope) (database_of l.tables) l.u l.pairs l.row in
    list_any met (drop l.at l.rows) ≡ list_any met l.rows
