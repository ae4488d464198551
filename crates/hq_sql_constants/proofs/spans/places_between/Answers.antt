use Rattle.std.proofs.Common.{◌≡◌, ◌<◌, ◌∙◌, ◌-◌, ℕ, false, drop, filter, get_or, length, take, ap, arith}
use Rattle.std.specs.Prelude.{◌==◌}
use Rattle.std.specs.List.{list_any}
use Rattle.std.specs.Ordering.{nat_cmp}
use Rattle.std.proofs.lemmas.Result.{IfOk-weaker}
use Rattle.hq_base.specs.Lists.{sort}
use Rattle.hq_load_index.specs.Indexes.{columns_of, entries_of}
use Rattle.hq_sql_scans.specs.Positions.{positions_of}
use Rattle.hq_sql_constants.proofs.RangeEntries.{marked_same, sorted_same}
use Rattle.hq_sql_constants.proofs.spans.places_between.Goals as goal

pub returns-then-are_few_of_all : goal.returns-then-are_few_of_all
returns-then-are_few_of_all c =
    let rows = c.args.rows.now in
    let entries = entries_of c.args.index.now in
    let ps = positions_of c.args.positions in
    IfOk-weaker c.in_file_order.result _ _
    (λ places chosen. sorted_same c.args.column rows entries (columns_of c.args.index.now) c.args.bounds.now c.args.span ps places.items
    c.requires.some c.requires.columns c.requires.over.entries c.requires.between (c.are_few_of_all.ensures c.if-are_few_of_all.true)
    (chosen ∙ ap (sort nat_cmp) c.between-found.ensures))
    c.in_file_order.ensures

pub returns : goal.returns
returns c =
    let rows = c.args.rows.now in
    let entries = entries_of c.args.index.now in
    let s = c.args.span in
    let marks = c.in_ok-marks.marks.items in
    let ps = positions_of c.args.positions in
    let set : (t : ℕ) → t < length rows → get_or marks t false ≡ list_any (λ u. u == t) (take (s.to - s.from) (drop s.from entries)) =
    λ t lt. c.in_ok-marks.ensures t (omega (arith, lt, c.len.ensures.rows)) ∙ ap (list_any (λ u. u == t)) c.between-found.ensures in
    IfOk-weaker c.places_marked.result _ _
    (λ places chosen. marked_same c.args.column rows entries (columns_of c.args.index.now) c.args.bounds.now s marks ps places.items
    c.requires.some c.requires.columns c.requires.over.entries c.requires.between set
    (chosen ∙ ap (λ bs. filter (λ k. get_or bs k false) ps) c.as_slice.ensures.value))
    c.places_marked.ensures
