use Rattle.std.proofs.Common.{◌≡◌, ◌<◌, ◌^◌, false, true, length, map, sym, subst, ◌∙◌, arith}
use Rattle.hq_load_index.specs.Grids.{rows_in}
use Rattle.hq_load_index.specs.Indexes.{columns_of, entries_of, indexed_rows}
use Rattle.hq_load_index.specs.Keys.{cell_view, has_null}
use Rattle.hq_load_index.specs.Places.{IsPlace}
use Rattle.hq_load_index.proofs.Spans.{places_span, no_row_with}
use Rattle.hq_load_index.proofs.Starts.{place_order}
use Rattle.hq_load_index.proofs.index.Index.equal.Goals as goal

pub returns-then-key_has_null-clause-found : goal.returns-then-key_has_null-clause-found
returns-then-key_has_null-clause-found g c =
    no_row_with c.args.self.now.columns.items (rows_in c.args.grid.now) (map cell_view c.args.key.now) (sym c.key_has_null.ensures ∙ c.if-key_has_null.true)

pub overflow_add-result : goal.overflow_add-result
overflow_add-result g c =
    let short : length c.as_slice-entries.result.now < 2 ^ 64 = c.as_slice-entries.type_inv.0 in
    omega (arith, c.start_of-start.ensures.few 64 short, c.end_of-end.ensures.few 64 short)

pub returns-clause-found : goal.returns-clause-found
returns-clause-found g c =
    let rows = rows_in c.args.grid.now in
    let key = map cell_view c.args.key.now in
    let columns = c.as_slice-columns.result.now in
    let entries = c.as_slice-entries.result.now in
    let is : entries ≡ indexed_rows columns rows = rw (c.as_slice-entries.ensures.value, c.as_slice-columns.ensures.value) c.requires.entries in
    let whole : has_null key ≡ false = sym c.key_has_null.ensures ∙ c.if-key_has_null.false in
    let found =
    places_span columns rows entries key c.start_of-start.result.place c.end_of-end.result.place is whole c.start_of-start.ensures.place
    c.end_of-end.ensures.place c.end_of-end.ensures.above in
    rw (c.as_slice-entries.ensures.value, c.as_slice-columns.ensures.value) at found

pub returns-in-Some-clause-found : goal.returns-in-Some-clause-found
returns-in-Some-clause-found g c =
    let h = rw c.in-Some.is at c.told.ensures in
    let columns = columns_of c.args.self.now in
    let rows = rows_in c.args.grid.now in
    let entries = entries_of c.args.self.now in
    let key = map cell_view c.args.key.now in
    let from = subst (IsPlace columns rows entries key false) (sym c.with_one_compared.ensures.from) h.from in
    let to = subst (IsPlace columns rows entries key true) (sym c.with_one_compared.ensures.to) h.to in
    let ordered = place_order columns rows entries key c.with_one_compared.result.from c.with_one_compared.result.to from to in
    places_span columns rows entries key c.with_one_compared.result.from c.with_one_compared.result.to c.requires.entries h.whole from to ordered
