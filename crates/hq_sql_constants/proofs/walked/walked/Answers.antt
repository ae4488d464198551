use Rattle.std.proofs.Common.{◌≡◌, refl, ap}
use Rattle.hq_load_index.specs.Indexes.{entries_of}
use Rattle.hq_sql_access.specs.Lent.{rows_lent}
use Rattle.hq_sql_tree.specs.View.{pred_view}
use Rattle.hq_sql_constants.specs.Walked.{HasRange}
use Rattle.hq_sql_constants.proofs.Walks.{range_backward, range_forward}
use Rattle.hq_sql_constants.proofs.walked.walked.Goals as goal

pub returns-in-Some-2 : goal.returns-in-Some-2
returns-in-Some-2 c =
    let stored = c.args.stored in
    let index = c.in-Ordered.index in
    let entries = c.in-Some-2.entries in
    let lent : rows_lent stored.now.rows ≡ c.in-Some.rows.now = ap rows_lent c.in-Some.is in
    let has : HasRange (pred_view c.args.pred.now) c.args.alias.now stored.now.table.now.columns c.in-Some.rows.now (entries_of index.now) entries.now =
    rw c.in-Some-2.is at c.in_ok-entries-in-Ordered.ensures in
    rw c.in-Ordered.is
    (range_forward stored c.in-Some.rows.now c.args.joins.now c.args.alias.now (pred_view c.args.pred.now) (entries_of index.now) entries.now index entries
    refl refl lent c.requires.joined has)

pub returns-in-Some-3 : goal.returns-in-Some-3
returns-in-Some-3 c =
    let stored = c.args.stored in
    let index = c.in-Backward.index in
    let entries = c.in-Some-3.entries in
    let lent : rows_lent stored.now.rows ≡ c.in-Some.rows.now = ap rows_lent c.in-Some.is in
    let has : HasRange (pred_view c.args.pred.now) c.args.alias.now stored.now.table.now.columns c.in-Some.rows.now (entries_of index.now) entries.now =
    rw c.in-Some-3.is at c.in_ok-entries-in-Backward.ensures in
    rw c.in-Backward.is
    (range_backward stored c.in-Some.rows.now c.args.joins.now c.args.alias.now (pred_view c.args.pred.now) (entries_of index.now) entries.now index entries
    refl refl lent c.requires.joined has)
