use Rattle.std.proofs.Common.{◌∙◌, ◌+◌, List, ◌++◌, ap, drop, flat_map, map, sym, append-nil, drop_of_length-le}
use Rattle.hq_base.proofs.Loops.{next_item, piece_more}
use Rattle.hq_model.specs.Meta.{tracked_view}
use Rattle.hq_model.specs.Schema.{schema_of}
use Rattle.hq_model.specs.SchemaNames.{roots_of}
use Rattle.hq_model.specs.declared.meta.Tracked.{Tracked}
use Rattle.hq_copy.proofs.schema_names.all_roots.Goals as goal

pub loop-tracked-preserved : goal.loop-tracked-preserved
loop-tracked-preserved c m =
    let items = c.as_slice-tracked-items.result.now in
    let i = c.loop-tracked.tracked-index in
    let s = schema_of c.args.tables.now m in
    let all = λ (ks : List Tracked). flat_map (roots_of s) (map tracked_view ks) in
    piece_more c.loop-tracked.names c.push_roots.new.names (roots_of s (tracked_view c.tracked-item.result)) (all (drop (i + 1) items)) (all (drop i items)) _
    (c.in_ok-push_roots.ensures m) (ap all (next_item items i c.tracked-item.result c.loop-tracked-test.true c.tracked-item.is)) (c.loop-tracked.invariant m)

pub returns : goal.returns
returns c m =
    let items = c.as_slice-tracked-items.result.now in
    let names = c.loop-tracked.names in
    let all = λ (ks : List Tracked). flat_map (roots_of (schema_of c.args.tables.now m)) (map tracked_view ks) in
    sym (ap (λ (ks : List Tracked). names ++ all ks) (drop_of_length-le items c.loop-tracked-test.false) ∙ append-nil names)
    ∙ c.loop-tracked.invariant m
    ∙ ap (λ (ks : List Tracked). all ks) c.as_slice-tracked-items.ensures
