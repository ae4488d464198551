use Rattle.std.proofs.Common.{◌≡◌, ◌∙◌, sym, ap, map}
use Rattle.std.specs.Vec.Iter.{into_iter_items}
use Rattle.hq_sql_cells.specs.Seen.{seen_of}
use Rattle.hq_sql_cells.proofs.SeenGroups.{fresh_begin, fresh_kept, fresh_passed}
use Rattle.hq_sql_cells.proofs.kept.first_kept.Goals as goal

pub loop-row-init : goal.loop-row-init
loop-row-init g c =
    fresh_begin c.new-groups.result.keys c.new-kept.result.items (into_iter_items c.into_iter-row-iterator.result) c.args.rows.items
    c.new-groups.ensures.empty c.new-kept.ensures.items c.into_iter-row-iterator.ensures.into_iter_gives.0

pub loop-row-preserved-in_ok-push : goal.loop-row-preserved-in_ok-push
loop-row-preserved-in_ok-push g c =
    let is : c.in_ok-seen_cells.field-0.items ≡ map seen_of c.in-Some.row.distinct.items = c.in_ok-seen_cells.ensures ∙ ap (map seen_of) c.deref.ensures.value in
    fresh_kept c.loop-row.groups.keys c.insert.new.self.keys c.in_ok-seen_cells.field-0 c.in-Some.row c.loop-row.kept.items _ _ _ is
    c.in_ok-insert.ensures.keys c.in-Some.ensures.steps.0 c.loop-row.invariant c.push.new.self.items
    (sym c.in_ok-insert.ensures.added ∙ c.if-branch.true) c.in_ok-push.ensures.items

pub loop-row-preserved : goal.loop-row-preserved
loop-row-preserved g c =
    let is : c.in_ok-seen_cells.field-0.items ≡ map seen_of c.in-Some.row.distinct.items = c.in_ok-seen_cells.ensures ∙ ap (map seen_of) c.deref.ensures.value in
    fresh_passed c.loop-row.groups.keys c.insert.new.self.keys c.in_ok-seen_cells.field-0 c.in-Some.row c.loop-row.kept.items _ _ _ is
    c.in_ok-insert.ensures.keys c.in-Some.ensures.steps.0 c.loop-row.invariant
    (sym c.in_ok-insert.ensures.added ∙ c.if-branch.false)
