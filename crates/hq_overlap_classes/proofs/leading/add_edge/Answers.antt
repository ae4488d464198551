-- A class whose field leads to one at fault is.
use Rattle.std.proofs.lemmas.Result.{on_ok_weaker}
use Rattle.hq_overlap_sets.specs.Sets.{field_in, arena_view}
use Rattle.hq_overlap_classes.proofs.Joining.{edges_more}
use Rattle.hq_overlap_classes.proofs.leading.add_edge.Goals as goal

pub returns : goal.returns
returns c =
    on_ok_weaker c.push_row.result
    (λ only. edges_more (arena_view c.args.arena.now) c.args.classes.now.sets c.args.rows.now.items c.push_row.new.rows.items
    c.class_of.result c.args.class (field_in c.args.arena.now c.args.entry.now)
    c.requires.sound.partition c.class_of.ensures c.requires.stands only c.requires.edges)
    c.push_row.ensures.only
