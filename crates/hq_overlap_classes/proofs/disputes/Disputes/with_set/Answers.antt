-- A set that counts, and others.
use Rattle.std.proofs.Common.{arith, sym}
use Rattle.hq_overlap_sets.specs.Sets.{arena_view}
use Rattle.hq_overlap_sets.proofs.ArenaLemmas.{set_here}
use Rattle.hq_overlap_classes.specs.Classes.{size_at}
use Rattle.hq_overlap_classes.proofs.Counting.{none_more, one_found}
use Rattle.hq_overlap_classes.proofs.disputes.Disputes.with_set.Goals as goal

pub returns-in_default : goal.returns-in_default
returns-in_default c = none_more (arena_view c.args.arena.now) c.args.number c.args.sum c.requires.found

pub returns-then-is_empty : goal.returns-then-is_empty
returns-then-is_empty c = none_more (arena_view c.args.arena.now) c.args.number c.args.sum c.requires.found

pub size_of-requires : goal.size_of-requires
size_of-requires c = set_here c.args.kept.now c.args.number c.in-Some.set.now (sym c.in-Some.ensures)

pub returns-then-is_at_fault : goal.returns-then-is_at_fault
returns-then-is_at_fault c =
    let low = c.requires.smaller c.args.number in
    let size = c.size_of.ensures in
    one_found (arena_view c.args.arena.now) c.args.number c.args.sum (size_at (arena_view c.args.kept.now) c.args.number)
    c.saturating_add.result (c.is_at_fault.ensures c.if-is_at_fault.true) low (omega (arith, c.saturating_add.ensures, size))
    c.requires.found

pub returns : goal.returns
returns c = none_more (arena_view c.args.arena.now) c.args.number c.args.sum c.requires.found
