-- The members are of the other class.
use Rattle.std.proofs.Common.{sym, subst}
use Rattle.hq_overlap_sets.specs.Sets.{arena_view}
use Rattle.hq_overlap_classes.specs.Noting.{AreMembers}
use Rattle.hq_overlap_classes.proofs.Joining.{members_moved}
use Rattle.hq_overlap_classes.proofs.partition.Partition.move_members.Goals as goal

pub rename-requires-clause-classes : goal.rename-requires-clause-classes
rename-requires-clause-classes c = c.requires.sound.classes

pub returns : goal.returns
returns c =
    let sets = arena_view c.args.arena.now in
    record {
      classes = c.rename.ensures.classes;
      members = subst (λ ms. AreMembers sets ms.items) (sym c.rename.ensures.members)
          (members_moved sets c.args.self.now.members.items c.extend_row.new.rows.items c.clear_row.new.rows.items c.args.into c.args.moved.now
          c.in_ok-extend_row.ensures c.clear_row.ensures c.requires.moved c.requires.sound.members);
    }
