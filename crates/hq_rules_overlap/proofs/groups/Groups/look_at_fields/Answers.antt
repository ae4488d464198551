-- The group is done.
use Rattle.std.proofs.Common.{map, sym, subst, List, ℕ}
use Rattle.std.specs.Prelude.{Vec}
use Rattle.std.specs.declared.alloc.Global.{Global}
use Rattle.std.specs.List.{All}
use Rattle.hq_gql_nodes.specs.Reach.{graph_view}
use Rattle.hq_overlap_sets.specs.Sets.{field_in, arena_view}
use Rattle.hq_rules_overlap.specs.Exploring.{lists_of, IsKept}
use Rattle.hq_rules_overlap.specs.Groups.{AreTogether, HaveBelow}
use Rattle.hq_rules_overlap.proofs.Gathering.{are_met}
use Rattle.hq_rules_overlap.proofs.Explored.{covered_kept, group_done, listed_below}
use Rattle.hq_rules_overlap.proofs.groups.Groups.look_at_fields.Goals as goal

pub look-requires-clause-best : goal.look-requires-clause-best
look-requires-clause-best c = c.requires.sound.best

pub look-requires-clause-met : goal.look-requires-clause-met
look-requires-clause-met c = are_met (arena_view c.args.arena.now) c.args.group.now (map (field_in c.args.arena.now) c.args.entries.now) c.requires.together c.requires.fields

pub rows_of-requires : goal.rows_of-requires
rows_of-requires c = are_met (arena_view c.args.arena.now) c.args.group.now (map (field_in c.args.arena.now) c.args.entries.now) c.requires.together c.requires.fields

pub add_all-requires-clause-lists : goal.add_all-requires-clause-lists
add_all-requires-clause-lists c = c.requires.sound.together

pub add_all-requires-clause-rows : goal.add_all-requires-clause-rows
add_all-requires-clause-rows c =
    let sets = arena_view c.args.arena.now in
    let together : All (AreTogether sets) (graph_view c.in-Some.rows.items) = rw c.in-Some.is at c.in_ok-found.ensures.together in
    subst (λ (rows : List (Vec ℕ Global)). All (AreTogether sets) (graph_view rows)) (sym c.deref.ensures.value) together

pub returns-clause-looked : goal.returns-clause-looked
returns-clause-looked c = λ _.
    let sets = arena_view c.args.arena.now in
    let fields = map (field_in c.args.arena.now) c.args.entries.now in
    let p = c.args.self.now in
    let old = lists_of p in
    let new = graph_view c.add_all.new.self.rows.items in
    let least = c.look.new.self.least in
    let below : HaveBelow (graph_view c.in-Some.rows.items) fields = rw c.in-Some.is at c.in_ok-found.ensures.below in
    let kept = subst (λ (rows : List (Vec ℕ Global)). All (IsKept new) (graph_view rows)) c.deref.ensures.value c.in_ok-add_all.ensures.kept in
    record {
      sound = record {
        best = c.in_ok-look.ensures.best;
        together = c.in_ok-add_all.ensures.lists;
        covered = λ s m. covered_kept sets old new p.found.least least c.in_ok-add_all.ensures.grown c.in_ok-look.ensures.lower s (c.requires.sound.covered s m);
      };
      goes = record { lists = c.in_ok-add_all.ensures.grown; lower = c.in_ok-look.ensures.lower };
      done = group_done sets new least c.args.group.now fields c.requires.closed c.requires.fields c.in_ok-look.ensures.counted
          (listed_below new (graph_view c.in-Some.rows.items) fields kept below);
    }
