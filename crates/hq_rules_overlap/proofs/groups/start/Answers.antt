-- No list, and no mark that is set.
use Rattle.std.proofs.Common.{rules, ap, sym, subst, length, arith}
use Rattle.std.specs.List.{All}
use Rattle.std.proofs.lemmas.List.Elements.{All-nil}
use Rattle.hq_gql_nodes.specs.Reach.{graph_view}
use Rattle.hq_overlap_sets.specs.Sets.{arena_view}
use Rattle.hq_rules_overlap.specs.Groups.{AreTogether}
use Rattle.hq_rules_overlap.proofs.Marks.{none_set}
use Rattle.hq_rules_overlap.proofs.Places.{none_found}
use Rattle.hq_rules_overlap.proofs.groups.start.Goals as goal

pub returns : goal.returns
returns c =
    let sets = arena_view c.args.arena.now in
    let none = ap graph_view c.new.ensures in
    record {
      sound = record {
        best = none_found sets;
        together = subst (All (AreTogether sets)) (sym none) (All-nil (AreTogether sets));
        covered = λ s m. absurd (none_set c.in_ok-covered.covered.items _ s (c.in_ok-covered.ensures.items_if_clones_equal (λ y e. search rules)) m);
      };
      explored = λ k list h e. absurd (omega (arith, h));
      all = ap length none;
    }
