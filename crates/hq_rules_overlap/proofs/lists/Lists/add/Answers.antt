-- A list that stands there, and one that is new.
use Rattle.std.proofs.Common.{◌∷◌, [], List, ℕ, sym, subst}
use Rattle.std.specs.List.{All, Contains}
use Rattle.std.proofs.lemmas.List.Elements.{All-push, Contains-push}
use Rattle.std.proofs.lemmas.Result.{on_ok_weaker}
use Rattle.hq_gql_nodes.specs.Reach.{graph_view}
use Rattle.hq_overlap_sets.specs.Sets.{arena_view}
use Rattle.hq_rules_overlap.specs.Groups.{AreTogether}
use Rattle.hq_rules_overlap.proofs.Explored.{goes_nowhere}
use Rattle.hq_rules_overlap.proofs.lists.Lists.add.Goals as goal

pub returns-then-has-clause-lists : goal.returns-then-has-clause-lists
returns-then-has-clause-lists c = c.requires.lists

pub returns-then-has-clause-grown : goal.returns-then-has-clause-grown
returns-then-has-clause-grown c = goes_nowhere (graph_view c.args.self.now.rows.items)

pub returns-then-has-clause-has : goal.returns-then-has-clause-has
returns-then-has-clause-has c = c.has.ensures c.if-has.true

pub returns-clause-lists : goal.returns-clause-lists
returns-clause-lists c =
    let sets = arena_view c.args.arena.now in
    on_ok_weaker c.push.result
    (λ grown. subst (All (AreTogether sets)) (sym grown) (All-push (AreTogether sets) (graph_view c.args.self.now.rows.items) c.args.list.now c.requires.lists c.requires.list)) c.push.ensures

pub returns-clause-grown : goal.returns-clause-grown
returns-clause-grown c = on_ok_weaker c.push.result (λ grown. (c.args.list.now ∷ [], grown)) c.push.ensures

pub returns-clause-has : goal.returns-clause-has
returns-clause-has c =
    on_ok_weaker c.push.result
    (λ grown. subst (λ (ls : List (List ℕ)). Contains ls c.args.list.now) (sym grown) (Contains-push (graph_view c.args.self.now.rows.items) c.args.list.now)) c.push.ensures
