-- A list without sets, and one that has some.
use Rattle.std.proofs.Common.{◌∙◌, ◌<◌, sym, length, arith}
use Rattle.std.proofs.lemmas.Bool.{eqb-true}
use Rattle.std.proofs.lemmas.Result.{on_ok_weaker}
use Rattle.hq_gql_nodes.specs.Reach.{graph_view}
use Rattle.hq_rules_overlap.proofs.Explored.{goes_nowhere}
use Rattle.hq_rules_overlap.proofs.lists.Lists.add_some.Goals as goal

pub returns-then-is_empty-clause-lists : goal.returns-then-is_empty-clause-lists
returns-then-is_empty-clause-lists c = c.requires.lists

pub returns-then-is_empty-clause-grown : goal.returns-then-is_empty-clause-grown
returns-then-is_empty-clause-grown c = goes_nowhere (graph_view c.args.self.now.rows.items)

pub returns-then-is_empty-clause-kept : goal.returns-then-is_empty-clause-kept
returns-then-is_empty-clause-kept c = λ s h.
    let none = eqb-true (length c.args.list.now) 0 (sym c.is_empty.ensures ∙ c.if-is_empty.true) in
    let inside : h.0 < length c.args.list.now = h.1 in
    absurd (omega (arith, none))

pub returns-clause-kept : goal.returns-clause-kept
returns-clause-kept c = on_ok_weaker c.add.result (λ has s h. has) c.add.ensures.has
