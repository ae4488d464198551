-- One more list is kept.
use Rattle.std.proofs.Common.{rules, ℕ, refl, sym, subst}
use Rattle.std.specs.Prelude.{Vec}
use Rattle.std.specs.declared.alloc.Global.{Global}
use Rattle.std.proofs.lemmas.List.Elements.{All-contains}
use Rattle.hq_gql_nodes.specs.Reach.{graph_view}
use Rattle.hq_overlap_sets.specs.Sets.{arena_view}
use Rattle.hq_overlap_sets.proofs.Stepping.{all_more_item, all_at_end, contained_item}
use Rattle.hq_rules_overlap.specs.Exploring.{IsKept}
use Rattle.hq_rules_overlap.specs.Groups.{AreTogether}
use Rattle.hq_rules_overlap.proofs.Explored.{goes_nowhere, goes_on, kept_longer}
use Rattle.hq_rules_overlap.proofs.lists.Lists.add_all.Goals as goal

pub add_some-requires-clause-lists : goal.add_some-requires-clause-lists
add_some-requires-clause-lists c = c.loop-row.invariant.lists

pub add_some-requires-clause-list : goal.add_some-requires-clause-list
add_some-requires-clause-list c =
    let sets = arena_view c.args.arena.now in
    let rows = c.args.rows.now in
    let row = c.row-item.result in
    subst (AreTogether sets) (sym c.deref.ensures.value)
    (All-contains (AreTogether sets) (graph_view rows) row.items c.requires.rows
    (contained_item (λ (v : Vec ℕ Global). v.items) rows (graph_view rows) c.loop-row.row-index row refl c.loop-row-test.true
    c.row-item.is))

pub loop-row-init : goal.loop-row-init
loop-row-init c = record { lists = c.requires.lists; grown = goes_nowhere (graph_view c.args.self.now.rows.items); kept = search rules }

pub loop-row-preserved : goal.loop-row-preserved
loop-row-preserved c =
    let start = graph_view c.args.self.now.rows.items in
    let old = graph_view c.loop-row.self.rows.items in
    let new = graph_view c.add_some.new.self.rows.items in
    record {
      lists = c.in_ok-add_some.ensures.lists;
      grown = goes_on start old new c.loop-row.invariant.grown c.in_ok-add_some.ensures.grown;
      kept =
          all_more_item (λ (row : Vec ℕ Global). IsKept old row.items) (λ (row : Vec ℕ Global). IsKept new row.items) (λ row. kept_longer old new row.items c.in_ok-add_some.ensures.grown)
          c.args.rows.now c.loop-row.row-index c.row-item.result c.loop-row-test.true c.row-item.is c.loop-row.invariant.kept
          (subst (IsKept new) c.deref.ensures.value c.in_ok-add_some.ensures.kept);
    }

pub returns-clause-lists : goal.returns-clause-lists
returns-clause-lists c = c.loop-row.invariant.lists

pub returns-clause-grown : goal.returns-clause-grown
returns-clause-grown c = c.loop-row.invariant.grown

pub returns-clause-kept : goal.returns-clause-kept
returns-clause-kept c =
    all_at_end (λ (row : Vec ℕ Global). row.items) (IsKept (graph_view c.loop-row.self.rows.items)) c.args.rows.now
    (graph_view c.args.rows.now) c.loop-row.row-index refl c.loop-row-test.false c.loop-row.invariant.kept
