use Rattle.std.proofs.Common.{◌≡◌, ◌∙◌, sym, ap, subst, suc, ◌-◌, ℕ, List, map, [], IfOk, arith}
use Rattle.hq_gql_tree.specs.Selections.{FieldHead, SelectionTree, field_view}
use Rattle.hq_request_collect.specs.declared.groups.Nodes.{Nodes}
use Rattle.hq_request_collect.specs.Groups.{merged}
use Rattle.hq_request_collect.specs.Seen.{request_seen, group_seen, groups_seen}
use Rattle.hq_request_collect.specs.Tree.{CollectedTrees, collected, fields_of, collected_down}
use Rattle.hq_request_collect.specs.TreeSeen.{FieldSeen, collected_view, trees_of}
use Rattle.hq_request_collect.proofs.Levels.{tree_none, tree_some}
use Rattle.hq_request_collect.proofs.Trees.{behind, behind_none, grown}
use Rattle.hq_request_collect.proofs.tree.+tree.Goals as goal

pub below-returns-then-levels-eq0 : goal.below-returns-then-levels-eq0
below-returns-then-levels-eq0 t c =
    ap (λ xs. trees_of (map collected_view xs)) c.new.ensures.items
    ∙ sym (tree_none c.args.levels (request_seen c.args.request.now) (merged (group_seen ([], c.args.nodes.now))) c.if-levels-eq0.true)

pub below-returns : goal.below-returns
below-returns t c =
    let more : c.args.levels ≡ suc (c.args.levels - 1) = omega (arith, c.if-levels-eq0.false) in
    subst (λ (ts : CollectedTrees). IfOk c.below_more.result (λ v. trees_of (map collected_view v.items) ≡ ts))
    (sym (tree_some c.args.levels (c.args.levels - 1) (request_seen c.args.request.now) (merged (group_seen ([], c.args.nodes.now))) more)) c.below_more.ensures

pub fields_of-loop-key-preserved : goal.fields_of-loop-key-preserved
fields_of-loop-key-preserved t c =
    let inner : List SelectionTree → CollectedTrees = collected_down 50 c.args.levels (request_seen c.args.request.now) in
    let done : List FieldSeen = map collected_view c.loop-key.fields.items in
    let rest : CollectedTrees = fields_of inner (groups_seen c.next.new.self) in
    let head : FieldHead = (field_view c.in-Some.nodes.now.first.now).0 in
    let below : CollectedTrees = trees_of (map collected_view c.in_ok-below.below.items) in
    c.loop-key.invariant
    ∙ ap (λ (it : List (List ℕ × Nodes)). behind done (fields_of inner (groups_seen it))) c.in-Some.ensures.steps
    ∙ ap (λ (k : List ℕ). behind done (collected k head (inner (merged (group_seen ([], c.in-Some.nodes.now)))) rest)) (sym c.in_ok-key.ensures)
    ∙ ap (λ (b : CollectedTrees). behind done (collected c.in_ok-key.key head b rest)) (sym c.in_ok-below.ensures)
    ∙ sym (grown c.loop-key.fields.items c.push.new.self.items c.node.result (record { key = c.in_ok-key.key; head = head; below = below }) rest c.in_ok-push.ensures.items c.node.ensures)

pub fields_of-returns : goal.fields_of-returns
fields_of-returns t c =
    let inner : List SelectionTree → CollectedTrees = collected_down 50 c.args.levels (request_seen c.args.request.now) in
    let done : List FieldSeen = map collected_view c.loop-key.fields.items in
    sym (c.loop-key.invariant
    ∙ ap (λ (it : List (List ℕ × Nodes)). behind done (fields_of inner (groups_seen it))) c.in-None.ensures.steps.0
    ∙ behind_none done)
