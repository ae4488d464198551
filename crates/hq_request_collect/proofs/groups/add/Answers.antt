use Rattle.std.proofs.Common.{◌∙◌, refl, ap}
use Rattle.hq_gql_tree.specs.Selections.{field_view}
use Rattle.hq_request_collect.specs.declared.groups.Nodes.{Nodes}
use Rattle.hq_request_collect.specs.Seen.{groups_seen}
use Rattle.hq_request_collect.proofs.Grouped.{added_there, added_new, one_more, one_alone}
use Rattle.hq_request_collect.proofs.groups.add.Goals as goal

pub returns-in-Some : goal.returns-in-Some
returns-in-Some c =
    let old : Nodes = c.in-Some.nodes.now in
    let new : Nodes = record { first = old.first; others = c.push.new.self } in
    ap groups_seen (c.get_mut.follows.holds new).0
    ∙ added_there c.args.key.now (field_view c.args.field.now) old new c.args.groups.now.entries c.in-Some.ensures.value
    (λ key. one_more key c.args.field old new refl c.in_ok-push.ensures.items)

pub returns : goal.returns
returns c =
    let before = c.get_mut.follows.holds-at-none in
    let new : Nodes = record { first = c.args.field; others = c.new.result } in
    ap groups_seen (rw before at c.in_ok-insert.ensures.entries)
    ∙ added_new c.args.key.now (field_view c.args.field.now) c.in_ok-name.name new c.args.groups.now.entries c.in_default.ensures.value c.in_ok-name.ensures
    (one_alone c.args.key.now c.args.field new refl c.new.ensures.items)
