use Rattle.std.proofs.Common.{◌∙◌, length, option_map, sym, ap, arith}
use Rattle.hq_explain_places.specs.NodeViews.{entry_view, node_view}
use Rattle.hq_explain_places.specs.Nodes.{entry_at}
use Rattle.hq_explain_places.proofs.Steps.{entries_next}
use Rattle.hq_explain_places.proofs.json.entries.Goals as goal

pub entries-preserved : goal.entries-preserved
entries-preserved c =
    entries_next (length c.args.text.now) c.entries.number c.args.is_list c.args.path.now c.entries.rest.now c.in-Some-behind_comma.later.now
    (option_map node_view c.entries.found) (option_map node_view c.taken-found.result) _ (entry_view c.in-Some.entry)
    (omega arith) c.entries.invariant
    (sym (c.in-Some.ensures ∙ ap (entry_at c.args.is_list c.args.path.now c.entries.number) c.unblanked.ensures))
    (sym c.in-Some-behind_comma.ensures) c.taken-found.ensures
