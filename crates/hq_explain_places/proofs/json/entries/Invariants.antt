use Rattle.std.proofs.Common.{◌≡◌, ◌-◌, None, length, option_map}
use Rattle.hq_explain_places.specs.NodeViews.{node_view}
use Rattle.hq_explain_places.specs.Nodes.{entries}
use Rattle.hq_explain_places.proofs.json.entries.Given as goal

-- the entries that are left, with what was found, show what all show
abbrev pub invariant-entries : goal.invariant-entries
invariant-entries l = entries (length l.text - l.number) l.is_list l.path l.number l.rest (option_map node_view l.found) ≡ entries (length l.text) l.is_list l.path 0 l.text None
