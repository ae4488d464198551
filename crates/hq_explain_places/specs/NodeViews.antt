-- What is seen of nodes and entries: texts.
use Rattle.std.specs.Prelude.{option_map}
use Rattle.hq_explain_places.specs.Nodes as nodes
use Rattle.hq_explain_places.specs.declared.json.Entry.{Entry}
use Rattle.hq_explain_places.specs.declared.json.Node.{Node}

abbrev pub entry_view : Entry → nodes.Entry
entry_view e = (e.value.now, option_map (λ path. path.now) e.path)

abbrev pub node_view : Node → nodes.Node
node_view n = (n.value.now, n.path.now)
