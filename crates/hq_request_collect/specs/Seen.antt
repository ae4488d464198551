-- What requests and collected fields are seen as.
use Rattle.std.specs.Prelude.{ℕ, List, ◌∷◌, map}
use Rattle.hq_request_coerce.specs.Variables.{var_view}
use Rattle.hq_gql_nodes.specs.Names.{has_name}
use Rattle.hq_gql_tree.specs.Documents.{DocumentTree}
use Rattle.hq_gql_tree.specs.Selections.{FieldTree, field_view}
use Rattle.hq_gql_tree.specs.View.{document_view}
use Rattle.hq_request_collect.specs.declared.collect.Request.{Request}
use Rattle.hq_request_collect.specs.declared.collect.Collected.{Collected}
use Rattle.hq_request_collect.specs.declared.fragments.Fragments.{Fragments}
use Rattle.hq_request_collect.specs.declared.groups.Nodes.{Nodes}
use Rattle.hq_request_collect.specs.Collect as tree
use Rattle.hq_request_collect.specs.Groups.{Group}

-- the document whose fragments they are
abbrev pub document_of : Fragments → DocumentTree
document_of f = document_view f.document.now

abbrev pub request_seen : Request → tree.Request
request_seen r = record { document = document_of r.fragments.now; vars = map var_view r.vars.now }

-- the fields of a key
abbrev pub group_seen : List ℕ × Nodes → Group
group_seen e = record { key = e.0; first = field_view e.1.first.now; others = map (λ f. field_view f.now) e.1.others.items }

-- those of all keys
abbrev pub groups_seen : List (List ℕ × Nodes) → List Group
groups_seen es = map group_seen es

-- the fields of a key, one after the other
abbrev pub all_seen : Nodes → List FieldTree
all_seen n = field_view n.first.now ∷ map (λ f. field_view f.now) n.others.items

-- what is collected so far
abbrev pub seen : Collected → tree.Collected
seen c = record { groups = groups_seen c.groups.entries; visited = has_name c.visited }
