-- What a document is seen as.
use Rattle.std.specs.Prelude.{map}
use Rattle.hq_gql_tree.specs.declared.document.Document.{Document}
use Rattle.hq_gql_tree.specs.Documents.{DocumentTree, definition_view}

abbrev pub document_view : Document → DocumentTree
document_view d = map definition_view d.definitions.items
