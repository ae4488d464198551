use Rattle.std.proofs.Common.{◌≡◌, map, drop}
use Rattle.hq_gql_tree.specs.Documents.{definition_view}
use Rattle.hq_live_text.specs.LiveText.{with_queries}
use Rattle.hq_live_text.proofs.keyword.put_queries.Given as goal

-- what the definitions that are left make of the text is what all make of the first one
abbrev pub invariant-definitions : goal.invariant-definitions
invariant-definitions l = with_queries (map definition_view (drop l.definition-index l.definitions)) l.text.items ≡ with_queries (map definition_view l.definitions) l.fn.text.items
