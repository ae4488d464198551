-- What collected fields have: their arguments nest no deeper than a document, and the response keys of each object are few and
-- differ.
use Rattle.std.proofs.Common.{◌≡◌, ◌≤◌, true}
use Rattle.hq_request_tree.specs.ResponseKeys.{are_keys}
use Rattle.hq_request_collect.specs.Keys.{keys_of}
use Rattle.hq_request_collect.specs.Tree.{CollectedTrees, no_collected, collected}
use Rattle.hq_gql_tree.specs.Nesting.{arguments_nest}

abbrev pub AreKept : CollectedTrees → Type 0
AreKept no_collected = Unit {0}
AreKept (collected key h below others) = (arguments_nest h.args ≤ 50) × (are_keys (keys_of below) ≡ true) × AreKept below × AreKept others
