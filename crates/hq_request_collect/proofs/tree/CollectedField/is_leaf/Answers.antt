use Rattle.std.proofs.Common.{◌∙◌, ap, map}
use Rattle.hq_request_collect.specs.Tree.{is_empty}
use Rattle.hq_request_collect.specs.TreeSeen.{collected_view, trees_of}
use Rattle.hq_request_collect.proofs.tree.CollectedField.is_leaf.Goals as goal

pub returns : goal.returns
returns c = c.are_none.ensures ∙ ap (λ xs. is_empty (trees_of (map collected_view xs))) c.deref.ensures.value
