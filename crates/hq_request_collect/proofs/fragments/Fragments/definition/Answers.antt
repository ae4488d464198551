use Rattle.std.proofs.Common.{◌≡◌, ◌∙◌, ap, ℕ, Option, Some, None, List, map}
use Rattle.std.specs.Prelude.{option_and_then, slice_get}
use Rattle.hq_gql_nodes.specs.Fragments.{fragment_named}
use Rattle.hq_gql_tree.specs.Documents.{DocumentTree, definition_view}
use Rattle.hq_request_collect.specs.Seen.{document_of}
use Rattle.hq_request_collect.proofs.Lists.{got_seen}
use Rattle.hq_request_collect.proofs.fragments.Fragments.definition.Goals as goal

pub returns-in-Some : goal.returns-in-Some
returns-in-Some c =
    let d : DocumentTree = document_of c.args.self.now in
    let place : Some c.in-Some.place ≡ fragment_named d c.args.name.now = c.in-Some.ensures ∙ ap (λ (f : List ℕ → Option ℕ). f c.args.name.now) c.args.self.now.named in
    got_seen definition_view c.deref.result.now c.in-Some.place c.definition_at.result c.definition_at.ensures
    ∙ ap (λ xs. slice_get (map definition_view xs) c.in-Some.place) c.deref.ensures.value
    ∙ ap (option_and_then (slice_get d)) place

pub returns-in-None : goal.returns-in-None
returns-in-None c =
    let d : DocumentTree = document_of c.args.self.now in
    let place : None ≡ fragment_named d c.args.name.now = c.in-None.ensures ∙ ap (λ (f : List ℕ → Option ℕ). f c.args.name.now) c.args.self.now.named in
    ap (option_and_then (slice_get d)) place
