use Rattle.std.proofs.Common.{◌≡◌, ◌∙◌, ap, sym, map, ℕ, List, Option}
use Rattle.hq_schema.specs.Schema.{schema_view}
use Rattle.hq_gql_tree.specs.View.{document_view}
use Rattle.hq_gql_nodes.specs.Fragments.{fragment_named, graph_of}
use Rattle.hq_gql_nodes.specs.Names.{get_name}
use Rattle.hq_gql_nodes.specs.Nodes.{PartTree, part_view, document_parts}
use Rattle.hq_gql_nodes.specs.Reach.{Graph, graph_view}
use Rattle.hq_rules_doc.specs.First.{fault_by}
use Rattle.hq_rules_doc.proofs.first.first_doc_fault.Goals as goal

-- the fault by what is found is the one of the definitions
same_fault : {F : Type 0} (by : (List ℕ → Option ℕ) → List PartTree → Graph → F) (places places' : List ℕ → Option ℕ) (parts parts' : List PartTree) (g : Graph)
    → places ≡ places' → parts ≡ parts' → g ≡ graph_of places parts → by places parts g ≡ by places' parts' (graph_of places' parts')
same_fault by places places' parts parts' g e f h =
    ap (by places parts) h ∙ ap (λ (p : List ℕ → Option ℕ). by p parts (graph_of p parts)) e ∙ ap (λ (ps : List PartTree). by places' ps (graph_of places' ps)) f

pub returns : goal.returns
returns c =
    let s = schema_view c.args.schema.now in
    let d = document_view c.args.document.now in
    let places = get_name c.in_ok-places.places in
    c.in_ok-fault.ensures
    ∙ same_fault (fault_by s d) places (fragment_named d) (map part_view c.deref-4.result.now) (document_parts s d) (graph_view c.deref-5.result.now) c.in_ok-places.ensures
    (ap (λ ps. map part_view ps) c.deref-4.ensures.value ∙ c.in_ok-parts.ensures)
    (ap graph_view c.deref-5.ensures.value ∙ c.in_ok-graph.ensures ∙ ap (λ ps. graph_of places (map part_view ps)) (c.deref-2.ensures.value ∙ sym c.deref-4.ensures.value))
