use Rattle.std.proofs.Common.{◌≡◌, ◌∙◌, ◌<◌, ℕ, List, [], length, get_or, sym, subst, rules, arith, Vec, Global}
use Rattle.std.proofs.lemmas.Grind.{common_steps}
use Rattle.std.proofs.lemmas.List.{length-map}
use Rattle.hq_gql_nodes.specs.Reach.{Graph, graph_view}
use Rattle.hq_gql_nodes.specs.Marks.{Among}
use Rattle.hq_rules_reach.proofs.Falls.{not_back}
use Rattle.hq_rules_reach.proofs.components.leaves.Goals as goal

pub returns-in-Some : goal.returns-in-Some
returns-in-Some c = λ t.
    let rows : Graph = graph_view c.args.graph.now in
    let numbers : List ℕ = c.args.numbers.now in
    let place : ℕ = c.args.place in
    let same : length rows ≡ length c.args.graph.now = length-map c.args.graph.now (λ (row : Vec ℕ Global). row.items) in
    let many : length numbers ≡ length rows = c.requires.long ∙ sym same in
    let here : get_or numbers place 0 ≡ c.in-Some.number.now = first_of (search rules, grind (arith, common_steps)) in
    not_back rows numbers c.requires.rising place
    (λ q h.
    let among : Among (length numbers) c.row.result.now q =
    subst (λ (xs : List ℕ). Among (length numbers) xs q) (sym c.row.ensures) (subst (λ (n : ℕ). Among n (get_or rows place []) q) (sym many) h) in
    let above : c.in-Some.number.now < get_or numbers q 0 = c.all_above.ensures t q among in
    subst (λ (n : ℕ). n < get_or numbers q 0) (sym here) above)
