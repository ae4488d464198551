-- Loops over the definitions of a document, with the least place so far.
use Rattle.std.proofs.Common.{◌≡◌, ◌∙◌, ap, sym, refl, ℕ, zero, suc, ◌+◌, ◌<◌, length, get_or, map, add-one, arith, List, [], ◌∷◌, Option, Some}
use Rattle.std.specs.Prelude.{slice_get, option_and_then}
use Rattle.hq_gql_tree.specs.declared.document.Definition.{Definition}
use Rattle.hq_gql_tree.specs.Documents.{DefinitionTree, definition_view}
use Rattle.hq_gql_nodes.specs.Least.{earlier}
use Rattle.hq_rules_reach.specs.Spreads.{least_below, place_at}

-- the image at a place
slice_get-map_at : {A B : Type 0} (f : A → B) (xs : List A) (i : ℕ) (x : A) → i < length xs → x ≡ get_or xs i x → slice_get (map f xs) i ≡ Some (f x)
slice_get-map_at f [] i x below is = absurd (omega arith)
slice_get-map_at f (y ∷ xs) zero x below is = ap (λ z. Some (f z)) (sym is)
slice_get-map_at f (y ∷ xs) (suc i) x below is = slice_get-map_at f xs i x (omega arith) is

-- one more definition
pub least_more : (f : ℕ → DefinitionTree → Option ℕ) (defs : List Definition) (i : ℕ) (x : Definition) (least here : Option ℕ) → i < length defs → x ≡ get_or defs i x
    → least ≡ least_below (place_at f (map definition_view defs)) i → here ≡ f i (definition_view x)
    → earlier least here ≡ least_below (place_at f (map definition_view defs)) (i + 1)
least_more f defs i x least here below is so_far now =
    let at : place_at f (map definition_view defs) i ≡ f i (definition_view x) = ap (λ o. option_and_then (f i) o) (slice_get-map_at definition_view defs i x below is) in
    ap (λ o. earlier o here) so_far
    ∙ ap (earlier (least_below (place_at f (map definition_view defs)) i)) (now ∙ sym at)
    ∙ ap (least_below (place_at f (map definition_view defs))) (sym (add-one i))

-- one more definition, where the lesser of the two is at hand
pub least_with : (f : ℕ → DefinitionTree → Option ℕ) (defs : List Definition) (i : ℕ) (x : Definition) (least new : Option ℕ) → i < length defs → x ≡ get_or defs i x
    → least ≡ least_below (place_at f (map definition_view defs)) i → new ≡ earlier least (f i (definition_view x))
    → new ≡ least_below (place_at f (map definition_view defs)) (i + 1)
least_with f defs i x least new below is so_far now = now ∙ least_more f defs i x least (f i (definition_view x)) below is so_far refl
