-- Loops that keep the least of the places so far.
use Rattle.std.proofs.Common.{◌≡◌, ◌∙◌, ap, sym, ℕ, ◌+◌, ◌<◌, List, ◌∷◌, length, get_or, drop, Option}
use Rattle.std.proofs.lemmas.List.{drop_more}
use Rattle.hq_gql_nodes.specs.Least.{earlier}
use Rattle.hq_gql_nodes.proofs.Lesser.{earlier_assoc}

-- the lesser of the least so far, of the place of the next item and of the least of what is left is the least, where F gives that of a list
pub least_so_far : {A : Type 0} (F : List A → Option ℕ) (xs : List A) (i : ℕ) (d x : A) (least here new whole : Option ℕ) → earlier least (F (drop i xs)) ≡ whole → i < length xs → x ≡ get_or xs i d
    → F (x ∷ drop (i + 1) xs) ≡ earlier here (F (drop (i + 1) xs)) → new ≡ earlier least here → earlier new (F (drop (i + 1) xs)) ≡ whole
least_so_far F xs i d x least here new whole so_far below is joins grows =
    ap (λ o. earlier o (F (drop (i + 1) xs))) grows
    ∙ earlier_assoc least here (F (drop (i + 1) xs))
    ∙ ap (earlier least) (sym joins ∙ ap F (sym (drop_more xs i d below ∙ ap (λ y. y ∷ drop (i + 1) xs) (sym is))))
    ∙ so_far
