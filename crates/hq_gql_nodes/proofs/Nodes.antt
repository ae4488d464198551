-- Walks that add nodes at the end of a list.
use Rattle.std.proofs.Common.{◌≡◌, ◌∙◌, ℕ, ◌+◌, ◌<◌, List, [], ◌∷◌, ◌++◌, length, map, drop, get_or, sym, ap, append_assoc, Result, Ok, Err, OnOk}
use Rattle.std.proofs.lemmas.List.{map-append}
use Rattle.hq_base.proofs.Loops.{next_item}

-- a loop has added the nodes of one more item, where F gives those of a list
pub item_added : {A B : Type 0} (F : List A → List B) (xs : List A) (i : ℕ) (x : A) (here done more whole : List B)
    → done ++ F (drop i xs) ≡ whole → i < length xs → x ≡ get_or xs i x → F (x ∷ drop (i + 1) xs) ≡ here ++ F (drop (i + 1) xs)
    → more ≡ done ++ here → more ++ F (drop (i + 1) xs) ≡ whole
item_added F xs i x here done more whole so_far below is joins grows =
    ap (λ ns. ns ++ F (drop (i + 1) xs)) grows
    ∙ append_assoc done here (F (drop (i + 1) xs))
    ∙ ap (λ ns. done ++ ns) (sym joins ∙ ap F (sym (next_item xs i x below is)))
    ∙ so_far

-- a node is added
pub node_added : {A B : Type 0} (v : A → B) (old mid : List A) (x : A) → mid ≡ old ++ x ∷ [] → map v mid ≡ map v old ++ v x ∷ []
node_added v old mid x one = ap (map v) one ∙ map-append v old (x ∷ [])

-- nodes are added, and then others
pub nodes_added : {B : Type 0} (old mid new here rest : List B) → mid ≡ old ++ here → new ≡ mid ++ rest → new ≡ old ++ (here ++ rest)
nodes_added old mid new here rest first others = others ∙ ap (λ ns. ns ++ rest) first ∙ append_assoc old here rest

-- nodes are added, and then those that a last call adds
pub nodes_then : {B T E : Type 0} (r : Result T E) (old mid new here rest due : List B) → mid ≡ old ++ here → here ++ rest ≡ due → OnOk r (new ≡ mid ++ rest) → OnOk r (new ≡ old ++ due)
nodes_then (Ok y) old mid new here rest due first same others = nodes_added old mid new here rest first others ∙ ap (λ ns. old ++ ns) same
nodes_then (Err e) old mid new here rest due first same others = tt
