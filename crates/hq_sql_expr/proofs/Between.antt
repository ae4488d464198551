-- Lists that are written one after another.
use Rattle.std.proofs.Common.{◌≡◌, ◌∙◌, ℕ, zero, suc, ◌+◌, ◌<◌, ◌≤◌, List, [], ◌∷◌, ◌++◌, length, map, drop, get_or, refl, sym, ap, append_assoc, add-one}
use Rattle.std.proofs.lemmas.List.{drop_more, at_drop_all, append-nil}
use Rattle.hq_sql_tree.specs.declared.word.Word.{Word}
use Rattle.hq_sql_tree.specs.Tree.{PairTree, OrderTree, pairs_of, orders_of}
use Rattle.hq_sql_tree.specs.Spelling.{separated, each_after, pair_text, pair_texts, order_text, order_texts}
use Rattle.hq_sql_expr.specs.Between.{before}

-- what is still to come once so many are written
abbrev pub rest_of : Word → ℕ → List (List ℕ) → List ℕ
rest_of w zero ts = separated w ts
rest_of w (suc i) ts = each_after w ts

-- the member at an index, behind what stands before it, and then those that follow
here : (w : Word) (i : ℕ) (t : List ℕ) (ts : List (List ℕ)) → rest_of w i (t ∷ ts) ≡ before w i ++ (t ++ each_after w ts)
here w zero t ts = refl
here w (suc i) t ts = refl

-- a member is written at a place of a list, of which so many were written before, and the loop goes on behind it
pub each_after-more : {A : Type 0} (w : Word) (written : ℕ) (texts : List A → List (List ℕ)) (xs : List A) (i : ℕ) (x : A) (text out between more whole : List ℕ)
    → out ++ rest_of w written (texts (drop i xs)) ≡ whole → i < length xs → x ≡ get_or xs i x → texts (x ∷ drop (i + 1) xs) ≡ text ∷ texts (drop (i + 1) xs)
    → between ≡ out ++ before w written → more ≡ between ++ text → more ++ each_after w (texts (drop (i + 1) xs)) ≡ whole
each_after-more w written texts xs i x text out between more whole so_far below is next parted put =
    let rest = texts (drop (i + 1) xs) in
    ap (λ z. z ++ each_after w rest) (put ∙ ap (λ z. z ++ text) parted)
    ∙ append_assoc (out ++ before w written) text (each_after w rest)
    ∙ append_assoc out (before w written) (text ++ each_after w rest)
    ∙ ap (λ z. out ++ z) (sym (here w written text rest))
    ∙ ap (λ ts. out ++ rest_of w written ts) (sym next)
    ∙ ap (λ ys. out ++ rest_of w written (texts ys)) (sym (drop_more xs i x below ∙ ap (λ y. y ∷ drop (i + 1) xs) (sym is)))
    ∙ so_far

-- the same where all before the place were written
pub rest_of-more : {A : Type 0} (w : Word) (texts : List A → List (List ℕ)) (xs : List A) (i : ℕ) (x : A) (text out between more whole : List ℕ)
    → out ++ rest_of w i (texts (drop i xs)) ≡ whole → i < length xs → x ≡ get_or xs i x → texts (x ∷ drop (i + 1) xs) ≡ text ∷ texts (drop (i + 1) xs)
    → between ≡ out ++ before w i → more ≡ between ++ text → more ++ rest_of w (i + 1) (texts (drop (i + 1) xs)) ≡ whole
rest_of-more w texts xs i x text out between more whole so_far below is next parted put =
    ap (λ k. more ++ rest_of w k (texts (drop (i + 1) xs))) (add-one i) ∙ each_after-more w i texts xs i x text out between more whole so_far below is next parted put

-- nothing comes of no members
nothing_left : (w : Word) (i : ℕ) → rest_of w i [] ≡ []
nothing_left w zero = refl
nothing_left w (suc i) = refl

-- at the end of the list all are written
pub rest_of-end : {A : Type 0} (w : Word) (written : ℕ) (texts : List A → List (List ℕ)) (xs : List A) (i : ℕ) (out whole : List ℕ)
    → texts [] ≡ [] → length xs ≤ i → out ++ rest_of w written (texts (drop i xs)) ≡ whole → out ≡ whole
rest_of-end w written texts xs i out whole none over so_far =
    let left : rest_of w written (texts (drop i xs)) ≡ [] = at_drop_all (λ l. rest_of w written (texts l)) xs i over ∙ ap (rest_of w written) none ∙ nothing_left w written in
    sym (append-nil out) ∙ ap (λ z. out ++ z) (sym left) ∙ so_far

-- the members of an object and the keys of an order, as plain lists
pub pair_texts_of : (ps : List PairTree) → pair_texts (pairs_of ps) ≡ map pair_text ps
pair_texts_of [] = refl
pair_texts_of (p ∷ ps) = ap (λ ts. pair_text p ∷ ts) (pair_texts_of ps)

pub order_texts_of : (os : List OrderTree) → order_texts (orders_of os) ≡ map order_text os
order_texts_of [] = refl
order_texts_of (o ∷ os) = ap (λ ts. order_text o ∷ ts) (order_texts_of os)
