-- The first items of groups, where those of a front are taken before the rest comes.
use Rattle.std.proofs.Common.{◌≡◌, ◌∙◌, refl, sym, ap, ap₂, List, [], ◌∷◌, ◌++◌, filter, Bool, true, false, not, ◌&&◌, ◌||◌, Ordering, Less, Equal, Greater, is_eq}
use Rattle.std.specs.List.{list_any}
use Rattle.std.proofs.lemmas.Bool.{and_parts}
use Rattle.std.proofs.lemmas.List.Elements.{filter-append}
use Rattle.hq_base.specs.Cells.{CellTree, cell_cmp, same_cell}
use Rattle.hq_base.specs.Lists.{firsts}
use Rattle.hq_base.proofs.Lists.{each_all, filter_all, filter_filter, firsts_all, firsts_any, firsts_differ}
use Rattle.hq_base.proofs.Orders.{cell_cmp_total}
use Rattle.hq_sql_tree.specs.Tree.{ExprTree}
use Rattle.hq_sql_tree.specs.Meaning.{Scope, distinct_on, same_values, value}

-- tests that agree keep the same items
filter_same : {A : Type 0} (p q : A → Bool) → ((x : A) → p x ≡ q x) → (xs : List A) → filter p xs ≡ filter q xs
filter_same p q agree [] = refl
filter_same p q agree (x ∷ xs) = rw (agree x, filter_same p q agree xs) refl

neither : (a b : Bool) → (not a && not b) ≡ not (b || a)
neither true true = refl
neither true false = refl
neither false true = refl
neither false false = refl

module _ {A : Type 0} (same : A → A → Bool) where
  -- an item is of the group of none of these
  abbrev pub new_to : List A → A → Bool
  new_to xs y = not (list_any (λ x. same x y) xs)

  -- the first items of a front, and those of the rest whose groups are new
  pub firsts_append : (xs ys : List A) → firsts same (xs ++ ys) ≡ firsts same xs ++ filter (new_to xs) (firsts same ys)
  firsts_append [] ys = sym (filter_all (new_to []) (firsts same ys) (each_all (λ (y : A). new_to [] y ≡ true) (λ y. refl) (firsts same ys)))
  firsts_append (x ∷ xs) ys =
      let other : A → Bool = λ y. not (same x y) in
      let F = firsts same xs in
      let G = firsts same ys in
      ap (λ l. x ∷ filter other l) (firsts_append xs ys)
      ∙ ap (λ l. x ∷ l) (filter-append other F (filter (new_to xs) G)
      ∙ ap (λ l. filter other F ++ l) (filter_filter other (new_to xs) G ∙ filter_same (λ y. new_to xs y && other y) (new_to (x ∷ xs)) (λ y. neither (list_any (λ z. same z y) xs) (same x y)) G))

  -- the first items of a front may be taken before
  pub firsts_again : ((x y : A) → same x y ≡ true → (z : A) → same x z ≡ same y z) → (xs ys : List A) → firsts same (firsts same xs ++ ys) ≡ firsts same (xs ++ ys)
  firsts_again alike xs ys =
      let F = firsts same xs in
      firsts_append F ys
      ∙ ap₂ (λ a b. a ++ b) (firsts_all same F (firsts_differ same xs))
      (filter_same (new_to F) (new_to xs) (λ y. ap not (firsts_any same (λ x. same x y) (λ x z e. alike x z e y) xs)) (firsts same ys))
      ∙ sym (firsts_append xs ys)

-- ---- DISTINCT ON

equal_told : (o : Ordering) → is_eq o ≡ true → o ≡ Equal
equal_told Less e = cc
equal_told Equal e = refl
equal_told Greater e = cc

cells_alike : (a b c : CellTree) → same_cell a b ≡ true → same_cell a c ≡ same_cell b c
cells_alike a b c e = ap is_eq (cell_cmp_total.congr a b c (equal_told (cell_cmp a b) e))

values_alike : (es : List ExprTree) (x y : Scope) → same_values es x y ≡ true → (z : Scope) → same_values es x z ≡ same_values es y z
values_alike [] x y h z = refl
values_alike (e ∷ es) x y h z =
    let parts = and_parts (same_cell (value e [] x) (value e [] y)) (same_values es x y) h in
    ap₂ (λ p q. p && q) (cells_alike (value e [] x) (value e [] y) (value e [] z) parts.0) (values_alike es x y parts.1 z)

pub distinct_none : (es : List ExprTree) → [] ≡ distinct_on es []
distinct_none [] = refl
distinct_none (e ∷ es) = refl

-- what DISTINCT ON leaves behind a front
abbrev pub distinct_rest : List ExprTree → (xs ys : List Scope) → List Scope
distinct_rest [] xs ys = ys
distinct_rest (e ∷ es) xs ys = filter (new_to (same_values (e ∷ es)) xs) (firsts (same_values (e ∷ es)) ys)

pub distinct_append : (es : List ExprTree) (xs ys : List Scope) → distinct_on es (xs ++ ys) ≡ distinct_on es xs ++ distinct_rest es xs ys
distinct_append [] xs ys = refl
distinct_append (e ∷ es) xs ys = firsts_append (same_values (e ∷ es)) xs ys

-- it may take those of a front before
pub distinct_again : (es : List ExprTree) (xs ys : List Scope) → distinct_on es (distinct_on es xs ++ ys) ≡ distinct_on es (xs ++ ys)
distinct_again [] xs ys = refl
distinct_again (e ∷ es) xs ys = firsts_again (same_values (e ∷ es)) (values_alike (e ∷ es)) xs ys
