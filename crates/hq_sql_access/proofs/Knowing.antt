-- What is known of conditions: of the same condition, and one thing more.
use Rattle.std.proofs.Common.{◌≡◌, ℕ, zero, suc, ◌<◌, List, [], ◌∷◌, ◌++◌, length, get_or, Bool, true, false, cond, sym, ap, subst, ◌∙◌, arith}
use Rattle.hq_sql_tree.specs.Meaning.{NamedRow, World}
use Rattle.hq_sql_tree.specs.Tree as tree
use Rattle.hq_sql_tree.specs.Tree.{JoinTrees, no_join, FilterTree, FromTree, PredTree}
use Rattle.hq_sql_access.specs.KnownRows.{Knows, IsKnown}
use Rattle.hq_sql_access.specs.Sources.{alias_in, rows_given}
use Rattle.hq_sql_access.specs.declared.pinned.KnownRows.{KnownRows}

-- what is known of a condition is known of the same one without joins
pub known_same : (w : World) (from from' : FromTree) (js : JoinTrees) (p p' : PredTree) (f : FilterTree) (k : KnownRows) → from ≡ from' → p ≡ p' → js ≡ no_join → f ≡ tree.filter p'
    → ((made : List NamedRow) → Knows w (rows_given from w made) (alias_in from) (tree.filter p) k) → (made : List NamedRow) → IsKnown w (rows_given from' w made) (alias_in from') js f k
known_same w from from' js p p' f k e h j c known made =
    record {
      alone = j;
      knows = subst (λ x. Knows w (rows_given from' w made) (alias_in from') x k) (ap tree.filter h ∙ sym c)
          (subst (λ x. Knows w (rows_given x w made) (alias_in x) (tree.filter p) k) e (known made));
    }

-- one more is right where each is
pub one_more : {A : Type 0} (P : A → Type 0) (xs : List A) (x : A) → ((i : ℕ) (d : A) → i < length xs → P (get_or xs i d)) → P x
    → (i : ℕ) (d : A) → i < length (xs ++ (x ∷ [])) → P (get_or (xs ++ (x ∷ [])) i d)
one_more P [] x all h zero d lt = h
one_more P [] x all h (suc i) d lt = absurd (omega arith)
one_more P (y ∷ ys) x all h zero d lt = all zero d (omega arith)
one_more P (y ∷ ys) x all h (suc i) d lt = one_more P ys x (λ j e k. all (suc j) e (omega arith)) h i d (omega arith)

-- what holds of each item holds with one more that it holds of
all_more : {A : Type 0} (P : A → Type 0) (xs : List A) (x : A) → ((i : ℕ) (d : A) → i < length xs → P (get_or xs i d)) → P x
    → (i : ℕ) (d : A) → i < length (xs ++ x ∷ []) → P (get_or (xs ++ x ∷ []) i d)
all_more P [] x all one zero d lt = one
all_more P [] x all one (suc i) d lt = absurd (omega arith)
all_more P (y ∷ ys) x all one zero d lt = all 0 d (omega arith)
all_more P (y ∷ ys) x all one (suc i) d lt = all_more P ys x (λ j e below. all (suc j) e (omega arith)) one i d (omega arith)

pub all_pushed : {A : Type 0} (P : A → Type 0) (xs : List A) (x : A) → ((i : ℕ) (d : A) → i < length xs → P (get_or xs i d)) → P x
    → (pushed : Bool) (i : ℕ) (d : A) → i < length (cond pushed (xs ++ x ∷ []) xs) → P (get_or (cond pushed (xs ++ x ∷ []) xs) i d)
all_pushed P xs x all one true = all_more P xs x all one
all_pushed P xs x all one false = all
