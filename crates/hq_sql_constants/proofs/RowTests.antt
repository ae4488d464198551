-- Tests of the rows of a table.
use Rattle.std.proofs.Common.{◌≡◌, ◌∙◌, ◌<◌, ◌≤◌, ◌+◌, ℕ, zero, suc, List, [], ◌∷◌, ◌++◌, map, length, get_or, take, Bool, true, false, cond, ◌||◌, refl, sym, ap, ap₂, subst, add-one, arith}
use Rattle.std.specs.List.{list_any}
use Rattle.std.proofs.Math.Seq.{take-suc}
use Rattle.std.proofs.lemmas.List.{map-append, take_all}
use Rattle.hq_model.specs.Database.{Row}
use Rattle.hq_model.specs.Logic.{is_true, negated_if, not3, or3}
use Rattle.hq_model.specs.declared.table.Column.{Column}
use Rattle.hq_model.specs.declared.truth.Truth.{Truth}
use Rattle.hq_model.specs.declared.truth.Truth.TheVariants.{Yes, No, Unknown}
use Rattle.hq_sql_tree.specs.Meaning.{Scope as Names, World, any_true, truth_at}
use Rattle.hq_sql_tree.specs.Tree as tree
use Rattle.hq_sql_tree.specs.Tree.{PredTree, preds_of}
use Rattle.hq_sql_tree.specs.View.{pred_view}
use Rattle.hq_sql_tree.specs.declared.select.Pred.{Pred}
use Rattle.hq_sql_constants.specs.KeyTests.{IsKeyTest}
use Rattle.hq_sql_constants.specs.LikeTests.{IsLikeTest}
use Rattle.hq_sql_constants.specs.Plain as plain
use Rattle.hq_sql_constants.specs.RowTests.{AreTests, IsAtom, IsTest, one_holds, told, told_by}
use Rattle.hq_sql_constants.specs.declared.key_test.KeyTest.{KeyTest}
use Rattle.hq_sql_constants.specs.declared.like_test.LikeTest.{LikeTest}
use Rattle.hq_sql_constants.specs.declared.plain.ColumnTest.{ColumnTest}
use Rattle.hq_sql_constants.specs.declared.row_test.Atom.{Atom}
use Rattle.hq_sql_constants.specs.declared.row_test.Atom.TheVariants as atom
use Rattle.hq_sql_constants.specs.declared.row_test.RowTest.{RowTest}

-- ---- one test

pub column_is : (w : World) (columns : List Column) (alias : List ℕ) (p : PredTree) (t : ColumnTest) (a : Atom)
    → plain.IsTest columns alias p t → a ≡ atom.Column t → IsAtom w columns alias p a
column_is w columns alias p t a h e = subst (IsAtom w columns alias p) (sym e) (record { says = λ row m here. h.says w row m here })

pub like_is : (w : World) (columns : List Column) (alias : List ℕ) (p : PredTree) (t : LikeTest) (a : Atom)
    → IsLikeTest columns alias p t → a ≡ atom.Like t → IsAtom w columns alias p a
like_is w columns alias p t a h e = subst (IsAtom w columns alias p) (sym e) (record { says = λ row m here. h.says w row m here })

pub keys_are : (w : World) (columns : List Column) (alias : List ℕ) (p : PredTree) (t : KeyTest) (a : Atom)
    → IsKeyTest w columns alias p t.set.now t.columns.items → a ≡ atom.Keys t → IsAtom w columns alias p a
keys_are w columns alias p t a h e = subst (IsAtom w columns alias p) (sym e) (record { says = λ row m here. h.says row m here })

plain_is : (w : World) (columns : List Column) (alias : List ℕ) (p : PredTree) (t : RowTest)
    → IsAtom w columns alias p t.atom → t.negated ≡ false → IsTest w columns alias p t
plain_is w columns alias p t h e = record { says = λ row m here. h.says row m here ∙ ap (λ b. negated_if b (told_by t.atom row)) (sym e) }

-- a test that is negated says what the NOT of a condition is
not_is : (w : World) (columns : List Column) (alias : List ℕ) (p : PredTree) (t : RowTest)
    → IsAtom w columns alias p t.atom → t.negated ≡ true → IsTest w columns alias (tree.negation p) t
not_is w columns alias p t h e = record { says = λ row m here. ap not3 (h.says row m here) ∙ ap (λ b. negated_if b (told_by t.atom row)) (sym e) }

-- the test that a condition is, or that its NOT is
pub signed_is : (w : World) (columns : List Column) (alias : List ℕ) (p : PredTree) (t : RowTest) (negated : Bool)
    → IsAtom w columns alias p t.atom → t.negated ≡ negated → IsTest w columns alias (cond negated (tree.negation p) p) t
signed_is w columns alias p t true = not_is w columns alias p t
signed_is w columns alias p t false = plain_is w columns alias p t

-- ---- some tests

or_false : (a : Bool) → (a || false) ≡ a
or_false true = refl
or_false false = refl

-- the one test of a condition
pub one_is : (w : World) (columns : List Column) (alias : List ℕ) (p : PredTree) (t : RowTest) (ts : List RowTest) → IsTest w columns alias p t → ts ≡ t ∷ [] → AreTests w columns alias p ts
one_is w columns alias p t ts h e =
    subst (AreTests w columns alias p) (sym e) (record { keeps = λ row m here. ap is_true (h.says row m here) ∙ sym (or_false (is_true (told t row))) })

-- an OR of nothing is never true
pub tests_none : (w : World) (columns : List Column) (alias : List ℕ) → AreTests w columns alias (tree.any_of tree.no_pred) []
tests_none w columns alias = record { keeps = λ row m here. refl }

or3_yes : (x y : Truth) → is_true (or3 x y) ≡ (is_true x || is_true y)
or3_yes Yes y = refl
or3_yes No y = refl
or3_yes Unknown Yes = refl
or3_yes Unknown No = refl
or3_yes Unknown Unknown = refl

or3_no : (x : Truth) → or3 x No ≡ x
or3_no Yes = refl
or3_no No = refl
or3_no Unknown = refl

or3_assoc : (x y z : Truth) → or3 x (or3 y z) ≡ or3 (or3 x y) z
or3_assoc Yes y z = refl
or3_assoc No y z = refl
or3_assoc Unknown Yes z = refl
or3_assoc Unknown No Yes = refl
or3_assoc Unknown No No = refl
or3_assoc Unknown No Unknown = refl
or3_assoc Unknown Unknown Yes = refl
or3_assoc Unknown Unknown No = refl
or3_assoc Unknown Unknown Unknown = refl

any_last : (ps : List Pred) (p : Pred) (w : World) (m : Names) → any_true (preds_of (map pred_view (ps ++ p ∷ []))) w m ≡ or3 (any_true (preds_of (map pred_view ps)) w m) (truth_at (pred_view p) w m)
any_last [] p w m = or3_no (truth_at (pred_view p) w m)
any_last (q ∷ qs) p w m = ap (or3 (truth_at (pred_view q) w m)) (any_last qs p w m) ∙ or3_assoc (truth_at (pred_view q) w m) (any_true (preds_of (map pred_view qs)) w m) (truth_at (pred_view p) w m)

or_assoc : (a b c : Bool) → ((a || b) || c) ≡ (a || (b || c))
or_assoc true b c = refl
or_assoc false b c = refl

any_append : {A : Type 0} (p : A → Bool) (xs ys : List A) → list_any p (xs ++ ys) ≡ (list_any p xs || list_any p ys)
any_append p [] ys = refl
any_append p (x ∷ xs) ys = ap (λ b. p x || b) (any_append p xs ys) ∙ sym (or_assoc (p x) (list_any p xs) (list_any p ys))

-- one member more
pub tests_more : (w : World) (columns : List Column) (alias : List ℕ) (ps : List Pred) (i : ℕ) (p : Pred) (ts more : List RowTest) (t : RowTest) → i < length ps → p ≡ get_or ps i p
    → AreTests w columns alias (tree.any_of (preds_of (map pred_view (take i ps)))) ts → IsTest w columns alias (pred_view p) t → more ≡ ts ++ t ∷ []
    → AreTests w columns alias (tree.any_of (preds_of (map pred_view (take (i + 1) ps)))) more
tests_more w columns alias ps i p ts more t lt is so_far one grown =
    let longer : take (i + 1) ps ≡ take i ps ++ p ∷ [] = ap (λ n. take n ps) (add-one i) ∙ take-suc ps i p lt ∙ ap (λ d. take i ps ++ d ∷ []) (sym is) in
    subst (AreTests w columns alias (tree.any_of (preds_of (map pred_view (take (i + 1) ps))))) (sym grown)
    (record {
      keeps = λ row m here.
          let f : RowTest → Bool = λ x. is_true (told x row) in
          ap (λ l. is_true (any_true (preds_of (map pred_view l)) w m)) longer
          ∙ ap is_true (any_last (take i ps) p w m)
          ∙ or3_yes (any_true (preds_of (map pred_view (take i ps))) w m) (truth_at (pred_view p) w m)
          ∙ ap₂ (λ a b. a || b) (so_far.keeps row m here) (ap is_true (one.says row m here) ∙ sym (or_false (f t)))
          ∙ sym (any_append f ts (t ∷ []));
    })

-- ---- at the rows

-- none of the tests so far is true of a row
pub holds_step : (ts : List RowTest) (i : ℕ) (t : RowTest) (row : Row) → i < length ts → t ≡ get_or ts i t
    → one_holds (take i ts) row ≡ false → is_true (told t row) ≡ false → one_holds (take (i + 1) ts) row ≡ false
holds_step ts i t row lt is so_far one =
    let f : RowTest → Bool = λ x. is_true (told x row) in
    let longer : take (i + 1) ts ≡ take i ts ++ t ∷ [] = ap (λ n. take n ts) (add-one i) ∙ take-suc ts i t lt ∙ ap (λ d. take i ts ++ d ∷ []) (sym is) in
    ap (list_any f) longer ∙ any_append f (take i ts) (t ∷ []) ∙ ap₂ (λ a b. a || b) so_far (or_false (f t) ∙ one)

pub holds_end : (ts : List RowTest) (i : ℕ) (row : Row) → length ts ≤ i → one_holds (take i ts) row ≡ false → one_holds ts row ≡ false
holds_end ts i row le so_far = ap (λ l. one_holds l row) (sym (take_all i ts le)) ∙ so_far

-- one of them is true of a row
pub holds_found : (ts : List RowTest) (i : ℕ) (t : RowTest) (row : Row) → i < length ts → t ≡ get_or ts i t → is_true (told t row) ≡ true → one_holds ts row ≡ true
holds_found [] i t row lt is sure = absurd (omega arith)
holds_found (x ∷ ts) zero t row lt is sure = ap (λ u. is_true (told u row) || one_holds ts row) (sym is) ∙ ap (λ b. b || one_holds ts row) sure
holds_found (x ∷ ts) (suc i) t row lt is sure = ap (λ b. is_true (told x row) || b) (holds_found ts i t row (omega arith) is sure) ∙ or_true (is_true (told x row))
  where
    or_true : (a : Bool) → (a || true) ≡ true
    or_true true = refl
    or_true false = refl
