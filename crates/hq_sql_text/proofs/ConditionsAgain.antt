-- Conditions: what is spelled so is read again, whatever follows.
use Rattle.std.proofs.Common.{◌≡◌, ℕ, zero, suc, ◌<◌, Bool, true, false, cond, not, ◌||◌, List, [], ◌∷◌, ◌++◌, length, map, Option, Some, None, refl, sym, ap, subst, ◌∙◌, append_assoc, arith}
use Rattle.std.specs.Prelude.{codes}
use Rattle.std.specs.List.{AllByRecursion}
use Rattle.hq_model.specs.Tests.{arity}
use Rattle.hq_model.specs.declared.test.Test.{Test}
use Rattle.hq_sql_tree.specs.declared.expr.ColumnForm.{ColumnForm}
use Rattle.hq_sql_tree.specs.declared.expr.ColumnForm.TheVariants as form
use Rattle.hq_sql_tree.specs.declared.word.Word.{Word}
use Rattle.hq_sql_tree.specs.declared.word.Word.TheVariants as word
use Rattle.hq_sql_tree.specs.Word.{word_text, test_word, test_close}
use Rattle.hq_sql_tree.specs.Tree as tree
use Rattle.hq_sql_tree.specs.Tree.{ExprTree, AggTree, OrderTree, SelectTree, FilterTree, PredTree, PredTrees, preds_of, pred_list}
use Rattle.hq_sql_tree.specs.Form.{is_rows, is_count}
use Rattle.hq_sql_tree.specs.Spelling.{quoted, each_after, separated, expr_text, select_text, filter_text, pred_text, pred_texts}
use Rattle.hq_sql_expr.specs.Reading.{◌>>=◌, Reader, nothing, after, choose, first_of, cast_at}
use Rattle.hq_sql_expr.proofs.Sound.{after_again}
use Rattle.hq_sql_expr.proofs.Listed.{all_many_again}
use Rattle.hq_sql_expr.proofs.Fits.{FitsExpr}
use Rattle.hq_sql_expr.proofs.Exprs.{GoodOrder}
use Rattle.hq_sql_expr.proofs.Literals.{Free}
use Rattle.hq_sql_expr.proofs.Again.{is_cast, names_text, cast_again, unnamed, no_cast_again, collate_no_cast, expr_again}
use Rattle.hq_sql_expr.proofs.Aggregates.{agg_apart}
use Rattle.hq_sql_expr.proofs.Closed.{closed_list_text}
use Rattle.hq_sql_text.specs.Reading.{joint_next, cast_next, member_next, test_with, tested_at, others_with, joined_with, negated_with, inside_with, exists_with, pred_with, filter_with, end_with}
use Rattle.hq_sql_text.proofs.Fits.{FitsOperands, FitsSelect, FitsFilter, FitsPred, FitsPreds}
use Rattle.hq_sql_text.proofs.Operands.{operands_again}
use Rattle.hq_sql_text.proofs.Tests.{Asks, test_asks, test_no_cast, test_again}
use Rattle.hq_sql_text.proofs.ClausesAgain.{Ends, close_ends, Absent, counts_text, keys_text, behind_text, no_where_behind, counts_again, keys_clause}

-- a reader of selects, within so many parentheses
abbrev pub Query : ℕ → Reader SelectTree → Type 0
Query d query = (s : SelectTree) (rest : List ℕ) → FitsSelect s d → Ends rest → query (select_text s ++ rest) ≡ Some (s, rest)

-- a reader of conditions, within so many parentheses
abbrev pub Condition : ℕ → Reader PredTree → Type 0
Condition d condition = (p : PredTree) (rest : List ℕ) → FitsPred p d → condition (pred_text p ++ rest) ≡ Some (p, rest)

-- ---- what an expression or a condition begins with

or_false : (b : Bool) → b ≡ false → (b || false) ≡ false
or_false true e = absurd cc
or_false false e = refl

-- whether an expression begins without a parenthesis, as every one but a column that is written by its text
abbrev is_bare : ExprTree → Bool
is_bare (tree.column a n f) = not (is_cast f)
is_bare _ = true

-- an expression stands here, and no NOT and no condition, nor a parenthesis
abbrev NoMember : List ℕ → Type 0
NoMember bytes = Absent word.Not bytes × (member_next bytes ≡ false) × Absent word.Open bytes

agg_no_member : (a : AggTree) (rest : List ℕ) → NoMember (expr_text (tree.aggregate a) ++ rest)
unfolding word_text after
agg_no_member a rest =
    let no_open = agg_apart a 40 [] rest refl in
    let no_exists = agg_apart a 69 (codes "XISTS (") rest refl in
    let no_true = agg_apart a 84 (codes "RUE") rest refl in
    let no_false = agg_apart a 70 (codes "ALSE") rest refl in
    (agg_apart a 78 (codes "OT ") rest refl, rw (no_open, no_exists, no_true, no_false) refl, no_open)

expr_no_member : (e : ExprTree) (rest : List ℕ) → joint_next rest ≡ false → is_bare e ≡ true → NoMember (expr_text e ++ rest)
unfolding word_text after quoted
expr_no_member (tree.column a n form.Plain) rest none bare = (refl, refl, refl)
expr_no_member (tree.column a n form.Collated) rest none bare = (refl, refl, refl)
expr_no_member (tree.column a n form.AsText) rest none bare = absurd cc
expr_no_member (tree.column a n form.AsTextCollated) rest none bare = absurd cc
expr_no_member (tree.int n) rest none bare = (refl, refl, refl)
expr_no_member (tree.text t) rest none bare = (refl, refl, refl)
expr_no_member (tree.uuid t) rest none bare = (refl, refl, refl)
expr_no_member (tree.bool true) rest none bare = (refl, or_false (joint_next rest) none, refl)
expr_no_member (tree.bool false) rest none bare = (refl, none, refl)
expr_no_member (tree.object ps) rest none bare = (refl, refl, refl)
expr_no_member (tree.aggregate a) rest none bare = agg_no_member a rest

-- a condition stands here, and no NOT
abbrev Member : List ℕ → Type 0
Member bytes = Absent word.Not bytes × (member_next bytes ≡ true)

and_member : (p : PredTree) (rest : List ℕ) → Member (pred_text p ++ (word_text word.And ++ rest))
unfolding word_text after
and_member tree.always rest = (refl, refl)
and_member tree.never rest = (refl, refl)
and_member (tree.test e t es) rest = (refl, refl)
and_member (tree.negation p) rest = (refl, refl)
and_member (tree.all_of ps) rest = (refl, refl)
and_member (tree.any_of ps) rest = (refl, refl)
and_member (tree.exists s) rest = (refl, refl)

or_member : (p : PredTree) (rest : List ℕ) → Member (pred_text p ++ (word_text word.Or ++ rest))
unfolding word_text after
or_member tree.always rest = (refl, refl)
or_member tree.never rest = (refl, refl)
or_member (tree.test e t es) rest = (refl, refl)
or_member (tree.negation p) rest = (refl, refl)
or_member (tree.all_of ps) rest = (refl, refl)
or_member (tree.any_of ps) rest = (refl, refl)
or_member (tree.exists s) rest = (refl, refl)

-- ---- a condition begins with no column that is written by its text

abbrev begins_with_name : ExprTree → Bool
begins_with_name (tree.column a n f) = not (is_cast f)
begins_with_name _ = false

begins_free : (e : ExprTree) (rest : List ℕ) → begins_with_name e ≡ false → Free 34 (expr_text e ++ rest)
unfolding word_text quoted
begins_free (tree.column a n form.Plain) rest none = absurd cc
begins_free (tree.column a n form.Collated) rest none = absurd cc
begins_free (tree.column a n form.AsText) rest none = refl
begins_free (tree.column a n form.AsTextCollated) rest none = refl
begins_free (tree.int n) rest none = refl
begins_free (tree.text t) rest none = refl
begins_free (tree.uuid t) rest none = refl
begins_free (tree.bool true) rest none = refl
begins_free (tree.bool false) rest none = refl
begins_free (tree.object ps) rest none = refl
begins_free (tree.aggregate a) rest none = agg_apart a 34 [] rest refl

-- a value and what is asked of it
test_alone : (e : ExprTree) (t : Test) (d : ℕ) (rest : List ℕ) → FitsExpr e d → cast_at (expr_text e ++ (word_text (test_word t) ++ rest)) ≡ None
test_alone (tree.column a n form.Plain) t d rest fits = no_cast_again a n form.Plain (word_text (test_word t) ++ rest) fits.0 fits.1 (test_asks t rest).0.0 (test_no_cast t rest)
test_alone (tree.column a n form.Collated) t d rest fits =
    no_cast_again a n form.Collated (word_text (test_word t) ++ rest) fits.0 fits.1 (test_asks t rest).0.0
    (collate_no_cast (word_text (test_word t) ++ rest))
test_alone (tree.column a n form.AsText) t d rest fits = unnamed _ (begins_free (tree.column a n form.AsText) (word_text (test_word t) ++ rest) refl)
test_alone (tree.column a n form.AsTextCollated) t d rest fits = unnamed _ (begins_free (tree.column a n form.AsTextCollated) (word_text (test_word t) ++ rest) refl)
test_alone (tree.int n) t d rest fits = unnamed _ (begins_free (tree.int n) (word_text (test_word t) ++ rest) refl)
test_alone (tree.text s) t d rest fits = unnamed _ (begins_free (tree.text s) (word_text (test_word t) ++ rest) refl)
test_alone (tree.uuid s) t d rest fits = unnamed _ (begins_free (tree.uuid s) (word_text (test_word t) ++ rest) refl)
test_alone (tree.bool b) t d rest fits = unnamed _ (begins_free (tree.bool b) (word_text (test_word t) ++ rest) refl)
test_alone (tree.object ps) t d rest fits = unnamed _ (begins_free (tree.object ps) (word_text (test_word t) ++ rest) refl)
test_alone (tree.aggregate a) t d rest fits = unnamed _ (begins_free (tree.aggregate a) (word_text (test_word t) ++ rest) refl)

pred_free : (p : PredTree) (rest : List ℕ) → Free 34 (pred_text p ++ rest)
unfolding word_text
pred_free tree.always rest = refl
pred_free tree.never rest = refl
pred_free (tree.test e t es) rest = refl
pred_free (tree.negation p) rest = refl
pred_free (tree.all_of ps) rest = refl
pred_free (tree.any_of ps) rest = refl
pred_free (tree.exists s) rest = refl

close_free : (rest : List ℕ) → Free 34 (word_text word.Close ++ rest)
unfolding word_text
close_free rest = refl

members_free : (w : Word) (ps : PredTrees) (rest : List ℕ) → Free 34 ((separated w (pred_texts ps) ++ word_text word.Close) ++ rest)
members_free w tree.no_pred rest = close_free rest
members_free w (tree.pred p ps) rest =
    let later = each_after w (pred_texts ps) ++ (word_text word.Close ++ rest) in
    let regrouped : (separated w (pred_texts (tree.pred p ps)) ++ word_text word.Close) ++ rest ≡ pred_text p ++ later = simp append_assoc in
    subst (Free 34) (sym regrouped) (pred_free p later)

not_free : (inner rest : List ℕ) → Free 34 ((word_text word.Not ++ inner) ++ rest)
unfolding word_text
not_free inner rest = refl

opened_alone : (inner rest : List ℕ) → cast_at (inner ++ rest) ≡ None → cast_next ((word_text word.Open ++ inner) ++ rest) ≡ None
opened_alone inner rest none = rw (append_assoc (word_text word.Open) inner rest, after_again word.Open (inner ++ rest)) none

unopened : (o : Option (List ℕ)) → o ≡ None → (o >>= λ rest. cast_at rest) ≡ None
unopened None e = refl
unopened (Some rest) e = absurd cc

bool_no_open : (rest : List ℕ) → Absent word.Open (word_text word.True ++ rest) × Absent word.Open (word_text word.False ++ rest)
unfolding word_text after
bool_no_open rest = (refl, refl)

existing_no_open : (inner rest : List ℕ) → Absent word.Open ((word_text word.Exists ++ inner) ++ rest)
unfolding word_text after
existing_no_open inner rest = refl

no_cast : (p : PredTree) (d : ℕ) (rest : List ℕ) → FitsPred p d → cast_next (pred_text p ++ rest) ≡ None
no_cast tree.always d rest fits = unopened (after word.Open (word_text word.True ++ rest)) (bool_no_open rest).0
no_cast tree.never d rest fits = unopened (after word.Open (word_text word.False ++ rest)) (bool_no_open rest).1
no_cast (tree.test e t es) zero rest fits = absurd fits
no_cast (tree.test e t es) (suc d) rest fits =
    let later = closed_list_text (test_close t) es in
    let inner = expr_text e ++ (word_text (test_word t) ++ later) in
    let regrouped : inner ++ rest ≡ expr_text e ++ (word_text (test_word t) ++ (later ++ rest)) = simp append_assoc in
    opened_alone inner rest (ap cast_at regrouped ∙ test_alone e t d (later ++ rest) fits.0)
no_cast (tree.negation p) d rest fits =
    let inner = word_text word.Not ++ (pred_text p ++ word_text word.Close) in
    opened_alone inner rest (unnamed (inner ++ rest) (not_free (pred_text p ++ word_text word.Close) rest))
no_cast (tree.all_of ps) d rest fits =
    let inner = separated word.And (pred_texts ps) ++ word_text word.Close in
    opened_alone inner rest (unnamed (inner ++ rest) (members_free word.And ps rest))
no_cast (tree.any_of ps) d rest fits =
    let inner = separated word.Or (pred_texts ps) ++ word_text word.Close in
    opened_alone inner rest (unnamed (inner ++ rest) (members_free word.Or ps rest))
no_cast (tree.exists s) d rest fits =
    let inner = select_text s ++ word_text word.Close in
    unopened (after word.Open ((word_text word.Exists ++ inner) ++ rest)) (existing_no_open inner rest)

-- what follows a word that is not there, a value that is not read, and a test
not_chosen : {A : Type 0} (o : Option (List ℕ)) (f : List ℕ → Option A) (other : Option A) → o ≡ None → choose o f other ≡ other
not_chosen None f other e = refl
not_chosen (Some rest) f other e = absurd cc

not_first : {A B : Type 0} (o : Option A) (f : A → Option B) (other : Option B) → o ≡ None → first_of o f other ≡ other
not_first None f other e = refl
not_first (Some x) f other e = absurd cc

first_read : {A B : Type 0} (o : Option A) (x : A) (f : A → Option B) (other : Option B) → o ≡ Some x → first_of o f other ≡ f x
first_read None x f other e = absurd cc
first_read (Some y) x f other e = ap f cc

on_true : {A : Type 0} (b : Bool) (x y : A) → b ≡ true → cond b x y ≡ x
on_true true x y e = refl
on_true false x y e = absurd cc

on_false : {A : Type 0} (b : Bool) (x y : A) → b ≡ false → cond b x y ≡ y
on_false true x y e = absurd cc
on_false false x y e = refl

module _ (d : ℕ) (condition : Reader PredTree) where
  abbrev joined_or_tested : Reader PredTree
  joined_or_tested bytes = cond (member_next bytes) (joined_with condition bytes) (tested_at d bytes)

  abbrev cast_or_not : Reader PredTree
  cast_or_not bytes = first_of (cast_next bytes) (λ e. test_with d e.0 e.1) (joined_or_tested bytes)

  no_negation : (bytes : List ℕ) → Absent word.Not bytes → inside_with d condition bytes ≡ cast_or_not bytes
  unfolding inside_with
  no_negation bytes none = not_chosen (after word.Not bytes) (λ rest. negated_with condition rest) (cast_or_not bytes) none

  no_column : (bytes : List ℕ) → cast_next bytes ≡ None → cast_or_not bytes ≡ joined_or_tested bytes
  no_column bytes none = not_first (cast_next bytes) (λ e. test_with d e.0 e.1) (joined_or_tested bytes) none

  pub inside_member : (bytes : List ℕ) → Member bytes → cast_next bytes ≡ None → inside_with d condition bytes ≡ joined_with condition bytes
  inside_member bytes member none = no_negation bytes member.0 ∙ no_column bytes none ∙ on_true (member_next bytes) (joined_with condition bytes) (tested_at d bytes) member.1

  pub inside_tested : (bytes : List ℕ) → NoMember bytes → inside_with d condition bytes ≡ tested_at d bytes
  inside_tested bytes begins =
      no_negation bytes begins.0 ∙ no_column bytes (unopened (after word.Open bytes) begins.2)
      ∙ on_false (member_next bytes) (joined_with condition bytes) (tested_at d bytes) begins.1

  open_no_not : (rest : List ℕ) → Absent word.Not (word_text word.Open ++ rest)
  unfolding word_text after
  open_no_not rest = refl

  -- a column that is written by its text, and what is asked of it
  pub inside_cast : (a n : List ℕ) (f : ColumnForm) (rest : List ℕ) → FitsExpr (tree.column a n f) d → Asks rest → is_cast f ≡ true
      → inside_with d condition ((word_text word.Open ++ names_text a n f) ++ rest) ≡ test_with d (tree.column a n f) rest
  inside_cast a n f rest fits asks cast =
      let later = names_text a n f ++ rest in
      let opened_is : cast_next (word_text word.Open ++ later) ≡ Some (tree.column a n f, rest) = rw (after_again word.Open later) (cast_again a n f rest fits.0 fits.1 asks.0 cast) in
      ap (inside_with d condition) (append_assoc (word_text word.Open) (names_text a n f) rest) ∙ no_negation (word_text word.Open ++ later) (open_no_not later)
      ∙ first_read (cast_next (word_text word.Open ++ later)) (tree.column a n f, rest) (λ e. test_with d e.0 e.1) (joined_or_tested (word_text word.Open ++ later)) opened_is

-- ---- what is asked of a value

test_with_again : (d : ℕ) (value : ExprTree) (t : Test) (es : List ExprTree) (rest : List ℕ) → FitsOperands (arity t) d es
    → test_with d value (word_text (test_word t) ++ (closed_list_text (test_close t) es ++ rest)) ≡ Some (tree.test value t es, rest)
unfolding test_with
test_with_again d value t es rest fits = rw (test_again t (closed_list_text (test_close t) es ++ rest), operands_again (arity t) d es rest fits) refl

-- ---- parentheses

open_alone : (rest : List ℕ) → Absent word.True (word_text word.Open ++ rest) × Absent word.False (word_text word.Open ++ rest)
unfolding word_text after
open_alone rest = (refl, refl)

exists_alone : (rest : List ℕ) → Absent word.True (word_text word.Exists ++ rest) × Absent word.False (word_text word.Exists ++ rest) × Absent word.Open (word_text word.Exists ++ rest)
unfolding word_text after
exists_alone rest = (refl, refl, refl)

false_alone : (rest : List ℕ) → Absent word.True (word_text word.False ++ rest)
unfolding word_text after
false_alone rest = refl

or_alone : (rest : List ℕ) → Absent word.And (word_text word.Or ++ rest)
unfolding word_text after
or_alone rest = refl

close_no_and : (rest : List ℕ) → Absent word.And (word_text word.Close ++ rest)
unfolding word_text after
close_no_and rest = refl

close_no_or : (rest : List ℕ) → Absent word.Or (word_text word.Close ++ rest)
unfolding word_text after
close_no_or rest = refl

and_some : 0 < length (word_text word.And)
unfolding word_text
and_some = omega arith

or_some : 0 < length (word_text word.Or)
unfolding word_text
or_some = omega arith

-- the members of a tree are read as a list
preds_of-pred_list : (ps : PredTrees) → preds_of (pred_list ps) ≡ ps
preds_of-pred_list tree.no_pred = refl
preds_of-pred_list (tree.pred p ps) = ap (tree.pred p) (preds_of-pred_list ps)

pred_texts-list : (ps : PredTrees) → pred_texts ps ≡ map pred_text (pred_list ps)
pred_texts-list tree.no_pred = refl
pred_texts-list (tree.pred p ps) = ap (λ ts. pred_text p ∷ ts) (pred_texts-list ps)

good_preds : (d : ℕ) (ps : PredTrees) → FitsPreds ps d → AllByRecursion (λ p. FitsPred p d) (pred_list ps)
good_preds d tree.no_pred h = tt
good_preds d (tree.pred p ps) h = (h.0, good_preds d ps h.1)

module _ (inside : Reader PredTree) (query : Reader SelectTree) where
  always_again : (rest : List ℕ) → pred_with inside query (word_text word.True ++ rest) ≡ Some (tree.always, rest)
  unfolding pred_with
  always_again rest = rw (after_again word.True rest) refl

  never_again : (rest : List ℕ) → pred_with inside query (word_text word.False ++ rest) ≡ Some (tree.never, rest)
  unfolding pred_with
  never_again rest = rw (false_alone rest, after_again word.False rest) refl

  opened : (rest : List ℕ) → pred_with inside query (word_text word.Open ++ rest) ≡ inside rest
  unfolding pred_with
  opened rest = rw ((open_alone rest).0, (open_alone rest).1, after_again word.Open rest) refl

  existing : (rest : List ℕ) → pred_with inside query (word_text word.Exists ++ rest) ≡ exists_with query rest
  unfolding pred_with
  existing rest = let alone = exists_alone rest in rw (alone.0, alone.1, alone.2, after_again word.Exists rest) refl

module _ (d : ℕ) (condition : Reader PredTree) (condition_again : Condition d condition) where
  -- an expression and what is asked of it
  asked_bare : (l : ExprTree) (rest : List ℕ) → is_bare l ≡ true → FitsExpr l d → Asks rest → inside_with d condition (expr_text l ++ rest) ≡ test_with d l rest
  unfolding tested_at
  asked_bare l rest bare fits asks = inside_tested d condition (expr_text l ++ rest) (expr_no_member l rest asks.1 bare) ∙ rw (expr_again d l rest fits asks.0) refl

  asked : (l : ExprTree) (rest : List ℕ) → FitsExpr l d → Asks rest → inside_with d condition (expr_text l ++ rest) ≡ test_with d l rest
  asked (tree.column a n form.Plain) rest fits asks = asked_bare (tree.column a n form.Plain) rest refl fits asks
  asked (tree.column a n form.Collated) rest fits asks = asked_bare (tree.column a n form.Collated) rest refl fits asks
  asked (tree.column a n form.AsText) rest fits asks = inside_cast d condition a n form.AsText rest fits asks refl
  asked (tree.column a n form.AsTextCollated) rest fits asks = inside_cast d condition a n form.AsTextCollated rest fits asks refl
  asked (tree.int n) rest fits asks = asked_bare (tree.int n) rest refl fits asks
  asked (tree.text t) rest fits asks = asked_bare (tree.text t) rest refl fits asks
  asked (tree.uuid t) rest fits asks = asked_bare (tree.uuid t) rest refl fits asks
  asked (tree.bool b) rest fits asks = asked_bare (tree.bool b) rest refl fits asks
  asked (tree.object ps) rest fits asks = asked_bare (tree.object ps) rest refl fits asks
  asked (tree.aggregate a) rest fits asks = asked_bare (tree.aggregate a) rest refl fits asks

  negated_again : (p : PredTree) (rest : List ℕ) → FitsPred p d → inside_with d condition (word_text word.Not ++ (pred_text p ++ (word_text word.Close ++ rest))) ≡ Some (tree.negation p, rest)
  unfolding inside_with negated_with
  negated_again p rest fits = rw (after_again word.Not (pred_text p ++ (word_text word.Close ++ rest)), condition_again p (word_text word.Close ++ rest) fits, after_again word.Close rest) refl

  others_again : (w : Word) (first p : PredTree) (ps : List PredTree) (rest : List ℕ) → 0 < length (word_text w)
      → Absent w (word_text word.Close ++ rest) → FitsPred p d → AllByRecursion (λ p. FitsPred p d) ps
      → others_with condition w first (separated w (map pred_text (p ∷ ps)) ++ (word_text word.Close ++ rest)) ≡ Some (first ∷ p ∷ ps, rest)
  unfolding others_with
  others_again w first p ps rest some none fits good =
      rw (
        all_many_again condition w pred_text (λ p. FitsPred p d) (λ rest. Unit {0}) (λ x rest good u. condition_again x rest good)
            (λ rest. tt) some p ps (word_text word.Close ++ rest) fits good tt none,
        after_again word.Close rest,
      )
      refl

  all_again : (p q : PredTree) (ps : List PredTree) (rest : List ℕ) → FitsPred p d → FitsPred q d → AllByRecursion (λ p. FitsPred p d) ps
      → inside_with d condition
      (pred_text p ++ (word_text word.And ++ (separated word.And (map pred_text (q ∷ ps)) ++ (word_text word.Close ++ rest))))
      ≡ Some (tree.all_of (preds_of (p ∷ q ∷ ps)), rest)
  unfolding joined_with
  all_again p q ps rest fits_p fits_q good =
      let later = separated word.And (map pred_text (q ∷ ps)) ++ (word_text word.Close ++ rest) in
      inside_member d condition (pred_text p ++ (word_text word.And ++ later)) (and_member p later) (no_cast p d (word_text word.And ++ later) fits_p)
      ∙ rw (condition_again p (word_text word.And ++ later) fits_p, after_again word.And later, others_again word.And p q ps rest and_some (close_no_and rest) fits_q good) refl

  any_again : (p q : PredTree) (ps : List PredTree) (rest : List ℕ) → FitsPred p d → FitsPred q d → AllByRecursion (λ p. FitsPred p d) ps
      → inside_with d condition
      (pred_text p ++ (word_text word.Or ++ (separated word.Or (map pred_text (q ∷ ps)) ++ (word_text word.Close ++ rest))))
      ≡ Some (tree.any_of (preds_of (p ∷ q ∷ ps)), rest)
  unfolding joined_with
  any_again p q ps rest fits_p fits_q good =
      let later = separated word.Or (map pred_text (q ∷ ps)) ++ (word_text word.Close ++ rest) in
      inside_member d condition (pred_text p ++ (word_text word.Or ++ later)) (or_member p later) (no_cast p d (word_text word.Or ++ later) fits_p)
      ∙ rw (condition_again p (word_text word.Or ++ later) fits_p, or_alone later, after_again word.Or later, others_again word.Or p q ps rest or_some (close_no_or rest) fits_q good) refl

exists_again : (d : ℕ) (query : Reader SelectTree) → Query d query → (s : SelectTree) (rest : List ℕ) → is_rows s ≡ true → FitsSelect s d
    → exists_with query (select_text s ++ (word_text word.Close ++ rest)) ≡ Some (tree.exists s, rest)
unfolding exists_with
exists_again d query query_again s rest rows fits = rw (query_again s (word_text word.Close ++ rest) fits (close_ends rest), after_again word.Close rest, rows) refl

-- ---- conditions, by the depth

pub pred_zero : Condition zero (pred_with nothing nothing)
pred_zero tree.always rest fits = always_again nothing nothing rest
pred_zero tree.never rest fits = never_again nothing nothing rest
pred_zero (tree.test e t es) rest fits = absurd fits
pred_zero (tree.negation p) rest fits = absurd fits
pred_zero (tree.all_of ps) rest fits = absurd fits
pred_zero (tree.any_of ps) rest fits = absurd fits
pred_zero (tree.exists s) rest fits = absurd fits

module _ (d : ℕ) (condition : Reader PredTree) (query : Reader SelectTree) (condition_again : Condition d condition) (query_again : Query d query) where
  abbrev deeper : Reader PredTree
  deeper = pred_with (inside_with d condition) query

  -- what the text gives, where what stands behind the parenthesis is read so
  in_parentheses : (p : PredTree) (inner text rest : List ℕ) → text ≡ word_text word.Open ++ inner → inside_with d condition inner ≡ Some (p, rest) → deeper text ≡ Some (p, rest)
  in_parentheses p inner text rest is read = ap deeper is ∙ opened (inside_with d condition) query inner ∙ read

  asked_again : (p : PredTree) (l : ExprTree) (later text rest : List ℕ) → text ≡ word_text word.Open ++ (expr_text l ++ later)
      → FitsExpr l d → Asks later → test_with d l later ≡ Some (p, rest) → deeper text ≡ Some (p, rest)
  asked_again p l later text rest is fits asks read = in_parentheses p (expr_text l ++ later) text rest is (asked d condition condition_again l later fits asks ∙ read)

  pub pred_deeper : Condition (suc d) deeper
  pred_deeper tree.always rest fits = always_again (inside_with d condition) query rest
  pred_deeper tree.never rest fits = never_again (inside_with d condition) query rest
  pred_deeper (tree.test e t es) rest fits =
      let asked_for = closed_list_text (test_close t) es ++ rest in
      let later = word_text (test_word t) ++ asked_for in
      asked_again (tree.test e t es) e later (pred_text (tree.test e t es) ++ rest) rest (simp append_assoc) fits.0 (test_asks t asked_for) (test_with_again d e t es rest fits.1)
  pred_deeper (tree.negation p) rest fits =
      let inner = word_text word.Not ++ (pred_text p ++ (word_text word.Close ++ rest)) in
      in_parentheses (tree.negation p) inner (pred_text (tree.negation p) ++ rest) rest (simp append_assoc) (negated_again d condition condition_again p rest fits)
  pred_deeper (tree.all_of tree.no_pred) rest fits = absurd fits.0
  pred_deeper (tree.all_of (tree.pred p tree.no_pred)) rest fits = absurd fits.0
  pred_deeper (tree.all_of (tree.pred p (tree.pred q ps))) rest fits =
      let listed = separated word.And (map pred_text (q ∷ pred_list ps)) in
      let inner = pred_text p ++ (word_text word.And ++ (listed ++ (word_text word.Close ++ rest))) in
      let texts : pred_text (tree.all_of (tree.pred p (tree.pred q ps))) ++ rest
      ≡ (word_text word.Open ++ (separated word.And (map pred_text (p ∷ q ∷ pred_list ps)) ++ word_text word.Close)) ++ rest =
      ap (λ ts. (word_text word.Open ++ (separated word.And (pred_text p ∷ pred_text q ∷ ts) ++ word_text word.Close)) ++ rest) (pred_texts-list ps) in
      let regrouped : (word_text word.Open ++ (separated word.And (map pred_text (p ∷ q ∷ pred_list ps)) ++ word_text word.Close)) ++ rest ≡ word_text word.Open ++ inner = simp append_assoc in
      let tree_is : preds_of (p ∷ q ∷ pred_list ps) ≡ tree.pred p (tree.pred q ps) = ap (λ qs. tree.pred p (tree.pred q qs)) (preds_of-pred_list ps) in
      in_parentheses (tree.all_of (tree.pred p (tree.pred q ps))) inner (pred_text (tree.all_of (tree.pred p (tree.pred q ps))) ++ rest) rest (texts ∙ regrouped)
      (all_again d condition condition_again p q (pred_list ps) rest fits.1.0 fits.1.1.0 (good_preds d ps fits.1.1.1) ∙ ap (λ qs. Some (tree.all_of qs, rest)) tree_is)
  pred_deeper (tree.any_of tree.no_pred) rest fits = absurd fits.0
  pred_deeper (tree.any_of (tree.pred p tree.no_pred)) rest fits = absurd fits.0
  pred_deeper (tree.any_of (tree.pred p (tree.pred q ps))) rest fits =
      let listed = separated word.Or (map pred_text (q ∷ pred_list ps)) in
      let inner = pred_text p ++ (word_text word.Or ++ (listed ++ (word_text word.Close ++ rest))) in
      let texts : pred_text (tree.any_of (tree.pred p (tree.pred q ps))) ++ rest ≡ (word_text word.Open ++ (separated word.Or (map pred_text (p ∷ q ∷ pred_list ps)) ++ word_text word.Close)) ++ rest =
      ap (λ ts. (word_text word.Open ++ (separated word.Or (pred_text p ∷ pred_text q ∷ ts) ++ word_text word.Close)) ++ rest) (pred_texts-list ps) in
      let regrouped : (word_text word.Open ++ (separated word.Or (map pred_text (p ∷ q ∷ pred_list ps)) ++ word_text word.Close)) ++ rest ≡ word_text word.Open ++ inner = simp append_assoc in
      let tree_is : preds_of (p ∷ q ∷ pred_list ps) ≡ tree.pred p (tree.pred q ps) = ap (λ qs. tree.pred p (tree.pred q qs)) (preds_of-pred_list ps) in
      in_parentheses (tree.any_of (tree.pred p (tree.pred q ps))) inner (pred_text (tree.any_of (tree.pred p (tree.pred q ps))) ++ rest) rest (texts ∙ regrouped)
      (any_again d condition condition_again p q (pred_list ps) rest fits.1.0 fits.1.1.0 (good_preds d ps fits.1.1.1) ∙ ap (λ qs. Some (tree.any_of qs, rest)) tree_is)
  pred_deeper (tree.exists s) rest fits =
      let inner = select_text s ++ (word_text word.Close ++ rest) in
      let regrouped : pred_text (tree.exists s) ++ rest ≡ word_text word.Exists ++ inner = simp append_assoc in
      ap deeper regrouped ∙ existing (inside_with d condition) query inner ∙ exists_again d query query_again s rest fits.0 fits.1

-- ---- what stands behind the joins

module _ (d : ℕ) (condition : Reader PredTree) (condition_again : Condition d condition) where
  filter_again : (f : FilterTree) (rest : List ℕ) → FitsFilter f d → Absent word.Where rest → filter_with condition (filter_text f ++ rest) ≡ Some (f, rest)
  filter_again tree.no_filter rest fits none = rw none refl
  filter_again (tree.filter p) rest fits none = rw (append_assoc (word_text word.Where) (pred_text p) rest, after_again word.Where (pred_text p ++ rest), condition_again p rest fits) refl

  pub end_again : (f : FilterTree) (keys : List OrderTree) (limit offset : Option ℕ) (rest : List ℕ) → FitsFilter f d
      → AllByRecursion (GoodOrder d) keys → is_count limit ≡ true → is_count offset ≡ true → Ends rest
      → end_with d condition (behind_text f keys limit offset rest) ≡ Some (record { condition = f; keys = keys; limit = limit; offset = offset }, rest)
  unfolding end_with
  end_again f keys limit offset rest fits good is_limit is_offset ends =
      let later = keys_text keys ++ counts_text limit offset rest in
      rw (filter_again f later fits (no_where_behind keys limit offset rest ends.2), keys_clause d keys limit offset rest good ends, counts_again f keys limit offset rest is_limit is_offset ends) refl
