-- Reading a select from left to right.
use Rattle.std.specs.Prelude.{ℕ, zero, suc, Bool, false, ◌||◌, List, [], ◌∷◌, length, Option, Some, None, is_some, ◌==◌, if◌then◌else◌}
use Rattle.hq_model.specs.Tests.{arity}
use Rattle.hq_model.specs.declared.test.Test.{Test}
use Rattle.hq_model.specs.declared.test.Arity.{Arity}
use Rattle.hq_model.specs.declared.test.Arity.TheVariants.{Nothing, One, Many}
use Rattle.hq_sql_tree.specs.declared.word.Word.{Word}
use Rattle.hq_sql_tree.specs.declared.word.Word.TheVariants as word
use Rattle.hq_sql_tree.specs.Form.{is_rows, reads_as_fold}
use Rattle.hq_sql_tree.specs.Word.{all_tests, test_word}
use Rattle.hq_sql_tree.specs.Tree as tree
use Rattle.hq_sql_tree.specs.Tree.{ExprTree, OrderTree, SelectTree, FromTree, JoinTree, FilterTree, PredTree, joins_of, preds_of}
use Rattle.hq_sql_expr.specs.Reading.{◌>>=◌, Reader, nothing, below, choose, first_of, after, first_word, all_many, name_at, number_at, cast_at, expr_at, argument_with, order_with, out_with, closed_exprs}

-- a list behind a word, or none
abbrev pub clause_with : {A : Type 0} → (first between : Word) → Reader A → Reader (List A)
clause_with first between item bytes = choose (after first bytes) (λ rest. all_many item between rest) (Some ([], bytes))

-- the expressions of DISTINCT ON, where it stands
abbrev pub distinct_at : ℕ → Reader (List ExprTree)
distinct_at d bytes = choose (after word.DistinctOn bytes) (λ rest. below (closed_exprs word.CloseDistinct) d rest) (Some ([], bytes))

-- the number behind LIMIT or OFFSET, where it stands
abbrev pub count_at : Word → Reader (Option ℕ)
count_at w bytes = choose (after w bytes) (λ rest. number_at rest >>= λ n. Some (Some n.0, n.1)) (Some (None, bytes))

-- ---- conditions

-- the test whose operator stands here
unfoldable pub test_at : Reader Test
test_at bytes = first_word test_word all_tests bytes

-- as many operands as a test takes, up to the closing parenthesis
abbrev pub operands_at : Arity → ℕ → Reader (List ExprTree)
operands_at Nothing d bytes = after word.Close bytes >>= λ rest. Some ([], rest)
operands_at One d bytes = argument_with (expr_at d) bytes >>= λ e. Some (e.0 ∷ [], e.1)
operands_at Many d bytes = below (closed_exprs word.CloseIn) d bytes

-- what is asked of a value, up to the closing parenthesis
unfoldable pub test_with : ℕ → ExprTree → Reader PredTree
test_with d value bytes = do
  t ← test_at bytes
  es ← operands_at (arity t.0) d t.1
  Some (tree.test value t.0 es.0, es.1)

unfoldable pub tested_at : ℕ → Reader PredTree
tested_at d bytes = expr_at d bytes >>= λ e. test_with d e.0 e.1

-- a column that is written by its text stands here, in its parentheses, and no condition
abbrev pub cast_next : Reader ExprTree
cast_next bytes = after word.Open bytes >>= λ rest. cast_at rest

-- AND or OR stands here
abbrev pub joint_next : List ℕ → Bool
joint_next bytes = is_some (after word.And bytes) || is_some (after word.Or bytes)

abbrev pub joint_behind : Option (List ℕ) → Bool
joint_behind None = false
joint_behind (Some rest) = joint_next rest

-- a condition begins here, and no expression; TRUE and FALSE are conditions where AND or OR follows
abbrev pub member_next : List ℕ → Bool
member_next bytes = is_some (after word.Open bytes) || is_some (after word.Exists bytes) || joint_behind (after word.True bytes) || joint_behind (after word.False bytes)

-- the first condition and those behind it, up to the closing parenthesis
unfoldable pub others_with : Reader PredTree → Word → PredTree → Reader (List PredTree)
others_with condition between first bytes = do
  ps ← all_many condition between bytes
  rest ← after word.Close ps.1
  Some (first ∷ ps.0, rest)

-- the members of AND or OR
unfoldable pub joined_with : Reader PredTree → Reader PredTree
joined_with condition bytes =
    condition bytes >>= λ p.
    choose (after word.And p.1) (λ rest. others_with condition word.And p.0 rest >>= λ ps. Some (tree.all_of (preds_of ps.0), ps.1))
    (after word.Or p.1 >>= λ rest. others_with condition word.Or p.0 rest >>= λ ps. Some (tree.any_of (preds_of ps.0), ps.1))

unfoldable pub negated_with : Reader PredTree → Reader PredTree
negated_with condition bytes = do
  p ← condition bytes
  rest ← after word.Close p.1
  Some (tree.negation p.0, rest)

-- what a parenthesis holds, up to the one that closes it
unfoldable pub inside_with : ℕ → Reader PredTree → Reader PredTree
inside_with d condition bytes =
    choose (after word.Not bytes) (λ rest. negated_with condition rest)
    (first_of (cast_next bytes) (λ e. test_with d e.0 e.1) (if member_next bytes then joined_with condition bytes else tested_at d bytes))

-- the rows of an EXISTS, up to the closing parenthesis
unfoldable pub exists_with : Reader SelectTree → Reader PredTree
exists_with query bytes = do
  s ← query bytes
  rest ← after word.Close s.1
  if is_rows s.0 then Some (tree.exists s.0, rest) else None

unfoldable pub pred_with : (inside : Reader PredTree) → (query : Reader SelectTree) → Reader PredTree
pred_with inside query bytes =
    choose (after word.True bytes) (λ rest. Some (tree.always, rest))
    (choose (after word.False bytes) (λ rest. Some (tree.never, rest))
    (choose (after word.Open bytes) (λ rest. inside rest)
    (after word.Exists bytes >>= λ rest. exists_with query rest)))

-- the condition of WHERE, where it stands
abbrev pub filter_with : Reader PredTree → Reader FilterTree
filter_with condition bytes = choose (after word.Where bytes) (λ rest. condition rest >>= λ p. Some (tree.filter p.0, p.1)) (Some (tree.no_filter, bytes))

-- ---- what a select takes its rows from

unfoldable pub table_at : Reader FromTree
table_at bytes = do
  s ← name_at bytes
  dot ← after word.Dot s.1
  t ← name_at dot
  rest ← after word.As t.1
  a ← name_at rest
  Some (tree.table s.0 t.0 a.0, a.1)

-- a select, the parenthesis that closes it, and its alias
unfoldable pub aliased_with : Reader SelectTree → Reader JoinTree
aliased_with query bytes = do
  s ← query bytes
  rest ← after word.CloseAs s.1
  a ← name_at rest
  Some (record { select = s.0; alias = a.0 }, a.1)

-- the alias of One, whose parenthesis is one more
unfoldable pub one_at : ℕ → Reader FromTree
one_at zero bytes = None
one_at (suc d) bytes = name_at bytes >>= λ a. Some (tree.one a.0, a.1)

unfoldable pub from_with : ℕ → Reader SelectTree → Reader FromTree
from_with d query bytes =
    choose (after word.Open bytes) (λ rest. choose (after word.One rest) (one_at d) (aliased_with query rest >>= λ s. Some (tree.sub s.0.select s.0.alias, s.1)))
    (table_at bytes)

unfoldable pub join_with : Reader SelectTree → Reader JoinTree
join_with query bytes = do
  s ← aliased_with query bytes
  rest ← after word.OnTrue s.1
  Some (s.0, rest)

-- ---- selects

-- rows that are written as a fold are one
abbrev pub fold_of : SelectTree → SelectTree
fold_of (tree.rows distinct (o ∷ []) (tree.sub s alias) joins condition keys limit offset) = tree.fold o s alias
fold_of s = s

abbrev pub shaped : SelectTree → SelectTree
shaped s = if reads_as_fold s then fold_of s else s

-- what stands behind the joins
pub record EndTree : Type 0 where
  pub condition : FilterTree
  pub keys : List OrderTree
  pub limit : Option ℕ
  pub offset : Option ℕ

-- the limit and the offset, behind WHERE and ORDER BY
unfoldable pub counts_with : FilterTree → List OrderTree → Reader EndTree
counts_with condition keys bytes = do
  limit ← count_at word.Limit bytes
  offset ← count_at word.Offset limit.1
  Some (record { condition = condition; keys = keys; limit = limit.0; offset = offset.0 }, offset.1)

unfoldable pub end_with : ℕ → Reader PredTree → Reader EndTree
end_with d condition bytes = do
  p ← filter_with condition bytes
  keys ← clause_with word.OrderBy word.Comma (order_with (expr_at d)) p.1
  counts_with p.0 keys.0 keys.1

unfoldable pub select_with : ℕ → (query : Reader SelectTree) → (condition : Reader PredTree) → Reader SelectTree
select_with d query condition bytes = do
  start ← after word.Select bytes
  distinct ← distinct_at d start
  outs ← all_many (out_with (expr_at d)) word.Comma distinct.1
  rest ← after word.From outs.1
  from ← from_with d query rest
  joins ← clause_with word.LateralJoin word.LateralJoin (join_with query) from.1
  end ← end_with d condition joins.1
  Some (shaped (tree.rows distinct.0 outs.0 from.0 (joins_of joins.0) end.0.condition end.0.keys end.0.limit end.0.offset), end.1)

-- conditions and selects that open at most so many parentheses at once
unfoldable mutual
  pub pred_at : ℕ → Reader PredTree
  pred_at zero = pred_with nothing nothing
  pred_at (suc d) = pred_with (inside_with d (pred_at d)) (select_at d)

  pub select_at : ℕ → Reader SelectTree
  select_at zero = select_with zero nothing (pred_with nothing nothing)
  select_at (suc d) = select_with (suc d) (select_at d) (pred_with (inside_with d (pred_at d)) (select_at d))

abbrev pub inside_at : ℕ → Reader PredTree
inside_at d = inside_with d (pred_at d)

-- all of the bytes
unfoldable pub whole : ℕ → List ℕ → Option SelectTree
whole d bytes = select_at d bytes >>= λ s. if length s.1 == 0 then Some s.0 else None
