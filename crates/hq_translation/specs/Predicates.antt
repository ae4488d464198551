-- Boolean expressions as conditions: one definition for the filters of permissions and for the `where` of requests, which
-- differ in what a remote alias has beside its link.
use Rattle.std.specs.Prelude.{ℕ, ◌+◌, List, [], ◌∷◌, ◌++◌, true, cond, None}
use Rattle.hq_model.specs.Bexp.{BexpTree, always, and_of, or_of, not_of, test, through, exists_in, two_columns, BexpTrees, no_bexp, bexp, operands_of}
use Rattle.hq_model.specs.Schema.{Schema, table, rel}
use Rattle.hq_model.specs.Tests.{is_of_nothing}
use Rattle.hq_model.specs.declared.test.Test.TheVariants.{Compare}
use Rattle.hq_model.specs.declared.meta.Pair.{Pair}
use Rattle.hq_model.specs.declared.meta.Rel.{Rel}
use Rattle.hq_model.specs.declared.op.Op.TheVariants.{Eq}
use Rattle.hq_model.specs.declared.table.Column.{Column}
use Rattle.hq_sql_tree.specs.Tree as tree
use Rattle.hq_sql_tree.specs.Tree.{ExprTree, SelectTree, JoinTree, joins_of, PredTree}
use Rattle.hq_translation.specs.Names.{table_alias, unit_name}
use Rattle.hq_translation.specs.Looks.{Look, own_look, compared_at, tested_at, type_in}
use Rattle.hq_translation.specs.Conditions.{joined_by_and, joined_by_or, with_member, where_of, test_of}

-- a link: the remote row's columns equal the row's own, pair by pair
abbrev pub link_members : (columns remote : List Column) → (p q : ℕ) → List Pair → List PredTree
link_members columns remote p q [] = []
link_members columns remote p q (x ∷ xs) =
    tree.test (compared_at remote (own_look remote q x.remote) x.remote) (Compare Eq) (compared_at columns (own_look columns p x.own) x.own ∷ [])
    ∷ link_members columns remote p q xs

-- a row of table t at the alias of number p is linked to the remote row at the one of number q
abbrev pub link : Schema → (t : ℕ) → Rel → (p q : ℕ) → PredTree
link s t r p q = joined_by_and (link_members (table s t).columns (table s r.remote).columns p q r.pairs)

-- What a remote alias has beside its link: a further condition with its count of numbers, and joins by which its columns
-- are looked at. The alias has the number n; those of its joins begin behind it.
pub record Mode : Type 0 where
  pub more : (table : ℕ) → ℕ
  pub guard : (table n from : ℕ) → PredTree
  pub extra : (table : ℕ) → (used : List ℕ) → ℕ
  pub joins : (table : ℕ) → (used : List ℕ) → (n : ℕ) → List JoinTree
  pub look : (table : ℕ) → (used : List ℕ) → (n : ℕ) → Look

-- the columns of the row itself that an expression uses
abbrev mutual
  pub columns_in : BexpTree → List ℕ
  columns_in always = []
  columns_in (and_of bs) = columns_in_all bs
  columns_in (or_of bs) = columns_in_all bs
  columns_in (not_of b) = columns_in b
  columns_in (test c tested vs negated) = cond (is_of_nothing tested (operands_of vs)) [] (c ∷ [])
  columns_in (through r b) = []
  columns_in (exists_in u b) = []
  columns_in (two_columns l op r) = l ∷ r ∷ []

  pub columns_in_all : BexpTrees → List ℕ
  columns_in_all no_bexp = []
  columns_in_all (bexp b bs) = columns_in b ++ columns_in_all bs

-- the first numbers of a remote alias's further condition and of the inner expression
abbrev pub guard_from : Mode → (table : ℕ) → (used : List ℕ) → (n : ℕ) → ℕ
guard_from m u cs n = n + 1 + m.extra u cs

abbrev pub inner_from : Mode → (table : ℕ) → (used : List ℕ) → (n : ℕ) → ℕ
inner_from m u cs n = n + 1 + m.extra u cs + m.more u

-- how many numbers an expression over table t takes
abbrev mutual
  pub numbers : BexpTree → Schema → Mode → (t : ℕ) → ℕ
  numbers always s m t = 0
  numbers (and_of bs) s m t = numbers_all bs s m t
  numbers (or_of bs) s m t = numbers_all bs s m t
  numbers (not_of b) s m t = numbers b s m t
  numbers (test c tested vs negated) s m t = 0
  numbers (through r b) s m t = 1 + m.extra (rel s t r).remote (columns_in b) + m.more (rel s t r).remote + numbers b s m (rel s t r).remote
  numbers (exists_in u b) s m t = 1 + m.extra u (columns_in b) + m.more u + numbers b s m u
  numbers (two_columns l op r) s m t = 0

  pub numbers_all : BexpTrees → Schema → Mode → (t : ℕ) → ℕ
  numbers_all no_bexp s m t = 0
  numbers_all (bexp b bs) s m t = numbers b s m t + numbers_all bs s m t

-- the rows of table u that meet a tie, the further and the inner condition
abbrev pub counted_rows : Schema → Mode → (u n : ℕ) → (used : List ℕ) → (tie inner : PredTree) → SelectTree
counted_rows s m u n cs tie inner =
    tree.rows [] (record { value = tree.bool true; name = unit_name } ∷ [])
    (tree.table (table s u).schema (table s u).name (table_alias n)) (joins_of (m.joins u cs n))
    (where_of (with_member tie (with_member (m.guard u n (guard_from m u cs n)) (with_member inner [])))) [] None None

-- the rows of a remote table that are linked to the row at the alias of number p, and meet the further and the inner condition
abbrev pub remote_rows : Schema → Mode → (t p n : ℕ) → Rel → (used : List ℕ) → (inner : PredTree) → SelectTree
remote_rows s m t p n r cs inner = counted_rows s m r.remote n cs (link s t r p n) inner

-- a column of a row as a comparison looks at it
abbrev pub compared_column : Schema → Look → (t c : ℕ) → ExprTree
compared_column s look t c = compared_at (table s t).columns (look c) c

-- an expression over table t at the alias of number p, whose columns are looked at so; its numbers begin at n
abbrev mutual
  pub predicate : BexpTree → Schema → Mode → Look → (t p n : ℕ) → PredTree
  predicate always s m look t p n = tree.always
  predicate (and_of bs) s m look t p n = joined_by_and (predicates bs s m look t p n)
  predicate (or_of bs) s m look t p n = joined_by_or (predicates bs s m look t p n)
  predicate (not_of b) s m look t p n = tree.negation (predicate b s m look t p n)
  predicate (test c tested vs negated) s m look t p n = test_of (type_in (table s t).columns c) (tested_at (table s t).columns (look c) c tested) tested (operands_of vs) negated
  predicate (through r b) s m look t p n =
      tree.exists (remote_rows s m t p n (rel s t r) (columns_in b)
      (predicate b s m (m.look (rel s t r).remote (columns_in b) n) (rel s t r).remote n (inner_from m (rel s t r).remote (columns_in b) n)))
  predicate (exists_in u b) s m look t p n =
      tree.exists (counted_rows s m u n (columns_in b) tree.always (predicate b s m (m.look u (columns_in b) n) u n (inner_from m u (columns_in b) n)))
  predicate (two_columns l op r) s m look t p n = tree.test (compared_column s look t l) (Compare op) (compared_column s look t r ∷ [])

  pub predicates : BexpTrees → Schema → Mode → Look → (t p n : ℕ) → List PredTree
  predicates no_bexp s m look t p n = []
  predicates (bexp b bs) s m look t p n = predicate b s m look t p n ∷ predicates bs s m look t p (n + numbers b s m t)

-- in a filter and in a mask all remote rows count, with their own cells
abbrev pub filter_mode : Schema → Mode
filter_mode s = record {
  more = λ u. 0;
  guard = λ u n from. tree.always;
  extra = λ u cs. 0;
  joins = λ u cs n. [];
  look = λ u cs n. own_look (table s u).columns n;
}

-- a filter or a mask of table t
abbrev pub own_numbers : BexpTree → Schema → (t : ℕ) → ℕ
own_numbers b s t = numbers b s (filter_mode s) t

abbrev pub own_predicate : BexpTree → Schema → (t p n : ℕ) → PredTree
own_predicate b s t p n = predicate b s (filter_mode s) (own_look (table s t).columns p) t p n
