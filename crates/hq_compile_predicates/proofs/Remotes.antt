-- A condition on rows of another table, put together from its parts.
use Rattle.std.proofs.Common.{◌≡◌, ℕ, ◌+◌, List, [], ◌++◌, refl}
use Rattle.hq_model.specs.Bexp.{BexpTree, through, exists_in}
use Rattle.hq_model.specs.Schema.{Schema, rel}
use Rattle.hq_sql_tree.specs.Tree as tree
use Rattle.hq_sql_tree.specs.Tree.{JoinTree, PredTree}
use Rattle.hq_translation.specs.Conditions.{with_member, where_of}
use Rattle.hq_translation.specs.Looks.{Look}
use Rattle.hq_translation.specs.Predicates.{Mode, columns_in, counted_rows, inner_from, link, predicate}
use Rattle.hq_compile_tables.specs.Selects.{exists_where}
use Rattle.hq_compile_tables.proofs.Members.{two_members, three_members}

module _ (s : Schema) (m : Mode) (b : BexpTree) where
  -- a row of table u at the alias of number n is tied to what stands around, counts, and meets the expression
  abbrev pub counted_at : (u n : ℕ) → (tie : PredTree) → PredTree
  counted_at u n tie = tree.exists (counted_rows s m u n (columns_in b) tie (predicate b s m (m.look u (columns_in b) n) u n (inner_from m u (columns_in b) n)))

  -- the parts by the names that they have in the code
  pub counted_of : (u n j k l : ℕ) (tie : PredTree) (joins : List JoinTree) (look : Look) (first second : List PredTree) (inner pred : PredTree)
      → pred ≡ exists_where s u n joins (where_of (second ++ with_member inner [])) → inner ≡ predicate b s m look u n l → l ≡ k + m.more u
      → second ≡ first ++ with_member (m.guard u n k) [] → first ≡ with_member tie [] → look ≡ m.look u (columns_in b) n → joins ≡ m.joins u (columns_in b) n
      → k ≡ j + m.extra u (columns_in b) → j ≡ n + 1
      → pred ≡ counted_at u n tie
  counted_of u n j k l tie joins look first second inner pred is inner-is l-is second-is first-is look-is joins-is k-is j-is =
      let two = two_members second first tie (m.guard u n k) _ second-is first-is refl in
      let three = three_members (second ++ with_member inner []) second tie (m.guard u n k) inner inner refl two refl in
      rw (is, three, inner-is, look-is, joins-is, l-is, k-is, j-is) refl

  -- such a row behind a relationship
  pub remote_of : (t p r u n next : ℕ) (tie : PredTree) (look : Look) (pred : PredTree)
      → pred ≡ counted_at u n tie → tie ≡ link s t (rel s t r) p n → u ≡ (rel s t r).remote → n ≡ next
      → pred ≡ predicate (through r b) s m look t p next
  remote_of t p r u n next tie look pred is tie-is u-is n-is = rw (is, tie-is, u-is, n-is) refl

  -- such a row by itself
  pub row_of : (u n t p next : ℕ) (tie : PredTree) (look : Look) (pred : PredTree) → pred ≡ counted_at u n tie → tie ≡ tree.always → n ≡ next
      → pred ≡ predicate (exists_in u b) s m look t p next
  row_of u n t p next tie look pred is tie-is n-is = rw (is, tie-is, n-is) refl
