-- What is known of a WHERE: at which rows of its FROM the conjuncts are true that mention nothing else, and which others it has.
use Rattle.std.specs.Prelude.{◌≡◌, ◌&&◌, ℕ, ◌<◌, ◌≤◌, List, length, false, slice_index_or, []}
use Rattle.hq_sql_conjuncts.specs.Conjuncts.{all_kept, lent_views, lent_weight}
use Rattle.hq_sql_conjuncts.specs.Weight.{pred_weight}
use Rattle.hq_sql_tree.specs.Meaning.{NamedRow, Scope as Names, World, with_alias, kept}
use Rattle.hq_sql_tree.specs.Tree.{JoinTrees, no_join, FilterTree, filter}
use Rattle.hq_sql_tree.specs.View.{from_view, pred_view}
use Rattle.hq_sql_access.specs.Sources.{alias_in, rows_given}
use Rattle.hq_sql_access.specs.declared.pinned.KnownRows.{KnownRows}

-- WHERE keeps a row in a scope exactly where its truth is known to be true, and the other conjuncts are true there
abbrev pub Tells : FilterTree → World → KnownRows → (position : ℕ) → Names → Type 0
Tells f w known position scope = kept f w scope ≡ (slice_index_or known.truths.items position false && all_kept (lent_views known.rest.items) w scope)

-- over these rows of an alias, whatever is in scope around them
pub record Knows (w : World) (rows : List NamedRow) (alias : List ℕ) (f : FilterTree) (known : KnownRows) : Type 0 where
  pub whole : length known.truths.items ≡ length rows
  pub tells : (scope : Names) (i : ℕ) → i < length known.truths.items → Tells f w known i (with_alias scope alias (slice_index_or rows i []))

-- over such rows without joins
pub record IsKnown (w : World) (rows : List NamedRow) (alias : List ℕ) (js : JoinTrees) (f : FilterTree) (known : KnownRows) : Type 0 where
  pub alone : js ≡ no_join
  pub knows : Knows w rows alias f known

-- it is right of its own condition, and the other conjuncts are no more than that
pub record IsRight (w : World) (known : KnownRows) : Type 0 where
  pub knows : (made : List NamedRow) → Knows w (rows_given (from_view known.from.now) w made) (alias_in (from_view known.from.now)) (filter (pred_view known.filter.now)) known
  pub lighter : lent_weight known.rest.items ≤ pred_weight known.filter.now
