-- The generated metadata: both relationships between authors and articles, and what the role `user` may see (Hasura, Metadata
-- format; Authorization: row and column permissions).
use Rattle.std.specs.Prelude.{ℕ, List, [], ◌∷◌, Bool, true, false, None, codes}
use Rattle.hq_base.specs.declared.value.Val.TheVariants as val
use Rattle.hq_model.specs.Bexp.{BexpTree, always, or_of, test, bexp, no_bexp}
use Rattle.hq_model.specs.Meta.{PermTree, TrackedTree, MetaTree}
use Rattle.hq_model.specs.declared.bexp.Operand.{Operand}
use Rattle.hq_model.specs.declared.bexp.Operand.TheVariants.{Const, Session}
use Rattle.hq_model.specs.declared.bexp.Operands.TheVariants as operands
use Rattle.hq_model.specs.declared.meta.Pair.{Pair}
use Rattle.hq_model.specs.declared.meta.Rel.{Rel}
use Rattle.hq_model.specs.declared.meta.RootNames.{RootNames}
use Rattle.hq_model.specs.declared.op.Op.TheVariants.{Eq}
use Rattle.hq_model.specs.declared.test.Test.TheVariants.{Compare}

-- a relationship by one pair of columns
abbrev pub rel_of : (name : List ℕ) → (remote : ℕ) → Pair → (many : Bool) → Rel
rel_of name remote pair many = record { name = name; remote = remote; pairs = pair ∷ []; many = many }

-- a tracked table with one permission
abbrev pub tracked_of : (table : ℕ) → (name : List ℕ) → (column_names : List (List ℕ)) → RootNames → List Rel → PermTree → TrackedTree
tracked_of table name column_names roots rels perm = record { table = table; name = name; column_names = column_names; roots = roots; rels = rels; perms = perm ∷ [] }

-- the GraphQL names of the columns
abbrev pub author_names : List (List ℕ)
author_names = codes "id" ∷ codes "name" ∷ codes "email" ∷ []

abbrev pub article_names : List (List ℕ)
article_names = codes "id" ∷ codes "author_id" ∷ codes "title" ∷ codes "published" ∷ codes "rating" ∷ []

abbrev pub author_roots : RootNames
author_roots = record { select = codes "author"; select_aggregate = codes "author_aggregate"; select_by_pk = codes "author_by_pk" }

abbrev pub article_roots : RootNames
article_roots = record { select = codes "article"; select_aggregate = codes "article_aggregate"; select_by_pk = codes "article_by_pk" }

-- a user sees the ids and names of all authors
abbrev pub author_perm : PermTree
author_perm = record { role = codes "user"; cols = 0 ∷ 1 ∷ []; filter = always; limit = None; aggregations = false }

-- a column is equal to an operand
abbrev pub equals : (column : ℕ) → Operand → BexpTree
equals c v = test c (Compare Eq) (operands.List (v ∷ [])) false

-- the articles that are published, or whose author asks
abbrev pub article_filter : BexpTree
article_filter =
    or_of (bexp (equals 3 (Const (val.Bool true))) (bexp (equals 1 (Session (codes "x-hasura-user-id"))) no_bexp))

-- of these a user sees ids, titles and ratings, and aggregates
abbrev pub article_perm : PermTree
article_perm = record { role = codes "user"; cols = 0 ∷ 2 ∷ 4 ∷ []; filter = article_filter; limit = None; aggregations = true }

-- the array relationship `articles`
abbrev pub author_tracked : TrackedTree
author_tracked = record {
  table = 0;
  name = codes "author";
  column_names = author_names;
  roots = author_roots;
  rels = rel_of (codes "articles") 1 (record { own = 0; remote = 1 }) true ∷ [];
  perms = author_perm ∷ [];
}

-- the object relationship `author`
abbrev pub article_tracked : TrackedTree
article_tracked = record {
  table = 1;
  name = codes "article";
  column_names = article_names;
  roots = article_roots;
  rels = rel_of (codes "author") 0 (record { own = 1; remote = 0 }) false ∷ [];
  perms = article_perm ∷ [];
}

abbrev pub metadata : MetaTree
metadata = record { tracked = author_tracked ∷ article_tracked ∷ []; inherited = [] }
