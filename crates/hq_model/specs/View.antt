-- What a session can tell of a database: its view. Two databases agree for a session where their views are equal.
use Rattle.std.specs.Prelude.{◌≡◌, ℕ, suc, List, [], ◌∷◌, ◌++◌, map, Bool, cond, ◌&&◌, ◌==◌, Option, Some, None, slice_index_or, unwrap_or}
use Rattle.std.specs.List.{list_any}
use Rattle.hq_base.specs.Cells.{CellTree, null}
use Rattle.hq_model.specs.Database.{Row}
use Rattle.hq_model.specs.Grants.{Grants}
use Rattle.hq_model.specs.Permission.{Permission}
use Rattle.hq_model.specs.Permitted.{permitted, permitted_under, shown_under}
use Rattle.hq_model.specs.Schema.{Schema, numbered}
use Rattle.hq_model.specs.Seen.{Sees, linked_by}
use Rattle.hq_model.specs.declared.meta.Rel.{Rel}

-- a row cut down to the permitted columns, each with its shown cell
abbrev pub Cut : Type 0
Cut = List (ℕ × CellTree)

-- for each table its permitted rows, none where nothing of it is granted; and for each relationship of each table the
-- pairs of positions in those lists whose rows are linked
pub record View : Type 0 where
  pub tables : List (Option (List Cut))
  pub links : List (List (List (ℕ × ℕ)))

-- the columns of a row with their cells
abbrev pub cut : List ℕ → (ℕ → CellTree) → Cut
cut cs cell = map (λ c. (c, cell c)) cs

-- the permitted rows of a table, each cut down to the permitted columns
abbrev pub cut_rows : Permission → Schema → List (List Row) → ℕ → List Cut
cut_rows p s d t = map (λ row. cut p.columns (shown_under p s d t row)) (permitted_under p s d t)

-- the entry of a table, none where nothing of it is granted
abbrev pub view_table : Schema → List (List Row) → ℕ → Option Permission → Option (List Cut)
view_table s d t None = None
view_table s d t (Some p) = Some (cut_rows p s d t)

-- the places, counted from k, of the items at which a test is true
abbrev pub places_from : {A : Type 0} → (A → Bool) → ℕ → List A → List ℕ
places_from test k [] = []
places_from test k (x ∷ xs) = cond (test x) (k ∷ places_from test (suc k) xs) (places_from test (suc k) xs)

-- the pairs of places, the first counted from k, of the items that are linked
abbrev pub pairs_from : {A B : Type 0} → (A → B → Bool) → ℕ → List A → List B → List (ℕ × ℕ)
pairs_from test k [] ys = []
pairs_from test k (x ∷ xs) ys = map (λ j. (k, j)) (places_from (test x) 0 ys) ++ pairs_from test (suc k) xs ys

-- the pairs of positions whose rows are linked by a relationship
abbrev pub view_links : Schema → Grants → List (List Row) → ℕ → Rel → List (ℕ × ℕ)
view_links s g d t r = pairs_from (linked_by r.pairs) 0 (permitted s g d t) (permitted s g d r.remote)

-- the view of a database
abbrev pub view : Schema → Grants → List (List Row) → View
view s g d = record {
  tables = numbered (view_table s d) 0 g;
  links = numbered (λ t table. map (view_links s g d t) table.rels) 0 s;
}

-- two databases agree
abbrev pub Agree : Schema → Grants → (d e : List (List Row)) → Type 0
Agree s g d e = view s g d ≡ view s g e

-- the rows of a table in a view, none where it has no entry
abbrev pub view_rows : View → ℕ → List Cut
view_rows v t = unwrap_or (slice_index_or v.tables t None) []

-- the cell of a column in a row of a view; NULL where it has none
abbrev pub cut_cell : Cut → ℕ → CellTree
cut_cell [] c = null
cut_cell (e ∷ es) c = cond (e.0 == c) e.1 (cut_cell es c)

-- a pair of positions stands in a list
abbrev pub has_pair : List (ℕ × ℕ) → ℕ → ℕ → Bool
has_pair ps i j = list_any (λ p. (p.0 == i) && (p.1 == j)) ps

-- what is seen in a view: a row is its position
abbrev pub seen_in : View → Sees ℕ
seen_in v = record {
  rows = λ t. numbered (λ k row. k) 0 (view_rows v t);
  cell = λ t i c. cut_cell (slice_index_or (view_rows v t) i []) c;
  linked = λ t r. has_pair (slice_index_or (slice_index_or v.links t []) r []);
}
