-- When the permitted rows of a database under another schema are a copy of a view, and that a request is then answered alike over
-- both, each time in the numbers of its schema.
use Rattle.std.specs.Prelude.{◌≡◌, ℕ, List, length, true, Option, Some, slice_get}
use Rattle.hq_base.specs.Lists.{Zip}
use Rattle.hq_model.specs.Database.{Row}
use Rattle.hq_model.specs.Grants.{Grants, limits}
use Rattle.hq_model.specs.Permitted.{permitted, shown}
use Rattle.hq_model.specs.Schema.{Schema, table, rel}
use Rattle.hq_model.specs.Seen.{Sees, linked_by}
use Rattle.hq_model.specs.View.{View, view_rows, seen_in}
use Rattle.hq_request_tree.specs.Allowed.{Allowed}
use Rattle.hq_request_tree.specs.Fields.{FieldTrees}
use Rattle.hq_request_tree.specs.Resolve.{resolved}
use Rattle.hq_request_tree.specs.Standing.{AllStand}
use Rattle.hq_request_tree.specs.Uses.{UsesColumns, UsesAll}
use Rattle.hq_laws_isolation.specs.Laws.{resolved_in}
use Rattle.hq_laws_renumbered.specs.Resolving.Renumbering.{Renumbering, columns_over, fields_over}

-- Two ways of seeing, under two schemas. Q t x y: the row x of table t of the first is the row y of that table in the second. What
-- is allowed has rows that are related one by one, equal cells and equal links, leads to the same tables, and is looked up by the
-- same keys
pub record AlikeUnder {R S : Type 0} (s z : Schema) (n : Renumbering) (A : Sees R) (B : Sees S) (ok : Allowed) (Q : ℕ → R → S → Type 0) : Type 0 where
  pub rows : (t : ℕ) → ok.rows t ≡ true → Zip (Q t) (A.rows t) (B.rows (n.table t))
  pub cells : (t c : ℕ) (x : R) (y : S) → ok.column t c ≡ true → Q t x y → A.cell t x c ≡ B.cell (n.table t) y (n.column t c)
  pub links : (t r : ℕ) (x : R) (y : S) (u : R) (v : S) → ok.relationship t r ≡ true → Q t x y → Q (rel s t r).remote u v → A.linked t r x u ≡ B.linked (n.table t) (n.relationship t r) y v
  pub remotes : (t r : ℕ) → ok.relationship t r ≡ true → ok.rows (rel s t r).remote ≡ true
  pub leads : (t r : ℕ) (x : R) (y : S) → ok.relationship t r ≡ true → Q t x y → (rel z (n.table t) (n.relationship t r)).remote ≡ n.table (rel s t r).remote
  pub keys : (t : ℕ) → ok.rows t ≡ true → UsesColumns (table s t).key ok t → (table z (n.table t)).key ≡ columns_over (table s t).key n t

-- the row that stands at a position of the copy of table t, which is allowed
abbrev pub StandsAt : Schema → Renumbering → Allowed → Grants → List (List Row) → ℕ → ℕ → Row → Type 0
StandsAt z n ok g d t i row = (ok.rows t ≡ true) × (slice_get (permitted z g d (n.table t)) i ≡ Some row)

-- What makes the rows that are permitted of a database d under a schema z a copy of a view of schema s, for what is allowed: as many
-- rows; equal cells; linked where the view's pairs say so; relationships that lead to the copies of their tables; and, where all
-- columns of a key are allowed, the same key
pub record IsCopy (s z : Schema) (n : Renumbering) (v : View) (ok : Allowed) (g : Grants) (d : List (List Row)) : Type 0 where
  pub counts : (t : ℕ) → ok.rows t ≡ true → length (view_rows v t) ≡ length (permitted z g d (n.table t))
  pub cells : (t c i : ℕ) (row : Row) → ok.column t c ≡ true → StandsAt z n ok g d t i row → (seen_in v).cell t i c ≡ shown z g d (n.table t) row (n.column t c)
  pub links : (t r i : ℕ) (row : Row) (j : ℕ) (far : Row) → ok.relationship t r ≡ true → StandsAt z n ok g d t i row → StandsAt z n ok g d (rel s t r).remote j far
      → (seen_in v).linked t r i j ≡ linked_by (rel z (n.table t) (n.relationship t r)).pairs row far
  pub remotes : (t r : ℕ) → ok.relationship t r ≡ true → ok.rows (rel s t r).remote ≡ true
  pub leads : (t r : ℕ) → ok.rows t ≡ true → ok.relationship t r ≡ true → (rel z (n.table t) (n.relationship t r)).remote ≡ n.table (rel s t r).remote
  pub keys : (t : ℕ) → ok.rows t ≡ true → UsesColumns (table s t).key ok t → (table z (n.table t)).key ≡ columns_over (table s t).key n t

-- the same limits on the rows of a list
abbrev pub LimitsAlike : Renumbering → Allowed → (ℕ → Option ℕ) → Grants → Type 0
LimitsAlike n ok k g = (t : ℕ) → ok.rows t ≡ true → k t ≡ limits g (n.table t)

-- fields that use what is allowed are answered over a view as the renumbered fields are over a copy of it
abbrev pub AnsweredAlike : FieldTrees → (s z : Schema) → Renumbering → View → Allowed → (ℕ → Option ℕ) → Grants → List (List Row) → Type 0
AnsweredAlike fs s z n v ok k g d =
    IsCopy s z n v ok g d → LimitsAlike n ok k g → AllStand fs s (length s) → UsesAll fs s ok (length s)
    → resolved_in fs s k v ≡ resolved (fields_over fs s n (length s)) z g d
