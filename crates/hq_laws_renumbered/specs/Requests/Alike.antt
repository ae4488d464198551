-- When tables z hold what may be seen of tables s, under other numbers.
use Rattle.std.specs.Prelude.{◌≡◌, ℕ, Some, true}
use Rattle.hq_laws_renumbered.specs.Resolving.Renumbering.{Renumbering, columns_over}
use Rattle.hq_schema_roles.specs.Access.{Access}
use Rattle.hq_model.specs.Schema.{Schema, table, column, rel}
use Rattle.hq_model.specs.declared.meta.Rel.{Rel}
use Rattle.hq_laws_renumbered.specs.Requests.OfRole.{IsKeyed}

-- Permitted columns have the same types, and different ones of one table have different numbers; a relationship between tables that are
-- seen leads to the same table; and a key all of whose columns are permitted is the same key
pub record TablesAlike (s z : Schema) (n : Renumbering) (a : Access) : Type 0 where
  pub types : (t c : ℕ) → a.column t c ≡ true → (column z (n.table t) (n.column t c)).ty ≡ (column s t c).ty
  pub columns : (t c d : ℕ) → a.column t c ≡ true → a.column t d ≡ true → n.column t c ≡ n.column t d → c ≡ d
  pub leads : (t r : ℕ) (q : Rel) → a.seen t ≡ true → a.rel t r ≡ Some q → a.seen q.remote ≡ true
      → ((rel s t r).remote ≡ q.remote) × ((rel z (n.table t) (n.relationship t r)).remote ≡ n.table q.remote)
  pub keys : (t : ℕ) → a.seen t ≡ true → IsKeyed s a t → (table z (n.table t)).key ≡ columns_over (table s t).key n t
