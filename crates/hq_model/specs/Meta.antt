-- What metadata says, without where it lies in memory (Hasura, Metadata format).
use Rattle.std.specs.Prelude.{ℕ, List, map, find, Bool, Option, ◌==◌}
use Rattle.hq_model.specs.Bexp.{BexpTree, bexp_view}
use Rattle.hq_model.specs.declared.meta.RootNames.{RootNames}
use Rattle.hq_model.specs.declared.meta.Rel.{Rel}
use Rattle.hq_model.specs.declared.meta.Perm.{Perm}
use Rattle.hq_model.specs.declared.meta.Tracked.{Tracked}
use Rattle.hq_model.specs.declared.meta.Inherited.{Inherited}
use Rattle.hq_model.specs.declared.meta.Meta.{Meta}

-- a select permission of a role
pub record PermTree : Type 0 where
  pub role : List ℕ
  pub cols : List ℕ
  pub filter : BexpTree
  pub limit : Option ℕ
  pub aggregations : Bool

-- a tracked table
pub record TrackedTree : Type 0 where
  pub table : ℕ
  pub name : List ℕ
  pub column_names : List (List ℕ)
  pub roots : RootNames
  pub rels : List Rel
  pub perms : List PermTree

-- the metadata
pub record MetaTree : Type 0 where
  pub tracked : List TrackedTree
  pub inherited : List Inherited

-- what a permission is seen as
abbrev pub perm_view : Perm → PermTree
perm_view p = record {
  role = p.role;
  cols = p.cols;
  filter = bexp_view p.filter;
  limit = p.limit;
  aggregations = p.aggregations;
}

-- what a tracked table is seen as
abbrev pub tracked_view : Tracked → TrackedTree
tracked_view t = record {
  table = t.table;
  name = t.name;
  column_names = t.column_names;
  roots = t.roots;
  rels = t.rels;
  perms = map perm_view t.perms;
}

-- what a metadata is seen as
abbrev pub meta_view : Meta → MetaTree
meta_view m = record { tracked = map tracked_view m.tracked; inherited = m.inherited }

-- the entry of a table, where it is tracked
abbrev pub tracked_table : MetaTree → ℕ → Option TrackedTree
tracked_table m t = find (λ k. k.table == t) m.tracked
