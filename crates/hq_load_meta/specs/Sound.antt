-- What the reader of filters says of a permission's filter.
use Rattle.std.specs.Prelude.{◌≡◌, ◌≤◌, ℕ, List, true}
use Rattle.std.specs.List.{AllByRecursion}
use Rattle.hq_base.specs.Json.{JsonTree}
use Rattle.hq_load_filter.specs.Nesting.{nesting}
use Rattle.hq_model.specs.Bexp.{depth}
use Rattle.hq_model.specs.Filters.{is_filter}
use Rattle.hq_model.specs.Fits.{asks_tracked}
use Rattle.hq_model.specs.Meta.{PermTree, TrackedTree, MetaTree}
use Rattle.hq_model.specs.Schema.{schema_of}
use Rattle.hq_model.specs.declared.table.Table.{Table}

-- JSON that nests no deeper than a file may
abbrev pub Shallow : JsonTree → Type 0
Shallow j = nesting j ≤ 127

-- the filter is one over table t, asks for tracked tables alone, and is not nested too deep
pub record Sound (tables : List Table) (m : MetaTree) (t : ℕ) (p : PermTree) : Type 0 where
  pub is : is_filter p.filter (schema_of tables m) t ≡ true
  pub tracked : asks_tracked m p.filter ≡ true
  pub shallow : depth p.filter ≤ 300

-- the filters of a table's permissions are
abbrev pub AllSound : List Table → MetaTree → ℕ → List PermTree → Type 0
AllSound tables m t ps = AllByRecursion (Sound tables m t) ps

-- the filters of all tables are
abbrev pub TablesSound : List Table → MetaTree → List TrackedTree → Type 0
TablesSound tables m ks = AllByRecursion (λ k. AllSound tables m k.table k.perms) ks
