-- The rows of a select under an alias, as places, and what aggregates are taken over there.
use Rattle.std.specs.Prelude.{◌≡◌, ℕ, List, [], map}
use Rattle.hq_sql_tree.specs.Tree.{ExprTree}
use Rattle.hq_sql_tree.specs.declared.select.Select.{Select}
use Rattle.hq_sql_tree.specs.Meaning.{Scope as Names, World, cell_named, outputs, rows_of, value, with_alias}
use Rattle.hq_sql_tree.specs.View.{out_view, select_view}
use Rattle.hq_sql_access.specs.View.{names_of, world_of}
use Rattle.hq_sql_access.specs.declared.pinned.Pinned.{Pinned}
use Rattle.hq_sql_access.specs.declared.scope.Scope.{Scope}
use Rattle.hq_sql_output.specs.Placed.{names_in}
use Rattle.hq_sql_output.specs.declared.grouped.Grouped.{Grouped}

-- what is in scope at each row of outputs
abbrev pub group_in : Grouped → World → Names → List Names
group_in g world names = map (with_alias names g.alias.now) (map (outputs (map out_view g.outs.now) []) (map (names_in g.placed world names) g.places.now))

-- the same among what is lent
abbrev pub group_at : Grouped → Pinned → Scope → List Names
group_at g world scope = group_in g (world_of world) (names_of scope world)

-- these are the rows of a select
abbrev pub AreRows : Grouped → Select → World → Names → Type 0
AreRows g select world names = group_in g world names ≡ map (with_alias names g.alias.now) (rows_of (select_view select) world names)

-- an expression over the rows is this column of their FROM, beside which no join stands
pub record IsColumn (e : ExprTree) (g : Grouped) (name : List ℕ) : Type 0 where
  pub alone : g.placed.joins.now ≡ []
  pub value : (outer names : Names) → value e [] (with_alias outer g.alias.now (outputs (map out_view g.outs.now) [] names)) ≡ cell_named (names g.placed.alias.now) name
