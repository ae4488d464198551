-- What a request is granted, without where it lies in memory.
use Rattle.std.specs.Prelude.{ℕ, List, [], ◌∷◌, ◌++◌, map, Option, option_map, option_and_then, slice_get}
use Rattle.hq_model.specs.Bexp.{BexpTree, bexp_view}
use Rattle.hq_model.specs.Meta.{MetaTree}
use Rattle.hq_model.specs.PermView.{mask_view}
use Rattle.hq_model.specs.Permission.{Mask, Permission, option_list, permission}
use Rattle.hq_model.specs.declared.role.Role.{Role}
use Rattle.hq_model.specs.declared.table.Table.{Table}
use Rattle.hq_request_tree.specs.Request.{BoundTree}
use Rattle.hq_compile_tables.specs.declared.context.Granted.{Granted}

-- a table with its bound filter, the most rows of a list, and the bound masks
pub record GrantedTree : Type 0 where
  pub table : ℕ
  pub filter : BexpTree
  pub limit : Option ℕ
  pub masks : List Mask

abbrev pub granted_view : Granted → GrantedTree
granted_view g = record { table = g.table; filter = bexp_view g.filter; limit = g.limit; masks = map mask_view g.masks.items }

-- what is granted of a touched table under this limit, and under the role's permission
abbrev pub granted_with : BoundTree → Option ℕ → GrantedTree
granted_with b limit = record { table = b.table; filter = b.filter; limit = limit; masks = b.masks }

abbrev pub granted_under : BoundTree → Permission → GrantedTree
granted_under b p = granted_with b p.limit

-- nothing of a table beyond the catalog, or where the role has no permission
abbrev pub granted_for : Role → List Table → MetaTree → BoundTree → Option GrantedTree
granted_for role tables m b = option_and_then (λ table. option_map (granted_under b) (permission role m b.table)) (slice_get tables b.table)

abbrev pub granted_all : Role → List Table → MetaTree → List BoundTree → List GrantedTree
granted_all role tables m [] = []
granted_all role tables m (b ∷ bs) = option_list (granted_for role tables m b) ++ granted_all role tables m bs
