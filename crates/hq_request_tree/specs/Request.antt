-- A typed request, without where it lies in memory, and what it grants.
use Rattle.std.specs.Prelude.{ℕ, List, map, find, Option, option_map, option_and_then, ◌==◌}
use Rattle.hq_model.specs.Bexp.{BexpTree, bexp_view}
use Rattle.hq_model.specs.Grants.{Grants}
use Rattle.hq_model.specs.Meta.{MetaTree}
use Rattle.hq_model.specs.PermView.{mask_view}
use Rattle.hq_model.specs.Permission.{Mask, Permission, permission}
use Rattle.hq_model.specs.Schema.{Schema, numbered}
use Rattle.hq_model.specs.declared.role.Role.{Role}
use Rattle.hq_request_tree.specs.declared.ask.Ask.{Ask}
use Rattle.hq_request_tree.specs.declared.ask.Bound.{Bound}
use Rattle.hq_request_tree.specs.Fields.{FieldTrees, fields_of, keyed_field_view}

-- a touched table with the bound filter and the bound masks of the role's permission
pub record BoundTree : Type 0 where
  pub table : ℕ
  pub filter : BexpTree
  pub masks : List Mask

-- the role, the root fields under their response keys, and the touched tables
pub record AskTree : Type 0 where
  pub role : Role
  pub fields : FieldTrees
  pub bound : List BoundTree

-- what a touched table is seen as
abbrev pub bound_view : Bound → BoundTree
bound_view b = record { table = b.table; filter = bexp_view b.filter; masks = map mask_view b.masks.items }

-- what a typed request is seen as
abbrev pub ask_view : Ask → AskTree
ask_view a = record {
  role = a.role;
  fields = fields_of (map keyed_field_view a.fields.items);
  bound = map bound_view a.bound;
}

-- the entry of a touched table
abbrev pub bound_table : List BoundTree → ℕ → Option BoundTree
bound_table bs t = find (λ b. b.table == t) bs

-- a permission with the filter and the masks that are bound in its place
abbrev pub with_bound : Permission → BoundTree → Permission
with_bound p b = record p { filter = b.filter; masks = b.masks }

-- what a request grants of a table: the permission of its role with what is bound, and nothing of a table that is not touched
abbrev pub grant_in : AskTree → MetaTree → ℕ → Option Permission
grant_in a m t = option_and_then (λ p. option_map (with_bound p) (bound_table a.bound t)) (permission a.role m t)

-- what a request grants
abbrev pub grants_in : AskTree → MetaTree → Schema → Grants
grants_in a m s = numbered (λ t table. grant_in a m t) 0 s
