-- Which tables, columns and relationships of a database a copy holds for a role (Hasura, Authorization: select permissions).
use Rattle.std.specs.Prelude.{ℕ, List, [], ◌∷◌, map, flat_map, Bool, ◌&&◌, ◌==◌, Option, Some, None, is_some}
use Rattle.std.specs.List.{list_all, list_any, position_or_len}
use Rattle.hq_model.specs.Meta.{TrackedTree, MetaTree}
use Rattle.hq_model.specs.Permission.{Permission, permission}
use Rattle.hq_model.specs.Schema.{Schema, table, rel}
use Rattle.hq_model.specs.View.{places_from}
use Rattle.hq_model.specs.declared.role.Role.{Role}

-- what a table of the copy stands for: a tracked table, and what the role may see of it
pub record Source : Type 0 where
  pub entry : TrackedTree
  pub permission : Permission

-- a table that the role may see something of, before others
abbrev pub with_source : TrackedTree → Option Permission → List Source → List Source
with_source k None os = os
with_source k (Some p) os = record { entry = k; permission = p } ∷ os

-- those of tracked tables of which the role may see something, in tracked order
abbrev pub sources_in : Role → MetaTree → List TrackedTree → List Source
sources_in role m [] = []
sources_in role m (k ∷ ks) = with_source k (permission role m k.table) (sources_in role m ks)

-- the tables of the copy
abbrev pub sources : Role → MetaTree → List Source
sources role m = sources_in role m m.tracked

-- the place of a table in the copy, behind the last one where it is not copied
abbrev pub table_place : List Source → ℕ → ℕ
table_place os t = position_or_len (λ o. o.entry.table == t) os

-- the place of a number in a list of different ones, behind the last one where it is not among them
abbrev pub place_in : List ℕ → ℕ → ℕ
place_in ns n = position_or_len (λ m. m == n) ns

-- the relationships of a table that are kept: those to tables that the role may see something of
abbrev pub kept_relationships : Role → MetaTree → Schema → ℕ → List ℕ
kept_relationships role m s t = places_from (λ r. is_some (permission role m r.remote)) 0 (table s t).rels

-- the key is kept where all its columns are permitted
abbrev pub keeps_key : Permission → List ℕ → Bool
keeps_key p key = list_all (λ c. list_any (λ d. d == c) p.columns) key

-- a column shows in some rows only
abbrev pub has_mask : Permission → ℕ → Bool
has_mask p c = list_any (λ m. m.column == c) p.masks

-- a relationship of a table of the copy, by the places of both in the original
pub record Link : Type 0 where
  pub table : ℕ
  pub relationship : ℕ

-- all relationships between copied tables, by table and relationship
abbrev pub links : Role → MetaTree → Schema → List Link
links role m s =
    flat_map (λ o. map (λ r. record { table = o.entry.table; relationship = r }) (kept_relationships role m s o.entry.table)) (sources role m)

-- the remote table of a link
abbrev pub link_remote : Schema → Link → ℕ
link_remote s l = (rel s l.table l.relationship).remote

-- two links are one
abbrev pub same_link : Link → Link → Bool
same_link l k = (l.table == k.table) && (l.relationship == k.relationship)
