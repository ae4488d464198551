-- The metadata of a copy: one role that sees what is copied, and the names of the original (Hasura, Metadata format).
use Rattle.std.specs.Prelude.{ℕ, List, [], ◌∷◌, ◌++◌, ◌+◌, map, length, option_map, unwrap_or, slice_index_or, codes}
use Rattle.std.specs.List.{position_or_len}
use Rattle.hq_model.specs.Bexp.{always}
use Rattle.hq_model.specs.Meta.{PermTree, TrackedTree, MetaTree}
use Rattle.hq_model.specs.Permission.{Permission, permission}
use Rattle.hq_model.specs.Schema.{Schema, rel, numbered}
use Rattle.hq_model.specs.declared.meta.Pair.{Pair}
use Rattle.hq_model.specs.declared.meta.Rel.{Rel}
use Rattle.hq_model.specs.declared.role.Role.{Role}
use Rattle.hq_copy_definition.specs.Extras.{ends_of, is_from_end, is_to_end, extra_name, extras_of}
use Rattle.hq_copy_definition.specs.Sources.{Source, sources, table_place, kept_relationships, Link}

-- the role that sees all that is copied
abbrev pub reader : List ℕ
reader = codes "reader"

-- how many columns of a table are permitted
abbrev pub width : Role → MetaTree → ℕ → ℕ
width role m t = unwrap_or (option_map (λ p. length p.columns) (permission role m t)) 0

-- the place in the copy of the own end of a link in its table, and of the remote end in the remote table
abbrev pub from_place : Role → MetaTree → Schema → ℕ → Link → ℕ
from_place role m s t l = width role m t + position_or_len (is_from_end l) (ends_of role m s t)

abbrev pub to_place : Role → MetaTree → Schema → ℕ → Link → ℕ
to_place role m s t l = width role m t + position_or_len (is_to_end l) (ends_of role m s t)

-- the one pair of a relationship: its two ends
abbrev pub copied_pair : Role → MetaTree → Schema → ℕ → ℕ → Pair
copied_pair role m s t r = record {
  own = from_place role m s t (record { table = t; relationship = r });
  remote = to_place role m s (rel s t r).remote (record { table = t; relationship = r });
}

-- a relationship of table t: its name and its kind, and the new pair
abbrev pub copied_rel : Role → MetaTree → Schema → ℕ → ℕ → Rel
copied_rel role m s t r = record {
  name = (rel s t r).name;
  remote = table_place (sources role m) (rel s t r).remote;
  pairs = copied_pair role m s t r ∷ [];
  many = (rel s t r).many;
}

-- the numbers from k on, as many as a list is long
abbrev pub places : {A : Type 0} → ℕ → List A → List ℕ
places k xs = numbered (λ i x. i) k xs

-- what the reader may see of a table: the permitted columns of all rows, with the limit and the aggregates of the original
abbrev pub reader_permission : Permission → PermTree
reader_permission p = record { role = reader; cols = places 0 p.columns; filter = always; limit = p.limit; aggregations = p.aggregations }

-- the GraphQL names of columns: those of the original, and of an added one its name
abbrev pub copied_names : Role → MetaTree → Schema → Source → List (List ℕ)
copied_names role m s o =
    map (λ c. slice_index_or o.entry.column_names c []) o.permission.columns
    ++ map extra_name (extras_of role m s o)

-- the entry of the table at place u of the copy
abbrev pub copied_entry : Role → MetaTree → Schema → ℕ → Source → TrackedTree
copied_entry role m s u o = record {
  table = u;
  name = o.entry.name;
  column_names = copied_names role m s o;
  roots = o.entry.roots;
  rels = map (copied_rel role m s o.entry.table) (kept_relationships role m s o.entry.table);
  perms = reader_permission o.permission ∷ [];
}

-- the metadata: all tables are tracked, in their order, and there is no inherited role
abbrev pub copied_meta : Role → MetaTree → Schema → MetaTree
copied_meta role m s = record { tracked = numbered (copied_entry role m s) 0 (sources role m); inherited = [] }
