-- The tables that a request touches: at each field its own table, then those that its `where` reaches, then those that its
-- `order_by` reaches, then those of the fields below it.
use Rattle.std.specs.Prelude.{ℕ, List, [], ◌∷◌, ◌++◌, flat_map, ◌==◌}
use Rattle.hq_base.specs.Lists.{firsts}
use Rattle.hq_model.specs.Bexp.{BexpTree, always, and_of, or_of, not_of, test, through, exists_in, two_columns, BexpTrees, no_bexp, bexp}
use Rattle.hq_model.specs.Schema.{Schema, rel}
use Rattle.hq_model.specs.Selected.{ListArguments}
use Rattle.hq_request_tree.specs.Fields.{FieldTrees, no_field, field, FieldTree, column, typename, no_queries, object, list, by_key, aggregate, introspect, PartTrees, no_part, part, PartTree, summary, nodes, part_typename}
use Rattle.hq_request_tree.specs.Resolve.{origin_table}

-- the remote tables of a condition over table t, and those whose rows it asks for by themselves
abbrev mutual
  pub condition_tables : BexpTree → Schema → ℕ → List ℕ
  condition_tables always s t = []
  condition_tables (and_of bs) s t = conditions_tables bs s t
  condition_tables (or_of bs) s t = conditions_tables bs s t
  condition_tables (not_of b) s t = condition_tables b s t
  condition_tables (test c tested vs negated) s t = []
  condition_tables (through r b) s t = (rel s t r).remote ∷ condition_tables b s (rel s t r).remote
  condition_tables (exists_in u b) s t = u ∷ condition_tables b s u
  condition_tables (two_columns l op r) s t = []

  pub conditions_tables : BexpTrees → Schema → ℕ → List ℕ
  conditions_tables no_bexp s t = []
  conditions_tables (bexp b bs) s t = condition_tables b s t ++ conditions_tables bs s t

-- the remote tables of relationships, each of the table before
abbrev pub path_tables : (through : List ℕ) → Schema → ℕ → List ℕ
path_tables [] s t = []
path_tables (r ∷ rs) s t = (rel s t r).remote ∷ path_tables rs s (rel s t r).remote

-- a list of rows of table u: the table itself, and those that its arguments reach
abbrev pub list_tables : ListArguments → Schema → ℕ → List ℕ
list_tables a s u = u ∷ condition_tables a.wanted s u ++ flat_map (λ k. path_tables k.through s u) a.sorts

-- the tables that fields at a row of table t touch, in the order in which they are come upon
abbrev mutual
  pub tables_of : FieldTrees → Schema → ℕ → List ℕ
  tables_of no_field s t = []
  tables_of (field key f fs) s t = field_tables f s t ++ tables_of fs s t

  pub field_tables : FieldTree → Schema → ℕ → List ℕ
  field_tables (column c) s t = []
  field_tables (typename name) s t = []
  field_tables no_queries s t = []
  field_tables (object r fs) s t = (rel s t r).remote ∷ tables_of fs s (rel s t r).remote
  field_tables (list o a fs) s t = list_tables a s (origin_table o s t) ++ tables_of fs s (origin_table o s t)
  field_tables (by_key u key fs) s t = u ∷ tables_of fs s u
  field_tables (aggregate o a ps) s t = list_tables a s (origin_table o s t) ++ part_tables ps s (origin_table o s t)
  field_tables (introspect f) s t = []

  pub part_tables : PartTrees → Schema → ℕ → List ℕ
  part_tables no_part s u = []
  part_tables (part key p ps) s u = one_part_tables p s u ++ part_tables ps s u

  pub one_part_tables : PartTree → Schema → ℕ → List ℕ
  one_part_tables (summary fs) s u = []
  one_part_tables (nodes fs) s u = tables_of fs s u
  one_part_tables (part_typename name) s u = []

-- the touched tables, each once, in the order of the first touch
abbrev pub touched : FieldTrees → Schema → (root : ℕ) → List ℕ
touched fs s root = firsts (λ t u. t == u) (tables_of fs s root)
