-- A request in the numbers of another schema. Tables, columns and relationships are known by their places, and a copy that has fewer
-- of them has them at other places.
use Rattle.std.specs.Prelude.{◌≡◌, ℕ, true, List, [], ◌∷◌, map, option_map}
use Rattle.hq_model.specs.Bexp.{BexpTree, always, and_of, or_of, not_of, test, through, exists_in, two_columns, BexpTrees, no_bexp, bexp}
use Rattle.hq_model.specs.Schema.{Schema, rel}
use Rattle.hq_model.specs.Selected.{SortKey, ListArguments}
use Rattle.hq_request_tree.specs.Allowed.{Allowed}
use Rattle.hq_request_tree.specs.Fields.{Origin, from_table, along, FieldTrees, no_field, field, FieldTree, column, typename, no_queries, object, list, by_key, aggregate, introspect, PartTrees, no_part, part, PartTree, summary, nodes, part_typename}
use Rattle.hq_request_tree.specs.Resolve.{origin_table}
use Rattle.hq_request_tree.specs.declared.aggregate.AggCol.{AggCol}
use Rattle.hq_request_tree.specs.declared.aggregate.AggCol.TheVariants as of
use Rattle.hq_request_tree.specs.declared.aggregate.AggField.{AggField}
use Rattle.hq_request_tree.specs.declared.aggregate.AggField.TheVariants as take
use Rattle.hq_request_tree.specs.declared.aggregate.KeyedAggCol.{KeyedAggCol}
use Rattle.hq_request_tree.specs.declared.aggregate.KeyedAggField.{KeyedAggField}

-- the place there of a table, of a column of a table, and of a relationship of a table
pub record Renumbering : Type 0 where
  pub table : (table : ℕ) → ℕ
  pub column : (table column : ℕ) → ℕ
  pub relationship : (table relationship : ℕ) → ℕ

-- different tables, columns of a table and relationships of a table that may be used have different places there
pub record IsOneToOne (n : Renumbering) (ok : Allowed) : Type 0 where
  pub tables : (t u : ℕ) → ok.rows t ≡ true → ok.rows u ≡ true → n.table t ≡ n.table u → t ≡ u
  pub columns : (t c d : ℕ) → ok.column t c ≡ true → ok.column t d ≡ true → n.column t c ≡ n.column t d → c ≡ d
  pub relationships : (t r q : ℕ) → ok.relationship t r ≡ true → ok.relationship t q ≡ true → n.relationship t r ≡ n.relationship t q → r ≡ q

-- columns of table t
abbrev pub columns_over : List ℕ → Renumbering → ℕ → List ℕ
columns_over cs n t = map (n.column t) cs

-- a condition over table t, whose relationships are those of s
abbrev mutual
  pub condition_over : BexpTree → Schema → Renumbering → ℕ → BexpTree
  condition_over always s n t = always
  condition_over (and_of bs) s n t = and_of (conditions_over bs s n t)
  condition_over (or_of bs) s n t = or_of (conditions_over bs s n t)
  condition_over (not_of b) s n t = not_of (condition_over b s n t)
  condition_over (test c tested vs negated) s n t = test (n.column t c) tested vs negated
  condition_over (through r b) s n t = through (n.relationship t r) (condition_over b s n (rel s t r).remote)
  condition_over (exists_in u b) s n t = exists_in (n.table u) (condition_over b s n u)
  condition_over (two_columns l op r) s n t = two_columns (n.column t l) op (n.column t r)

  pub conditions_over : BexpTrees → Schema → Renumbering → ℕ → BexpTrees
  conditions_over no_bexp s n t = no_bexp
  conditions_over (bexp b bs) s n t = bexp (condition_over b s n t) (conditions_over bs s n t)

-- a path of relationships from table t on, and the table at its end
abbrev pub path_over : (through : List ℕ) → Schema → Renumbering → ℕ → List ℕ
path_over [] s n t = []
path_over (r ∷ rs) s n t = n.relationship t r ∷ path_over rs s n (rel s t r).remote

abbrev pub path_end : (through : List ℕ) → Schema → ℕ → ℕ
path_end [] s t = t
path_end (r ∷ rs) s t = path_end rs s (rel s t r).remote

-- an entry of order_by: its column is one of the table at the path's end
abbrev pub sort_over : Schema → Renumbering → ℕ → SortKey → SortKey
sort_over s n t k = record {
  through = path_over k.through s n t;
  column = n.column (path_end k.through s t) k.column;
  desc = k.desc;
  nulls_first = k.nulls_first;
}

abbrev pub sorts_over : List SortKey → Schema → Renumbering → ℕ → List SortKey
sorts_over ks s n t = map (sort_over s n t) ks

-- the arguments of a list of rows of table t
abbrev pub arguments_over : ListArguments → Schema → Renumbering → ℕ → ListArguments
arguments_over a s n t = record {
  wanted = condition_over a.wanted s n t;
  sorts = sorts_over a.sorts s n t;
  distinct = columns_over a.distinct n t;
  limit = a.limit;
  offset = a.offset;
}

-- where a list below a row of table t begins
abbrev pub origin_over : Origin → Renumbering → ℕ → Origin
origin_over (from_table u) n t = from_table (n.table u)
origin_over (along r) n t = along (n.relationship t r)

-- a column of an aggregate over rows of table u
abbrev pub taken_over : Renumbering → ℕ → AggCol → AggCol
taken_over n u (of.Column c) = of.Column (n.column u c)
taken_over n u (of.Typename name) = of.Typename name

abbrev pub keyed_taken_over : Renumbering → ℕ → KeyedAggCol → KeyedAggCol
keyed_taken_over n u c = record { key = c.key; field = taken_over n u c.field }

-- a field of an aggregate over rows of table u
abbrev pub summary_over : Renumbering → ℕ → AggField → AggField
summary_over n u (take.Count c distinct) = take.Count (option_map (n.column u) c) distinct
summary_over n u (take.Columns a cs) = take.Columns a (map (keyed_taken_over n u) cs)
summary_over n u (take.Typename name) = take.Typename name

abbrev pub keyed_summary_over : Renumbering → ℕ → KeyedAggField → KeyedAggField
keyed_summary_over n u f = record { key = f.key; field = summary_over n u f.field }

-- fields at a row of table t
abbrev mutual
  pub fields_over : FieldTrees → Schema → Renumbering → ℕ → FieldTrees
  fields_over no_field s n t = no_field
  fields_over (field key f fs) s n t = field key (field_over f s n t) (fields_over fs s n t)

  pub field_over : FieldTree → Schema → Renumbering → ℕ → FieldTree
  field_over (column c) s n t = column (n.column t c)
  field_over (typename name) s n t = typename name
  field_over no_queries s n t = no_queries
  field_over (object r fs) s n t = object (n.relationship t r) (fields_over fs s n (rel s t r).remote)
  field_over (list o a fs) s n t =
      list (origin_over o n t) (arguments_over a s n (origin_table o s t)) (fields_over fs s n (origin_table o s t))
  field_over (by_key u key fs) s n t = by_key (n.table u) key (fields_over fs s n u)
  field_over (aggregate o a ps) s n t =
      aggregate (origin_over o n t) (arguments_over a s n (origin_table o s t)) (parts_over ps s n (origin_table o s t))
  field_over (introspect f) s n t = introspect f

  -- the fields of an aggregate over rows of table u
  pub parts_over : PartTrees → Schema → Renumbering → ℕ → PartTrees
  parts_over no_part s n u = no_part
  parts_over (part key p ps) s n u = part key (part_over p s n u) (parts_over ps s n u)

  pub part_over : PartTree → Schema → Renumbering → ℕ → PartTree
  part_over (summary fs) s n u = summary (map (keyed_summary_over n u) fs)
  part_over (nodes fs) s n u = nodes (fields_over fs s n u)
  part_over (part_typename name) s n u = part_typename name
