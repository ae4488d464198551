-- Conditions, sorts, keys and aggregates of a request are of their columns' types (Hasura, API reference: boolean
-- expressions, order_by, distinct_on, aggregates).
use Rattle.std.specs.Prelude.{◌≡◌, ℕ, List, [], ◌∷◌, take, length, Bool, true, false, ◌&&◌, ◌==◌, nat_le}
use Rattle.std.specs.List.{list_all, list_any}
use Rattle.hq_base.specs.Aggregates.{is_aggregate_of}
use Rattle.hq_base.specs.Lists.{firsts}
use Rattle.hq_base.specs.declared.aggregate.Aggregate.{Aggregate}
use Rattle.hq_base.specs.declared.value.Val.{Val}
use Rattle.hq_model.specs.Bexp.{BexpTree, always, and_of, or_of, not_of, test, through, exists_in, two_columns, BexpTrees, no_bexp, bexp, operands_of, depth}
use Rattle.hq_model.specs.Filters.{column_ty, constant_fits, is_filter, of_type}
use Rattle.hq_model.specs.Schema.{Schema, table}
use Rattle.hq_model.specs.Selected.{SortKey, ListArguments}
use Rattle.hq_model.specs.declared.bexp.Operand.{Operand}
use Rattle.hq_model.specs.declared.bexp.Operand.TheVariants.{Const, Session}
use Rattle.hq_request_tree.specs.Everywhere.{Everywhere}
use Rattle.hq_request_tree.specs.Fields.{FieldTrees, FieldTree, column, typename, no_queries, object, list, by_key, aggregate, introspect, PartTree, summary, nodes, part_typename}
use Rattle.hq_request_tree.specs.Resolve.{origin_table}
use Rattle.hq_request_tree.specs.declared.aggregate.AggCol.{AggCol}
use Rattle.hq_request_tree.specs.declared.aggregate.AggCol.TheVariants as of
use Rattle.hq_request_tree.specs.declared.aggregate.AggField.{AggField}
use Rattle.hq_request_tree.specs.declared.aggregate.AggField.TheVariants as fold

-- an operand that needs no session
abbrev pub is_constant : Operand → Bool
is_constant (Const v) = true
is_constant (Session name) = false

-- an expression without session names
abbrev mutual
  pub is_bound : BexpTree → Bool
  is_bound always = true
  is_bound (and_of bs) = are_bound bs
  is_bound (or_of bs) = are_bound bs
  is_bound (not_of b) = is_bound b
  is_bound (test c tested vs negated) = list_all is_constant (operands_of vs)
  is_bound (through r b) = is_bound b
  is_bound (exists_in u b) = is_bound b
  is_bound (two_columns l op r) = true

  pub are_bound : BexpTrees → Bool
  are_bound no_bexp = true
  are_bound (bexp b bs) = is_bound b && are_bound bs

-- a condition over table t: its columns and relationships are there, its operands are constants of their columns' types,
-- and it is at most so deep
abbrev pub is_condition : (most : ℕ) → BexpTree → Schema → ℕ → Bool
is_condition most b s t = is_filter b s t && is_bound b && nat_le (depth b) most

-- a sort by a column of the row itself
abbrev pub is_plain_sort : SortKey → Bool
is_plain_sort k = length k.through == 0

-- entries that are plain columns, and exactly these
abbrev pub are_sorts_of : (distinct : List ℕ) → List SortKey → Bool
are_sorts_of distinct ks =
    list_all (λ k. is_plain_sort k && list_any (λ c. c == k.column) distinct) ks
    && list_all (λ c. list_any (λ k. k.column == c) ks) distinct

-- the entries of order_by, where there are any, begin with as many as there are distinct columns, which are these columns
abbrev pub fits_distinct : (distinct : List ℕ) → List SortKey → Bool
fits_distinct distinct [] = true
fits_distinct distinct (k ∷ ks) =
    let n = length (firsts (λ c d. c == d) distinct) in
    nat_le n (length (k ∷ ks)) && are_sorts_of distinct (take n (k ∷ ks))

-- no more than 200 relationships lead to the column of a sort
abbrev pub is_short : SortKey → Bool
is_short k = nat_le (length k.through) 200

-- the arguments of a list of rows of table t
abbrev pub are_arguments : ListArguments → Schema → ℕ → Bool
are_arguments a s t =
    is_condition 400 a.wanted s t
    && nat_le (length a.sorts) 100 && list_all is_short a.sorts
    && fits_distinct a.distinct a.sorts

-- one constant of its column's type, which is never NULL, for each column of a key
abbrev pub is_key : Schema → ℕ → (key : List ℕ) → List Val → Bool
is_key s t [] [] = true
is_key s t (c ∷ cs) (v ∷ vs) = of_type (λ ty. constant_fits ty v) (column_ty s t c) && is_key s t cs vs
is_key s t _ _ = false

-- a column of an aggregate is of a type that this is of
abbrev pub is_taken : Schema → ℕ → Aggregate → AggCol → Bool
is_taken s t a (of.Column c) = of_type (is_aggregate_of a) (column_ty s t c)
is_taken s t a (of.Typename name) = true

-- a field of aggregate over rows of table t
abbrev pub is_summary : Schema → ℕ → AggField → Bool
is_summary s t (fold.Count c distinct) = true
is_summary s t (fold.Columns a cs) = list_all (λ c. is_taken s t a c.field) cs
is_summary s t (fold.Typename name) = true

-- a field at a row of table t, without what stands below it
abbrev pub FieldFits : Schema → (t : ℕ) → FieldTree → Type 0
FieldFits s t (column c) = Unit {0}
FieldFits s t (typename name) = Unit {0}
FieldFits s t no_queries = Unit {0}
FieldFits s t (object r fs) = Unit {0}
FieldFits s t (list o a fs) = are_arguments a s (origin_table o s t) ≡ true
FieldFits s t (by_key u key fs) = is_key s u (table s u).key key ≡ true
FieldFits s t (aggregate o a ps) = are_arguments a s (origin_table o s t) ≡ true
FieldFits s t (introspect f) = Unit {0}

-- a part of an aggregate over rows of table u
abbrev pub PartFits : Schema → (u : ℕ) → PartTree → Type 0
PartFits s u (summary fs) = list_all (λ f. is_summary s u f.field) fs ≡ true
PartFits s u (nodes fs) = Unit {0}
PartFits s u (part_typename name) = Unit {0}

-- all conditions, sorts, keys and aggregates of a request
abbrev pub AllFit : FieldTrees → Schema → (root : ℕ) → Type 0
AllFit fs s root = Everywhere (FieldFits s) (PartFits s) fs s root
