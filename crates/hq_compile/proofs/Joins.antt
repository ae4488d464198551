-- The joins of fields, put together from their parts.
use Rattle.std.proofs.Common.{◌≡◌, ℕ, ◌+◌, List, [], ◌∷◌, ◌++◌, refl, arith}
use Rattle.hq_base.specs.declared.value.Val.{Val}
use Rattle.hq_model.specs.Schema.{Schema, table, rel}
use Rattle.hq_model.specs.Selected.{ListArguments}
use Rattle.hq_request_tree.specs.Fields.{Origin, FieldTrees, object, list, by_key, summary}
use Rattle.hq_request_tree.specs.Resolve.{origin_table}
use Rattle.hq_request_tree.specs.declared.aggregate.KeyedAggField.{KeyedAggField}
use Rattle.hq_sql_tree.specs.Tree as tree
use Rattle.hq_sql_tree.specs.Tree.{pairs_of, ExprTree, JoinTree, PairTree, PredTree, SelectTree}
use Rattle.hq_translation.specs.Aggregates.{summary_select}
use Rattle.hq_translation.specs.Conditions.{joined_by_and, with_member, where_of}
use Rattle.hq_translation.specs.Fields.{field_joins, field_numbers, fields_joins, fields_numbers, fields_used, fields_values, key_members, key_used, origin_tie, part_joins}
use Rattle.hq_translation.specs.Lists.{children_from, list_select, list_used}
use Rattle.hq_translation.specs.Looks.{Look}
use Rattle.hq_translation.specs.Masks.{filter_predicate, masks, shown_look, value_output}
use Rattle.hq_translation.specs.Names.{join_alias}
use Rattle.hq_translation.specs.Predicates.{link}
use Rattle.hq_translation.specs.GrantedTables.{GrantedTables}
use Rattle.hq_translation.specs.Selects.{behind_filter, filter_from}
use Rattle.hq_compile_tables.specs.Selects.{first_row}
use Rattle.hq_compile_tables.specs.Shown.{look_in}
use Rattle.hq_compile_tables.specs.declared.shown.MaskPlace.{MaskPlace}

-- the join of a select under the alias of number n
abbrev pub join_of : SelectTree → (n : ℕ) → JoinTree
join_of select n = record { select = select; alias = join_alias n }

module _ (s : Schema) (g : GrantedTables) (fs : FieldTrees) where
  -- the join of the object of fields at the first row of table u, at the alias of number n, their numbers from m on
  abbrev pub first_at : (u n m : ℕ) → Look → (joins : List JoinTree) → (members : List PredTree) → JoinTree
  first_at u n m look joins members =
      join_of (first_row s u n (value_output (tree.object (pairs_of (fields_values fs s g look u m)))) (joins ++ fields_joins fs s g u n m) (where_of members)) n

  -- the parts by the names that they have in the code
  pub first_of : (u n m : ℕ) (look : Look) (masked joins : List JoinTree) (members : List PredTree) (pairs : List PairTree) (value : ExprTree) (select : SelectTree) (join : JoinTree)
      → join ≡ join_of select n → select ≡ first_row s u n (value_output value) joins (where_of members)
      → value ≡ tree.object (pairs_of pairs) → pairs ≡ fields_values fs s g look u m → joins ≡ masked ++ fields_joins fs s g u n m
      → join ≡ first_at u n m look masked members
  first_of u n m look masked joins members pairs value select join is select-is value-is pairs-is joins-is = rw (is, select-is, value-is, pairs-is, joins-is) refl

  -- the object behind a relationship
  pub object_of : (t p r next v n m : ℕ) (cs : List ℕ) (places : List MaskPlace) (joins : List JoinTree) (members : List PredTree) (join : JoinTree)
      → join ≡ first_at v n m (look_in places (table s v).columns n) joins members
      → v ≡ (rel s t r).remote → n ≡ next → m ≡ behind_filter s g (rel s t r).remote cs next
      → look_in places (table s (rel s t r).remote).columns next ≡ shown_look s g (rel s t r).remote cs next → joins ≡ masks s g (rel s t r).remote cs next
      → members ≡ with_member (link s t (rel s t r) p next) (with_member (filter_predicate s g (rel s t r).remote next (filter_from s g (rel s t r).remote cs next)) [])
      → cs ≡ fields_used fs
      → join ∷ [] ≡ field_joins (object r fs) s g t p next
  object_of t p r next v n m cs places joins members join is v-is n-is m-is look-is joins-is members-is cs-is =
      rw (is, v-is, n-is, m-is, look-is, joins-is, members-is, cs-is) refl

  -- the object that a key looks up
  pub key_of : (t p u next v n m : ℕ) (key : List Val) (cs : List ℕ) (places : List MaskPlace) (joins : List JoinTree) (members : List PredTree) (join : JoinTree)
      → join ≡ first_at v n m (look_in places (table s v).columns n) joins members
      → v ≡ u → n ≡ next → m ≡ behind_filter s g u cs next
      → look_in places (table s u).columns next ≡ shown_look s g u cs next → joins ≡ masks s g u cs next
      → members
      ≡ with_member (joined_by_and (key_members (table s u).columns (shown_look s g u cs next) (table s u).key key))
      (with_member (filter_predicate s g u next (filter_from s g u cs next)) [])
      → cs ≡ key_used s u fs
      → join ∷ [] ≡ field_joins (by_key u key fs) s g t p next
  key_of t p u next v n m key cs places joins members join is v-is n-is m-is look-is joins-is members-is cs-is =
      rw (is, v-is, n-is, m-is, look-is, joins-is, members-is, cs-is) refl

  -- the numbers that they take
  pub object_numbers : (t r next v m k : ℕ) (cs : List ℕ) → k ≡ m + fields_numbers fs s g v → m ≡ behind_filter s g (rel s t r).remote cs next → v ≡ (rel s t r).remote → cs ≡ fields_used fs
      → k ≡ next + field_numbers (object r fs) s g t
  object_numbers t r next v m k cs is m-is v-is cs-is = rw (is, m-is, v-is, cs-is) (omega arith)

  pub key_numbers : (t u next v m k : ℕ) (key : List Val) (cs : List ℕ) → k ≡ m + fields_numbers fs s g v → m ≡ behind_filter s g u cs next → v ≡ u → cs ≡ key_used s u fs
      → k ≡ next + field_numbers (by_key u key fs) s g t
  key_numbers t u next v m k key cs is m-is v-is cs-is = rw (is, m-is, v-is, cs-is) (omega arith)

  module _ (o : Origin) (a : ListArguments) (t p : ℕ) where
    pub list_numbers_of : (next u n m k : ℕ) (outs cs : List ℕ) → k ≡ m + fields_numbers fs s g u → m ≡ children_from s g u cs a n
        → cs ≡ list_used s u a outs → outs ≡ fields_used fs → u ≡ origin_table o s t → n ≡ next
        → k ≡ next + field_numbers (list o a fs) s g t
    list_numbers_of next u n m k outs cs is m-is cs-is outs-is u-is n-is = rw (is, m-is, cs-is, outs-is, u-is, n-is) (omega arith)

    -- a list
    pub list_of : (next u n m : ℕ) (outs cs : List ℕ) (look : Look) (pairs : List PairTree) (joins : List JoinTree) (tie : PredTree) (select : SelectTree) (join : JoinTree)
        → join ≡ join_of select n → select ≡ list_select s g u cs a n tie pairs joins
        → pairs ≡ fields_values fs s g look u m → joins ≡ fields_joins fs s g u n m
        → look ≡ shown_look s g u cs n → m ≡ children_from s g u cs a n → tie ≡ origin_tie o s t p n
        → cs ≡ list_used s u a outs → outs ≡ fields_used fs → u ≡ origin_table o s t → n ≡ next
        → join ∷ [] ≡ field_joins (list o a fs) s g t p next
    list_of next u n m outs cs look pairs joins tie select join is select-is pairs-is joins-is look-is m-is tie-is cs-is outs-is u-is n-is =
        rw (is, select-is, pairs-is, joins-is, look-is, m-is, tie-is, cs-is, outs-is, u-is, n-is) refl

module _ (s : Schema) (g : GrantedTables) (o : Origin) (a : ListArguments) (fs : List KeyedAggField) (t p : ℕ) where
  -- an aggregate
  pub summary_of : (next u n : ℕ) (gs : List KeyedAggField) (tie : PredTree) (select : SelectTree) (join : JoinTree)
      → join ≡ join_of select n → select ≡ summary_select gs s g u a n tie → gs ≡ fs → tie ≡ origin_tie o s t p n → u ≡ origin_table o s t → n ≡ next
      → join ∷ [] ≡ part_joins (summary fs) s g o t p a next
  summary_of next u n gs tie select join is select-is gs-is tie-is u-is n-is = rw (is, select-is, gs-is, tie-is, u-is, n-is) refl
