-- Each part of the statement has its type in scope.
use Rattle.std.proofs.Common.{◌≡◌, ℕ, ◌+◌, ◌<◌, ◌≤◌, ◌^◌, List, [], ◌∷◌, ◌++◌, length, cond, Bool, true, false, Some, bytes_eq, refl, ap, ◌∙◌, arith}
use Rattle.std.specs.Prelude.{slice_index_or, codes}
use Rattle.hq_base.specs.Lists.{all_differ, Each}
use Rattle.hq_base.specs.declared.value.Val.{Val}
use Rattle.hq_model.specs.declared.bexp.Operand.TheVariants.{Const}
use Rattle.hq_model.specs.declared.op.Op.TheVariants.{Eq}
use Rattle.hq_model.specs.declared.test.Test.TheVariants.{Compare}
use Rattle.hq_model.specs.Meta.{MetaTree}
use Rattle.hq_model.specs.Schema.{Schema, SchemaTable, schema_of, no_table, table, rel}
use Rattle.hq_model.specs.Selected.{ListArguments}
use Rattle.hq_model.specs.declared.table.Table.{Table}
use Rattle.hq_request_tree.specs.Fields.{Origin, from_table, along, FieldTrees, no_field, field, FieldTree, column, typename, no_queries, object, list, by_key, aggregate, introspect, PartTrees, no_part, part, PartTree, summary, nodes, part_typename}
use Rattle.hq_request_tree.specs.Resolve.{origin_table}
use Rattle.hq_request_tree.specs.ResponseKeys.{keys_of, part_keys}
use Rattle.hq_request_tree.specs.declared.aggregate.KeyedAggField.{KeyedAggField}
use Rattle.hq_sql_tree.specs.Tree as tree
use Rattle.hq_sql_tree.specs.Tree.{ExprTree, SelectTree, JoinTree, PredTree, pairs_of}
use Rattle.hq_sql_tree.specs.WellFormed as well
use Rattle.hq_sql_tree.specs.WellFormed.{Aliases, kind, kind_at, pair_names, is_value, is_member, are_values, is_typed_pred}
use Rattle.hq_translation.specs.Names.{table_alias, join_alias, value_name}
use Rattle.hq_translation.specs.Looks.{Look, own_look, cell_at, shown_at, compared_at}
use Rattle.hq_translation.specs.GrantedTables.{GrantedTables}
use Rattle.hq_translation.specs.Conditions.{joined_by_and}
use Rattle.hq_translation.specs.Predicates.{columns_in, link}
use Rattle.hq_translation.specs.Masks.{value_place, extra, masks, shown_look, filter_predicate}
use Rattle.hq_translation.specs.Selects.{filter_from, behind_filter, first_select}
use Rattle.hq_translation.specs.Sorts.{used_sorts}
use Rattle.hq_translation.specs.Lists.{once, list_sorts, list_used, list_numbers, children_from, list_select}
use Rattle.hq_translation.specs.Aggregates.{some_aggregate, summary_select, summary_used, summary_numbers}
use Rattle.hq_translation.specs.Fields.{field_used, fields_used, key_used, origin_tie, key_members, field_numbers, fields_numbers, part_numbers, parts_numbers, field_value, fields_values, part_value, parts_values, empty_select, parts_select, field_joins, fields_joins, part_joins, parts_joins}
use Rattle.hq_translation.specs.Fine.{Has, type_of, Known, FineArguments, FineOrigin, FineKey, Apart, FineFields, FineField, FineParts, FinePart, IsTyped}
use Rattle.hq_translation.proofs.CatalogTables.{FineTables, fine_tables}
use Rattle.hq_translation.proofs.Names.{same_text, used_one, used_left, used_right}
use Rattle.hq_translation.proofs.Scopes.{under_later, LooksUnder, looks_under_later, own_under, Knows, KnowsAll, knows_behind, all_behind, knows_left, knows_right, grows_table, member_of, shown_of}
use Rattle.hq_translation.proofs.TypedConditions.{two, Preds, and_typed, test_typed, Joined, joined_none, joined_then, joined_one, joined_as, typed_last, joined_last}
use Rattle.hq_translation.proofs.TypedJoins.{First, shown_under, Behind, first_typed, tie_typed}
use Rattle.hq_translation.proofs.TypedLists.{object_typed, list_typed}
use Rattle.hq_translation.proofs.TypedSummaries.{summary_typed}

-- the one row without a table
abbrev with_one : (n : ℕ) → Aliases → Aliases
with_one n scope = (table_alias n, (codes "u", Some well.truth) ∷ []) ∷ scope

names_of : (fs : FieldTrees) (s : Schema) (g : GrantedTables) (look : Look) (t n : ℕ) → pair_names (pairs_of (fields_values fs s g look t n)) ≡ keys_of fs
names_of no_field s g look t n = refl
names_of (field k f fs) s g look t n = ap (λ l. k ∷ l) (names_of fs s g look t (n + field_numbers f s g t))

part_names_of : (ps : PartTrees) (s : Schema) (g : GrantedTables) (u : ℕ) (a : ListArguments) (n : ℕ) → pair_names (pairs_of (parts_values ps s g u a n)) ≡ part_keys ps
part_names_of no_part s g u a n = refl
part_names_of (part k p ps) s g u a n = ap (λ l. k ∷ l) (part_names_of ps s g u a (n + part_numbers p s g u a))

module _ (s : Schema) (g : GrantedTables) (tables : List Table) (ok : FineTables s g tables) where
  known_of : (o : Origin) (t : ℕ) → FineOrigin o s t → Known s (origin_table o s t)
  known_of (from_table u) t f = f
  known_of (along r) t f = f.0

  origin_typed : (o : Origin) (scope : Aliases) (t p n : ℕ) (cs : List ℕ) → FineOrigin o s t
      → KnowsAll s scope t (own_look (table s t).columns p) → p < n → (final : Aliases)
      → Behind s g tables ok scope (origin_table o s t) n cs final
      → is_typed_pred (origin_tie o s t p n) tables final ≡ true
  origin_typed (from_table u) scope t p n cs f k lt final behind = refl
  origin_typed (along r) scope t p n cs f k lt final behind = tie_typed s g tables ok scope t r p n cs f k lt final behind

  apart_of : (fs : FieldTrees) (look : Look) (t n : ℕ) → Apart fs → all_differ bytes_eq (pair_names (pairs_of (fields_values fs s g look t n))) ≡ true
  apart_of fs look t n d = ap (all_differ bytes_eq) (names_of fs s g look t n) ∙ d

  key_typed : (u : ℕ) (look : Look) (final : Aliases) (cs : List ℕ) (vs : List Val) → Each (Has s u) cs → FineKey s u cs vs
      → Knows s final u look cs → Preds tables final (key_members (table s u).columns look cs vs)
  key_typed u look final [] vs h f k = tt
  key_typed u look final (c ∷ cs) [] h f k = tt
  key_typed u look final (c ∷ cs) (v ∷ vs) h f k =
      let e : ExprTree = compared_at (table s u).columns (look c) c in
      let here = k c h.0 (used_left c (c ∷ []) cs (used_one c)) in (
        test_typed final (look c).alias (look c).name (type_of s u c) (Compare Eq) (Const v ∷ []) here f.0,
        key_typed u look final cs vs h.1 f.1 (λ d has used. k d has (used_right d (c ∷ []) cs used)),
      )

  -- a join that gives JSON, as the value of a field
  json_join : (scope : Aliases) (n top : ℕ) (select : SelectTree) → First tables scope select (Some well.json) → n < top → top ≤ 2 ^ 64
      → Joined tables scope n top (record { select = select; alias = join_alias n } ∷ []) (λ final. is_member final (cell_at (value_place n)) ≡ true)
  json_join scope n top select first lt bound =
      joined_as tables scope n top top (record { select = select; alias = join_alias n } ∷ [])
      (λ final. kind_at final (join_alias n) value_name ≡ Some well.json) (λ final. is_member final (cell_at (value_place n)) ≡ true)
      (omega arith)
      (λ final h. member_of final (join_alias n) value_name well.json h refl) (joined_one tables scope n top select (Some well.json) lt (omega (arith, lt, bound)) first.is first.shows)

  empty_typed : (scope : Aliases) (n : ℕ) → First tables scope (empty_select n) (Some well.json)
  empty_typed scope n = record { is = refl; shows = rw (same_text value_name) refl }

  -- the list of fields at the alias of number n
  abbrev list_at : (o : Origin) (a : ListArguments) (fs : FieldTrees) (t p n : ℕ) → SelectTree
  list_at o a fs t p n =
      list_select s g (origin_table o s t) (list_used s (origin_table o s t) a (fields_used fs)) a n (origin_tie o s t p n)
      (fields_values fs s g (shown_look s g (origin_table o s t) (list_used s (origin_table o s t) a (fields_used fs)) n)
      (origin_table o s t) (children_from s g (origin_table o s t) (list_used s (origin_table o s t) a (fields_used fs)) a n))
      (fields_joins fs s g (origin_table o s t) n (children_from s g (origin_table o s t) (list_used s (origin_table o s t) a (fields_used fs)) a n))

  list_of : (o : Origin) (a : ListArguments) (fs : FieldTrees) (scope : Aliases) (t p n : ℕ) → FineOrigin o s t
      → FineArguments s (origin_table o s t) a → Apart fs → KnowsAll s scope t (own_look (table s t).columns p) → p < n
      → n + (list_numbers s g (origin_table o s t) (list_used s (origin_table o s t) a (fields_used fs)) a + fields_numbers fs s g (origin_table o s t)) ≤ 2 ^ 64
      → ((here : Aliases) (m : ℕ) (inner : Look) → KnowsAll s here (origin_table o s t) (own_look (table s (origin_table o s t)).columns n)
      → n < m → Knows s here (origin_table o s t) inner (fields_used fs) → LooksUnder m inner
      → m + fields_numbers fs s g (origin_table o s t) ≤ 2 ^ 64
      → Joined tables here m (m + fields_numbers fs s g (origin_table o s t)) (fields_joins fs s g (origin_table o s t) n m)
      (λ final. are_values final (pairs_of (fields_values fs s g inner (origin_table o s t) m)) ≡ true))
      → First tables scope (list_at o a fs t p n) (Some well.json)
  list_of o a fs scope t p n fo fa d own lt bound children =
      let u : ℕ = origin_table o s t in
      let more : List ℕ = fields_used fs in
      let cs : List ℕ = list_used s u a more in
      let look : Look = shown_look s g u cs n in
      let kid : ℕ = children_from s g u cs a n in
      let m : ℕ = kid + fields_numbers fs s g u in
      let sorts : List ℕ = used_sorts (list_sorts s u a) in
      let kids : (here : Aliases) → Behind s g tables ok scope u n cs here
      → Joined tables here kid m (fields_joins fs s g u n kid)
      (λ final. are_values final (pairs_of (fields_values fs s g look u kid)) ≡ true) =
      λ here behind.
      let shown : Knows s here u look more =
      knows_right s here u look (once a).distinct more
      (knows_right s here u look sorts ((once a).distinct ++ more)
      (knows_right s here u look (columns_in a.wanted) (sorts ++ ((once a).distinct ++ more)) behind.shown)) in
      children here kid look behind.own (omega arith) shown (looks_under_later (n + 1 + extra s g u cs) kid look (omega arith) (shown_under s g tables ok u n cs (omega arith))) (omega arith) in
      list_typed s g tables ok scope u n m more a (origin_tie o s t p n) (fields_values fs s g look u kid) (fields_joins fs s g u n kid)
      (known_of o t fo) fa (omega arith) (omega arith) (apart_of fs look u kid d)
      (origin_typed o scope t p n cs fo own lt) kids

  some_numbers : (fs : List KeyedAggField) (u : ℕ) (a : ListArguments) (n : ℕ) → n < n + summary_numbers fs s g u a
  some_numbers fs u a n =
      let go : (b : Bool) → n < n + cond b (list_numbers s g u (summary_used s u a fs) a) 1 = elim [ true ↦ omega arith | false ↦ omega arith ] in
      go (some_aggregate fs)

  mutual
    fields_typed : (fs : FieldTrees) (scope : Aliases) (t p n : ℕ) (look : Look) → FineFields fs s t
        → KnowsAll s scope t (own_look (table s t).columns p) → p < n → Knows s scope t look (fields_used fs) → LooksUnder n look
        → n + fields_numbers fs s g t ≤ 2 ^ 64
        → Joined tables scope n (n + fields_numbers fs s g t) (fields_joins fs s g t p n) (λ final. are_values final (pairs_of (fields_values fs s g look t n)) ≡ true)
    fields_typed no_field scope t p n look f own lt k u bound =
        joined_none tables scope n (n + 0) (λ final. are_values final (pairs_of (fields_values no_field s g look t n)) ≡ true)
        (λ final grown. refl)
    fields_typed (field key x fs) scope t p n look f own lt k u bound =
        let mid : ℕ = n + field_numbers x s g t in
        let top : ℕ = n + fields_numbers (field key x fs) s g t in
        let own_at : Look = own_look (table s t).columns p in
        let one = field_typed x scope t p n look f.0 own lt (knows_left s scope t look (field_used x) (fields_used fs) k) u (omega arith) in
        let own_behind = all_behind s scope one.after t n own_at one.grows (looks_under_later (p + 1) n own_at (omega arith) (own_under (table s t).columns p)) own in
        let k_behind = knows_behind s scope one.after t n look (fields_used fs) one.grows u (knows_right s scope t look (field_used x) (fields_used fs) k) in
        let rest = fields_typed fs one.after t p mid look f.1 own_behind (omega arith) k_behind (looks_under_later n mid look (omega arith) u) (omega arith) in
        let V : Aliases → Type 0 = λ final. is_member final (field_value x (table s t).columns look n) ≡ true in
        let W : Aliases → Type 0 = λ final. are_values final (pairs_of (fields_values fs s g look t mid)) ≡ true in
        let wide = joined_as tables one.after mid (mid + fields_numbers fs s g t) top (fields_joins fs s g t p mid) W W (omega arith) (λ final h. h) rest in
        let both = joined_then tables scope n mid top (field_joins x s g t p n) (fields_joins fs s g t p mid) V W (omega arith) (omega arith) one wide in
        joined_as tables scope n top top (fields_joins (field key x fs) s g t p n) (λ final. V final × W final)
        (λ final. are_values final (pairs_of (fields_values (field key x fs) s g look t n)) ≡ true) (omega arith)
        (λ final h. two (is_member final (field_value x (table s t).columns look n)) (are_values final (pairs_of (fields_values fs s g look t mid))) h.0 h.1) both

    field_typed : (x : FieldTree) (scope : Aliases) (t p n : ℕ) (look : Look) → FineField x s t
        → KnowsAll s scope t (own_look (table s t).columns p) → p < n → Knows s scope t look (field_used x) → LooksUnder n look
        → n + field_numbers x s g t ≤ 2 ^ 64
        → Joined tables scope n (n + field_numbers x s g t) (field_joins x s g t p n) (λ final. is_member final (field_value x (table s t).columns look n) ≡ true)
    field_typed (column c) scope t p n look f own lt k u bound =
        joined_none tables scope n (n + 0) (λ final. is_member final (shown_at (table s t).columns (look c) c) ≡ true)
        (λ final grown. shown_of final (look c).alias (look c).name (type_of s t c)
        (grown (look c).alias (look c).name (under_later n (n + 0) (look c).alias (omega arith) (u c)) ∙ k c f (used_one c)))
    field_typed (typename name) scope t p n look f own lt k u bound = joined_none tables scope n (n + 0) (λ final. is_member final (tree.text name) ≡ true) (λ final grown. refl)
    field_typed no_queries scope t p n look f own lt k u bound = json_join scope n (n + 1) (empty_select n) (empty_typed scope n) (omega arith) bound
    field_typed (object r fs) scope t p n look f own lt k u bound =
        let far : ℕ = (rel s t r).remote in
        let cs : List ℕ = fields_used fs in
        let inner : Look = shown_look s g far cs n in
        let next : ℕ = behind_filter s g far cs n in
        let top : ℕ = n + field_numbers (object r fs) s g t in
        let e : ExprTree = tree.object (pairs_of (fields_values fs s g inner far next)) in
        let J : List JoinTree = fields_joins fs s g far n next in
        let kids : (here : Aliases) → Behind s g tables ok scope far n cs here
        → Joined tables here next (next + fields_numbers fs s g far) J
        (λ final. (is_value final e ≡ true) × (kind final e ≡ Some well.json)) =
        λ here behind.
        joined_as tables here next (next + fields_numbers fs s g far) (next + fields_numbers fs s g far) J
        (λ final. are_values final (pairs_of (fields_values fs s g inner far next)) ≡ true)
        (λ final. (is_value final e ≡ true) × (kind final e ≡ Some well.json)) (omega arith)
        (λ final h. (object_typed s g tables ok final (fields_values fs s g inner far next) (apart_of fs inner far next f.1) h, refl))
        (fields_typed fs here far n next inner f.2 behind.own (omega arith) behind.shown
        (looks_under_later (n + 1 + extra s g far cs) next inner (omega arith) (shown_under s g tables ok far n cs (omega arith)))
        (omega arith))
        in
        let first =
        first_typed s g tables ok scope far n (next + fields_numbers fs s g far) cs (link s t (rel s t r) p n) e (Some well.json) J
        f.0.0 (omega arith) (omega arith) (tie_typed s g tables ok scope t r p n cs f.0 own lt) kids in
        json_join scope n top (first_select s far n (link s t (rel s t r) p n) (filter_predicate s g far n (filter_from s g far cs n)) e (masks s g far cs n ++ J)) first (omega arith) bound
    field_typed (list o a fs) scope t p n look f own lt k u bound =
        json_join scope n (n + field_numbers (list o a fs) s g t) (list_at o a fs t p n)
        (list_of o a fs scope t p n f.0 f.1 f.2 own lt bound
        (λ here m inner own_here later shown under small. fields_typed fs here (origin_table o s t) n m inner f.3 own_here later shown
        under small))
        (omega arith) bound
    field_typed (by_key v key fs) scope t p n look f own lt k u bound =
        let cs : List ℕ = key_used s v fs in
        let inner : Look = shown_look s g v cs n in
        let next : ℕ = behind_filter s g v cs n in
        let top : ℕ = n + field_numbers (by_key v key fs) s g t in
        let e : ExprTree = tree.object (pairs_of (fields_values fs s g inner v next)) in
        let J : List JoinTree = fields_joins fs s g v n next in
        let members : List PredTree = key_members (table s v).columns inner (table s v).key key in
        let kids : (here : Aliases) → Behind s g tables ok scope v n cs here
        → Joined tables here next (next + fields_numbers fs s g v) J
        (λ final. (is_value final e ≡ true) × (kind final e ≡ Some well.json)) =
        λ here behind.
        joined_as tables here next (next + fields_numbers fs s g v) (next + fields_numbers fs s g v) J
        (λ final. are_values final (pairs_of (fields_values fs s g inner v next)) ≡ true)
        (λ final. (is_value final e ≡ true) × (kind final e ≡ Some well.json)) (omega arith)
        (λ final h. (object_typed s g tables ok final (fields_values fs s g inner v next) (apart_of fs inner v next f.2) h, refl))
        (fields_typed fs here v n next inner f.3 behind.own (omega arith) (knows_right s here v inner (table s v).key (fields_used fs) behind.shown)
        (looks_under_later (n + 1 + extra s g v cs) next inner (omega arith) (shown_under s g tables ok v n cs (omega arith))) (omega arith)) in
        let tied : (final : Aliases) → Behind s g tables ok scope v n cs final → is_typed_pred (joined_by_and members) tables final ≡ true =
        λ final behind. and_typed tables final members (key_typed v inner final (table s v).key key (ok v f.0).key f.1 (knows_left s final v inner (table s v).key (fields_used fs) behind.shown)) in
        let first = first_typed s g tables ok scope v n (next + fields_numbers fs s g v) cs (joined_by_and members) e (Some well.json) J f.0 (omega arith) (omega arith) tied kids in
        json_join scope n top (first_select s v n (joined_by_and members) (filter_predicate s g v n (filter_from s g v cs n)) e (masks s g v cs n ++ J)) first (omega arith) bound
    field_typed (aggregate o a ps) scope t p n look f own lt k u bound =
        let v : ℕ = origin_table o s t in
        let top : ℕ = n + field_numbers (aggregate o a ps) s g t in
        let within : Aliases = with_one n scope in
        let own_at : Look = own_look (table s t).columns p in
        let beside =
        all_behind s scope within t n own_at (grows_table n ((codes "u", Some well.truth) ∷ []) scope (omega arith))
        (looks_under_later (p + 1) n own_at (omega arith) (own_under (table s t).columns p)) own in
        let J : List JoinTree = parts_joins ps s g o t p a (n + 1) in
        let ends : ℕ = n + 1 + parts_numbers ps s g v a in
        let V : Aliases → Type 0 = λ final. are_values final (pairs_of (parts_values ps s g v a (n + 1))) ≡ true in
        let j = parts_typed ps o within t p a (n + 1) f.0 f.1 f.3 beside (omega arith) (omega arith) in
        let final : Aliases = j.after in
        let differ : all_differ bytes_eq (pair_names (pairs_of (parts_values ps s g v a (n + 1)))) ≡ true = ap (all_differ bytes_eq) (part_names_of ps s g v a (n + 1)) ∙ f.2 in
        let value = object_typed s g tables ok final (parts_values ps s g v a (n + 1)) differ (j.seen final (λ x name z. refl)) in
        let first : First tables scope (parts_select n (parts_values ps s g v a (n + 1)) J) (Some well.json) = record {
          is = rw (joined_last tables within (n + 1) ends J V j, typed_last tables within (n + 1) ends J V j) (rw value refl);
          shows = rw (same_text value_name) refl;
        } in
        json_join scope n top (parts_select n (parts_values ps s g v a (n + 1)) J) first (omega arith) bound
    field_typed (introspect x) scope t p n look f own lt k u bound = json_join scope n (n + 1) (empty_select n) (empty_typed scope n) (omega arith) bound

    parts_typed : (ps : PartTrees) (o : Origin) (scope : Aliases) (t p : ℕ) (a : ListArguments) (n : ℕ) → FineOrigin o s t
        → FineArguments s (origin_table o s t) a → FineParts ps s (origin_table o s t) → KnowsAll s scope t (own_look (table s t).columns p)
        → p < n
        → n + parts_numbers ps s g (origin_table o s t) a ≤ 2 ^ 64
        → Joined tables scope n (n + parts_numbers ps s g (origin_table o s t) a) (parts_joins ps s g o t p a n)
        (λ final. are_values final (pairs_of (parts_values ps s g (origin_table o s t) a n)) ≡ true)
    parts_typed no_part o scope t p a n fo fa f own lt bound =
        joined_none tables scope n (n + 0) (λ final. are_values final (pairs_of (parts_values no_part s g (origin_table o s t) a n)) ≡ true)
        (λ final grown. refl)
    parts_typed (part key x ps) o scope t p a n fo fa f own lt bound =
        let v : ℕ = origin_table o s t in
        let mid : ℕ = n + part_numbers x s g v a in
        let top : ℕ = n + parts_numbers (part key x ps) s g v a in
        let own_at : Look = own_look (table s t).columns p in
        let one = part_typed x o scope t p a n fo fa f.0 own lt (omega arith) in
        let own_behind = all_behind s scope one.after t n own_at one.grows (looks_under_later (p + 1) n own_at (omega arith) (own_under (table s t).columns p)) own in
        let rest = parts_typed ps o one.after t p a mid fo fa f.1 own_behind (omega arith) (omega arith) in
        let V : Aliases → Type 0 = λ final. is_member final (part_value x n) ≡ true in
        let W : Aliases → Type 0 = λ final. are_values final (pairs_of (parts_values ps s g v a mid)) ≡ true in
        let wide = joined_as tables one.after mid (mid + parts_numbers ps s g v a) top (parts_joins ps s g o t p a mid) W W (omega arith) (λ final h. h) rest in
        let both = joined_then tables scope n mid top (part_joins x s g o t p a n) (parts_joins ps s g o t p a mid) V W (omega arith) (omega arith) one wide in
        joined_as tables scope n top top (parts_joins (part key x ps) s g o t p a n) (λ final. V final × W final)
        (λ final. are_values final (pairs_of (parts_values (part key x ps) s g v a n)) ≡ true) (omega arith)
        (λ final h. two (is_member final (part_value x n)) (are_values final (pairs_of (parts_values ps s g v a mid))) h.0 h.1) both

    part_typed : (x : PartTree) (o : Origin) (scope : Aliases) (t p : ℕ) (a : ListArguments) (n : ℕ) → FineOrigin o s t
        → FineArguments s (origin_table o s t) a → FinePart x s (origin_table o s t) → KnowsAll s scope t (own_look (table s t).columns p)
        → p < n
        → n + part_numbers x s g (origin_table o s t) a ≤ 2 ^ 64
        → Joined tables scope n (n + part_numbers x s g (origin_table o s t) a) (part_joins x s g o t p a n)
        (λ final. is_member final (part_value x n) ≡ true)
    part_typed (summary fs) o scope t p a n fo fa f own lt bound =
        let v : ℕ = origin_table o s t in
        let first = summary_typed s g tables ok scope v n fs a (origin_tie o s t p n) (known_of o t fo) fa f bound (origin_typed o scope t p n (summary_used s v a fs) fo own lt) in
        json_join scope n (n + part_numbers (summary fs) s g v a) (summary_select fs s g v a n (origin_tie o s t p n)) first (some_numbers fs v a n) bound
    part_typed (nodes fs) o scope t p a n fo fa f own lt bound =
        json_join scope n (n + part_numbers (nodes fs) s g (origin_table o s t) a) (list_at o a fs t p n)
        (list_of o a fs scope t p n fo fa f.0 own lt bound
        (λ here m inner own_here later shown under small. fields_typed fs here (origin_table o s t) n m inner f.1 own_here later shown
        under small))
        (omega arith) bound
    part_typed (part_typename name) o scope t p a n fo fa f own lt bound = joined_none tables scope n (n + 0) (λ final. is_member final (tree.text name) ≡ true) (λ final grown. refl)

-- at the root no column is known
beyond : (s : List SchemaTable) → slice_index_or s (length s) no_table ≡ no_table
beyond [] = refl
beyond (t ∷ ts) = beyond ts

pub statement_typed : (fs : FieldTrees) (tables : List Table) (meta : MetaTree) (g : GrantedTables) → IsTyped fs tables meta g
statement_typed fs tables meta g catalog allowed fine apart bound =
    let s : Schema = schema_of tables meta in
    let ok = fine_tables tables meta g catalog allowed in
    let root : ℕ = length s in
    let scope : Aliases = with_one 0 [] in
    let look : Look = own_look (table s root).columns 0 in
    let none : length (table s root).columns ≡ 0 = ap (λ t. length t.columns) (beyond s) in
    let own : KnowsAll s scope root look = λ c has. absurd (omega (arith, none, has)) in
    let J : List JoinTree = fields_joins fs s g root 0 1 in
    let ends : ℕ = 1 + fields_numbers fs s g root in
    let V : Aliases → Type 0 = λ final. are_values final (pairs_of (fields_values fs s g look root 1)) ≡ true in
    let j = fields_typed s g tables ok fs scope root 0 1 look fine own (omega arith) (λ c has used. own c has) (own_under (table s root).columns 0) bound in
    let value = object_typed s g tables ok j.after (fields_values fs s g look root 1) (apart_of s g tables ok fs look root 1 apart) (j.seen j.after (λ x name v. refl)) in
    rw (joined_last tables scope 1 ends J V j, typed_last tables scope 1 ends J V j) (rw value refl)
