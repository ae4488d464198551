-- The select of a list.
use Rattle.std.proofs.Common.{◌≡◌, ℕ, ◌+◌, ◌≤◌, ◌^◌, List, [], ◌∷◌, ◌++◌, length, map, filter, Bool, true, false, ◌&&◌, Option, None, Some, refl, sym, ap, ap₂, ◌∙◌, arith, Ordering}
use Rattle.std.specs.Ordering.{then_cmp, ordering_then}
use Rattle.hq_base.specs.Cells.{json, json_of, key_cmp}
use Rattle.hq_base.specs.Json.{arr, obj, elements_of, MemberTrees}
use Rattle.hq_base.specs.Lists.{Each, Ascends, sort}
use Rattle.hq_base.proofs.Lists.{each_all, each_firsts, map_map, map_on, filter_filter, firsts_map_on}
use Rattle.hq_base.proofs.Sorts.{sort_map_on, sort_on, ascends_sort, ascends_take, ascends_drop, ascends_firsts, sort_ascending, sort_sort}
use Rattle.hq_model.specs.Database.{Row}
use Rattle.hq_model.specs.Grants.{Grants, grant}
use Rattle.hq_model.specs.Logic.{is_true}
use Rattle.hq_model.specs.Permitted.{columns_cmp, permitted, shown, seen_by}
use Rattle.hq_model.specs.Schema.{Schema, table}
use Rattle.hq_model.specs.Seen.{row_cell, table_rows}
use Rattle.hq_model.specs.Selected.{SortKey, ListArguments, sort_cell, sorts_cmp as entries_cmp, entries, same_cells, distinct_rows, limited, offset_by, smaller, ordered, selected}
use Rattle.hq_model.specs.Truth.{keeps}
use Rattle.hq_model.specs.declared.table.Column.{Column}
use Rattle.hq_model.specs.declared.table.Table.{Table}
use Rattle.hq_sql_tree.specs.Tree.{OutTree, PairTree, pairs_of, orders_of, JoinTree, PredTree}
use Rattle.hq_sql_tree.specs.Meaning.{NamedRow, cell_named, Scope, with_alias, World, members, outputs, orders_cmp, same_values, distinct_on, rows_of, truth_at}
use Rattle.hq_translation.specs.GrantedTables.{granted_of}
use Rattle.hq_translation.specs.Names.{fold_alias, join_alias, value_name}
use Rattle.hq_translation.specs.Looks.{Look}
use Rattle.hq_translation.specs.Conditions.{with_member, where_of}
use Rattle.hq_translation.specs.Predicates.{columns_in, predicate}
use Rattle.hq_translation.specs.Masks.{extra, masks, shown_look, filter_numbers, filter_predicate, where_mode}
use Rattle.hq_translation.specs.Selects.{filter_from, behind_filter}
use Rattle.hq_translation.specs.Sorts.{Sort, shown_sorts, own_sorts, used_sorts, sorts_numbers, sorts_joins, orders, output_orders}
use Rattle.hq_translation.specs.Lists.{once, list_sorts, list_used, where_numbers, sorts_from, children_from, list_numbers, distinct_columns, list_rows, list_outputs, list_select}
use Rattle.hq_translation.proofs.Once.{orders_absorb, ordered_once}
use Rattle.hq_translation.proofs.Names.{Shows, Narrow, at_row, shows_row, Looks, looks_left, looks_right, used_left, used_one, same_text, with_alias_same, value_is_no_key, join_aliases_differ}
use Rattle.hq_translation.proofs.Sound.{Sound}
use Rattle.hq_translation.proofs.Conditions.{kept_three}
use Rattle.hq_translation.proofs.Extends.{Extends, extends_apart}
use Rattle.hq_translation.proofs.Bodies.{Rowwise, sorted_rows, sorted_narrow, body_rows, each_limited, each_offset}
use Rattle.hq_translation.proofs.Predicates.{own_means}
use Rattle.hq_translation.proofs.Masks.{is_permitted, behind_masks, masks_at, looks_at, looks_later, where_means}
use Rattle.hq_translation.proofs.Selects.{columns_total, permitted_filter, behind_joins, behind_shows}
use Rattle.hq_translation.proofs.Sorts.{with_sorts, sorts_cmp, sorts_total, entries_total, sorts_extend, SortsShown, sorts_shown, orders_shown, Carries, carries_behind, carries_keys, fold_orders}

order_three : (a b c : Bool) → (b && (a && c)) ≡ (a && (b && (c && true)))
order_three true true true = refl
order_three true true false = refl
order_three true false c = refl
order_three false true c = refl
order_three false false c = refl

module _ (s : Schema) (g : Grants) (d : List (List Row)) where
  own_keys : (cs : List ℕ) (u : ℕ) (x y : Row) → sorts_cmp s g d (own_sorts cs) u x y ≡ columns_cmp cs x y
  own_keys [] u x y = refl
  own_keys (c ∷ cs) u x y = ap (ordering_then (key_cmp false false (row_cell x c) (row_cell y c))) (own_keys cs u x y)

  -- the sort keys of a list: its entries, and then the table's key
  pub keys_append : (ks : List SortKey) (cs : List ℕ) (u : ℕ) (x y : Row) → sorts_cmp s g d (shown_sorts ks (own_sorts cs)) u x y ≡ then_cmp (entries_cmp ks s (seen_by s g d) u) (columns_cmp cs) x y
  keys_append [] cs u x y = own_keys cs u x y
  keys_append (k ∷ ks) cs u x y =
      let here : Ordering = key_cmp k.desc k.nulls_first (sort_cell k.through s (seen_by s g d) u k.column x) (sort_cell k.through s (seen_by s g d) u k.column y) in
      ap (ordering_then here) (keys_append ks cs u x y) ∙ orders_absorb.assoc here (entries_cmp ks s (seen_by s g d) u x y) (columns_cmp cs x y)

  each_distinct : (P : Row → Type 0) (cs : List ℕ) (u : ℕ) (xs : List Row) → Each P xs → Each P (distinct_rows cs (seen_by s g d) u xs)
  each_distinct P [] u xs h = h
  each_distinct P (c ∷ cs) u xs h = each_firsts P (same_cells (c ∷ cs) (seen_by s g d) u) xs h

  ascends_distinct : (R : Row → Row → Ordering) (cs : List ℕ) (u : ℕ) (xs : List Row) → Ascends R xs → Ascends R (distinct_rows cs (seen_by s g d) u xs)
  ascends_distinct R [] u xs h = h
  ascends_distinct R (c ∷ cs) u xs h = ascends_firsts R _ xs h

  ascends_limited : (R : Row → Row → Ordering) (limit : Option ℕ) (xs : List Row) → Ascends R xs → Ascends R (limited limit xs)
  ascends_limited R None xs h = h
  ascends_limited R (Some n) xs h = ascends_take R n xs h

  ascends_offset : (R : Row → Row → Ordering) (offset : Option ℕ) (xs : List Row) → Ascends R xs → Ascends R (offset_by offset xs)
  ascends_offset R None xs h = h
  ascends_offset R (Some n) xs h = ascends_drop R n xs h

  -- DISTINCT ON compares the shown cells
  same_looked : (u : ℕ) (columns : List Column) (look : Look) (cs : List ℕ) (e f : Scope) (x y : Row) → Looks look cs e (shown s g d u x)
      → Looks look cs f (shown s g d u y) → same_values (distinct_columns columns look cs) e f ≡ same_cells cs (seen_by s g d) u x y
  same_looked u columns look [] e f x y l k = refl
  same_looked u columns look (c ∷ cs) e f x y l k =
      let here = used_left c (c ∷ []) cs (used_one c) in
      rw (l c here, k c here, same_looked u columns look cs e f x y (looks_right look (c ∷ []) cs e (shown s g d u x) l) (looks_right look (c ∷ []) cs f (shown s g d u y) k)) refl

  distinct_map : (u : ℕ) (columns : List Column) (look : Look) (X : Row → Scope) (cs : List ℕ)
      → ((r : Row) → Narrow s u r → Looks look cs (X r) (shown s g d u r)) → (l : List Row) → Each (Narrow s u) l
      → distinct_on (distinct_columns columns look cs) (map X l) ≡ map X (distinct_rows cs (seen_by s g d) u l)
  distinct_map u columns look X [] looked l narrow = refl
  distinct_map u columns look X (c ∷ cs) looked l narrow =
      firsts_map_on (Narrow s u) X (same_cells (c ∷ cs) (seen_by s g d) u) (same_values (distinct_columns columns look (c ∷ cs)))
      (λ x y p q. same_looked u columns look (c ∷ cs) (X x) (X y) x y (looked x p) (looked y q)) l narrow

-- A list of table u at the alias of number n whose outputs use the columns `more`, with the joins J of its children: each row is
-- tied to what stands around by `tie`.
module _ (s : Schema) (tables : List Table) (d : List (List Row)) (sound : Sound s tables d) (g : Grants) (u n : ℕ) (a : ListArguments)
    (more : List ℕ) (J : List JoinTree) (k : ℕ) (F : Row → Scope → Scope)
    (x : Extends s (record { tables = tables; database = d }) J u n (children_from s (granted_of g) u (list_used s u a more) a n) k F)
    (bound : n + (list_numbers s (granted_of g) u (list_used s u a more) a + k) ≤ 2 ^ 64) (scope : Scope) where
  abbrev pub w : World
  w = record { tables = tables; database = d }

  abbrev pub cs : List ℕ
  cs = list_used s u a more

  abbrev pub look : Look
  look = shown_look s (granted_of g) u cs n

  abbrev pub keys : List Sort
  keys = list_sorts s u a

  abbrev pub from : ℕ
  from = sorts_from s (granted_of g) u cs a n

  -- behind the masks; from there behind the sorts and the children; and behind all
  abbrev pub M : Row → Scope → Scope
  M = behind_masks s tables d sound g u cs n

  abbrev pub H : Row → Scope → Scope
  H row e = F row (with_sorts s g d keys u from row e)

  abbrev pub G : Row → Scope → Scope
  G row e = F row (with_sorts s g d keys u from row (M row e))

  pub later : Extends s w (sorts_joins keys s (granted_of g) u n from ++ J) u n from (sorts_numbers keys s (granted_of g) u + k) H
  later =
      extends_apart s w (sorts_joins keys s (granted_of g) u n from) J u n from (sorts_numbers keys s (granted_of g) u)
      (children_from s (granted_of g) u cs a n) k _ (with_sorts s g d keys u from) F (omega arith) (omega arith)
      (sorts_extend s g d tables sound keys u n from (omega arith) (omega arith)) x

  pub all : Extends s w (masks s (granted_of g) u cs n ++ (sorts_joins keys s (granted_of g) u n from ++ J)) u n (n + 1)
      (extra s (granted_of g) u cs + filter_numbers s (granted_of g) u + where_numbers a.wanted s (granted_of g) u
      + sorts_numbers keys s (granted_of g) u + k)
      G
  all =
      extends_apart s w (masks s (granted_of g) u cs n) (sorts_joins keys s (granted_of g) u n from ++ J) u n (n + 1)
      (extra s (granted_of g) u cs) from (sorts_numbers keys s (granted_of g) u + k) _ M H (omega arith) (omega arith)
      (masks_at s tables d sound g u n cs (omega arith)) later

  -- the scope of a row behind all joins
  abbrev pub X : Row → Scope
  X far = F far (with_sorts s g d keys u from far (M far (at_row s u n scope far)))

  pub x_shows : (far : Row) → Narrow s u far → Shows s (X far) u n far
  x_shows = behind_shows s tables d sound u n _ _ _ G all scope

  x_looks : (far : Row) → Narrow s u far → Looks look cs (X far) (shown s g d u far)
  x_looks far narrow =
      looks_later s tables d sound g u n cs _ u n from (sorts_numbers keys s (granted_of g) u + k) H later (omega arith) (omega arith) (M far (at_row s u n scope far)) far (shown s g d u far)
      (looks_at s tables d sound g u n cs (at_row s u n scope far) far (omega arith) (shows_row s scope u n far (sound.differ u) narrow))

  x_where : (far : Row) → Narrow s u far → Looks look (columns_in a.wanted) (X far) (shown s g d u far)
  x_where far narrow = looks_left look (columns_in a.wanted) (used_sorts keys ++ ((once a).distinct ++ more)) (X far) (shown s g d u far) (x_looks far narrow)

  x_behind_where : (far : Row) → Narrow s u far → Looks look (used_sorts keys ++ ((once a).distinct ++ more)) (X far) (shown s g d u far)
  x_behind_where far narrow = looks_right look (columns_in a.wanted) (used_sorts keys ++ ((once a).distinct ++ more)) (X far) (shown s g d u far) (x_looks far narrow)

  x_behind_sorts : (far : Row) → Narrow s u far → Looks look ((once a).distinct ++ more) (X far) (shown s g d u far)
  x_behind_sorts far narrow = looks_right look (used_sorts keys) ((once a).distinct ++ more) (X far) (shown s g d u far) (x_behind_where far narrow)

  x_distinct : (far : Row) → Narrow s u far → Looks look (once a).distinct (X far) (shown s g d u far)
  x_distinct far narrow = looks_left look (once a).distinct more (X far) (shown s g d u far) (x_behind_sorts far narrow)

  -- the columns of the outputs
  pub x_more : (far : Row) → Narrow s u far → Looks look more (X far) (shown s g d u far)
  x_more far narrow = looks_right look (once a).distinct more (X far) (shown s g d u far) (x_behind_sorts far narrow)

  x_sorts : (far : Row) → Narrow s u far → SortsShown s g d keys look u n from (X far) far
  x_sorts far narrow =
      sorts_shown s g d tables sound keys look u n from (M far (at_row s u n scope far)) (X far) far (omega arith) (omega arith) (x_shows far narrow)
      (looks_left look (used_sorts keys) ((once a).distinct ++ more) (X far) (shown s g d u far) (x_behind_where far narrow))
      (λ m e f. x.keeps _ far (join_alias m) (λ q i j. join_aliases_differ m q (omega arith) (omega arith)))

  module _ (tie : PredTree) (tied : Row → Bool) where
    -- which rows the list keeps
    abbrev pub test : Row → Bool
    test far = tied far && (is_permitted s g d u far && (keeps a.wanted s (seen_by s g d) u far && true))

    abbrev pub chosen : Option ℕ → List Row
    chosen limit = limited limit (offset_by a.offset (distinct_rows (once a).distinct (seen_by s g d) u (sorted_rows d u (sorts_cmp s g d keys u) test)))

    module _ (means : (far : Row) → Narrow s u far → is_true (truth_at tie w (X far)) ≡ tied far) where
      abbrev condition : List PredTree
      condition =
          with_member tie
          (with_member (filter_predicate s (granted_of g) u n (filter_from s (granted_of g) u cs n))
          (with_member (predicate a.wanted s (where_mode s (granted_of g)) look u n (behind_filter s (granted_of g) u cs n)) []))

      rowwise : Rowwise s w u n scope (masks s (granted_of g) u cs n ++ (sorts_joins keys s (granted_of g) u n from ++ J))
          (where_of condition) (orders keys s (granted_of g) look u n from) X test (sorts_cmp s g d keys u)
      rowwise =
          let own : PredTree = filter_predicate s (granted_of g) u n (filter_from s (granted_of g) u cs n) in
          let wanted : PredTree = predicate a.wanted s (where_mode s (granted_of g)) look u n (behind_filter s (granted_of g) u cs n) in
          record {
            joins = behind_joins s tables d sound u n _ _ _ G all scope;
            keeps = λ far narrow.
                kept_three w (X far) tie own wanted
                ∙ ap₂ (λ b c. b && c) (means far narrow)
                (ap₂ (λ b c. b && (c && true)) (own_means s tables d sound (grant g u).filter u n (filter_from s (granted_of g) u cs n) (X far) far (omega arith) (omega arith) (x_shows far narrow))
                (ap is_true (where_means s tables d sound g a.wanted look u n (behind_filter s (granted_of g) u cs n) (X far) far (omega arith) (omega arith)
                (x_shows far narrow) (x_where far narrow))));
            ordered = λ x y p q. orders_shown s g d keys look u n from (X x) (X y) x y (x_sorts x p) (x_sorts y q);
          }

      pub rows_are : (limit : Option ℕ) (outs : List OutTree) → rows_of (list_rows s (granted_of g) u cs a n tie limit outs J) w scope ≡ map (λ r. outputs outs [] (X r)) (chosen limit)
      rows_are limit outs =
          body_rows s tables d sound u n scope _ _ _ X test (sorts_cmp s g d keys u) rowwise
          (distinct_columns (table s u).columns look (once a).distinct) (distinct_rows (once a).distinct (seen_by s g d) u)
          (λ l narrow. distinct_map s g d u (table s u).columns look X (once a).distinct x_distinct l narrow) outs limit a.offset

      pub chosen_narrow : (limit : Option ℕ) → Each (Narrow s u) (chosen limit)
      chosen_narrow limit =
          each_limited (Narrow s u) limit _ (each_offset (Narrow s u) a.offset _ (each_distinct s g d (Narrow s u) (once a).distinct u _
          (sorted_narrow s tables d sound u n scope _ _ _ X test (sorts_cmp s g d keys u) rowwise)))

    -- the rows that are kept are the selected ones
    pub chosen_selected : (limit : Option ℕ) → chosen limit ≡ limited limit (offset_by a.offset (ordered s (seen_by s g d) u a (filter tied (permitted s g d u))))
    chosen_selected limit =
        let S = seen_by s g d in
        let asked : Row → Bool = λ r. keeps a.wanted s S u r in
        let rows : List Row = filter test (table_rows d u) in
        sym
        (ap (λ l. limited limit (offset_by a.offset (distinct_rows (once a).distinct S u l)))
        (ap (sort (entries_cmp (entries (once a)) s S u))
        (filter_filter asked tied (permitted s g d u)
        ∙ permitted_filter s g d u test (λ r. tied r && asked r) (λ r. order_three (tied r) (is_permitted s g d u r) (asked r)))
        ∙ sort_sort (entries_total s g d (entries (once a)) u) (columns_total (table s u).key) rows
        ∙ sort_on (λ (r : Row). Unit {0}) (then_cmp (entries_cmp (entries (once a)) s S u) (columns_cmp (table s u).key))
        (sorts_cmp s g d keys u) (λ x y p q. sym (keys_append s g d (entries (once a)) (table s u).key u x y)) rows
        (each_all (λ (r : Row). Unit {0}) (λ r. tt) rows)))
        ∙ ap (λ l. limited limit (offset_by a.offset l)) (ordered_once s S u a (filter tied (permitted s g d u)))

    module _ (means : (far : Row) → Narrow s u far → is_true (truth_at tie w (X far)) ≡ tied far) where
      pub list_means : (values : List PairTree) (members_at : Row → MemberTrees) → length keys ≤ 2 ^ 64 → ((far : Row) → Narrow s u far → members (pairs_of values) [] (X far) ≡ members_at far)
          → rows_of (list_select s (granted_of g) u cs a n tie values J) w scope
          ≡ ((value_name, json (arr (elements_of (map (λ far. obj (members_at far)) (selected s (seen_by s g d) u a (grant g u).limit (filter tied (permitted s g d u))))))) ∷ []) ∷ []
      list_means values members_at few children =
          let limit : Option ℕ = smaller a.limit (grant g u).limit in
          let outs : List OutTree = list_outputs s (granted_of g) u cs a n values in
          let out : Row → NamedRow = λ r. outputs outs [] (X r) in
          let R : Row → Row → Ordering = sorts_cmp s g d keys u in
          let chosen_rows : List Row = chosen limit in
          let narrow : Each (Narrow s u) chosen_rows = chosen_narrow means limit in
          let group : Row → Scope = λ r. with_alias scope (fold_alias n) (out r) in
          let by : Scope → Scope → Ordering = orders_cmp (orders_of (output_orders keys s u n 0)) in
          let carried : (r : Row) → Narrow s u r → Carries s g d (group r (fold_alias n)) keys u 0 r =
          λ r f. rw (with_alias_same scope (fold_alias n) (out r))
          (carries_behind s g d _ value_name _ keys u 0 r (λ j e h. value_is_no_key j)
          (carries_keys s g d keys look u n from 0 (X r) r (x_sorts r f) (omega arith)))
          in
          let sorted : sort by (map group chosen_rows) ≡ map group (sort R chosen_rows) =
          sort_map_on (Narrow s u) group R by (λ x y p q. fold_orders s g d n keys u 0 (group x) (group y) x y (carried x p) (carried y q)) chosen_rows narrow in
          let again : sort R chosen_rows ≡ chosen_rows =
          sort_ascending (sorts_total s g d keys u) chosen_rows
          (ascends_limited s g d R limit _
          (ascends_offset s g d R a.offset _
          (ascends_distinct s g d R (once a).distinct u _ (ascends_sort (sorts_total s g d keys u) (filter test (table_rows d u))))))
          in
          let each_json : (r : Row) → Narrow s u r → json_of (cell_named (group r (fold_alias n)) value_name) ≡ obj (members_at r) =
          λ r f. rw (with_alias_same scope (fold_alias n) (out r), same_text value_name) (ap obj (children r f)) in
          ap (λ l. ((value_name, json (arr (elements_of (map (λ e. json_of (cell_named (e (fold_alias n)) value_name)) l)))) ∷ []) ∷ [])
          (ap (λ l. sort by (map (with_alias scope (fold_alias n)) l)) (rows_are means limit outs)
          ∙ ap (sort by) (map_map (with_alias scope (fold_alias n)) out chosen_rows)
          ∙ sorted ∙ ap (map group) again)
          ∙ ap (λ l. ((value_name, json (arr (elements_of l))) ∷ []) ∷ [])
          (map_map (λ e. json_of (cell_named (e (fold_alias n)) value_name)) group chosen_rows
          ∙ map_on (Narrow s u) (λ r. json_of (cell_named (group r (fold_alias n)) value_name)) (λ r. obj (members_at r)) each_json chosen_rows narrow)
          ∙ ap (λ l. ((value_name, json (arr (elements_of (map (λ far. obj (members_at far)) l)))) ∷ []) ∷ []) (chosen_selected limit)
