-- The first row of a table that is permitted and tied to what stands around.
use Rattle.std.proofs.Common.{◌≡◌, ℕ, ◌+◌, ◌<◌, ◌≤◌, ◌^◌, List, [], ◌∷◌, map, filter, take, Bool, true, false, ◌&&◌, Some, None, refl, sym, ap, ap₂, ◌∙◌, Ordering, Equal}
use Rattle.std.specs.Cmp.{IsTotalOrder}
use Rattle.std.proofs.lemmas.Cmp.{on_total, then_total}
use Rattle.hq_base.specs.Cells.{CellTree}
use Rattle.hq_base.specs.Lists.{Each, sort}
use Rattle.hq_base.proofs.Lists.{filter_filter, filter_on, each_all}
use Rattle.hq_base.proofs.Orders.{key_cmp_total}
use Rattle.hq_base.proofs.Sorts.{sort_filter}
use Rattle.hq_model.specs.Database.{Row}
use Rattle.hq_model.specs.Grants.{Grants, grant}
use Rattle.hq_model.specs.Logic.{is_true}
use Rattle.hq_model.specs.Permitted.{columns_cmp, permitted}
use Rattle.hq_model.specs.Schema.{Schema, table}
use Rattle.hq_model.specs.Seen.{row_cell, table_rows}
use Rattle.hq_model.specs.declared.table.Table.{Table}
use Rattle.hq_sql_tree.specs.Tree.{ExprTree, JoinTree, joins_of, PredTree}
use Rattle.hq_sql_tree.specs.Meaning.{Scope, World, value, or_null_row, order_cmp, outputs, rows_of, joined, truth_at}
use Rattle.hq_translation.specs.GrantedTables.{granted_of}
use Rattle.hq_translation.specs.Names.{table_alias}
use Rattle.hq_translation.specs.Conditions.{with_member, where_of}
use Rattle.hq_translation.specs.Masks.{value_output, filter_numbers, filter_predicate}
use Rattle.hq_translation.specs.Selects.{key_orders, first_select}
use Rattle.hq_translation.proofs.Names.{Shows, Narrow, at_row, shows_row, shows_behind, table_aliases_differ}
use Rattle.hq_translation.proofs.Sound.{Sound}
use Rattle.hq_translation.proofs.Conditions.{kept_two}
use Rattle.hq_translation.proofs.Extends.{Extends, goes_last, shows_kept, first_named}
use Rattle.hq_translation.proofs.Bodies.{Rowwise, sorted_rows, sorted_narrow, body_rows}
use Rattle.hq_translation.proofs.Predicates.{own_means}
use Rattle.hq_translation.proofs.Masks.{is_permitted}

pub none_total : {A : Type 0} → IsTotalOrder {K = A} (λ x y. Equal)
none_total = record { antisymm = λ x y. refl; trans = λ x y z h g. h; congr = λ x y z h. refl }

pub columns_total : (cs : List ℕ) → IsTotalOrder (columns_cmp cs)
columns_total [] = none_total
columns_total (c ∷ cs) = then_total (on_total (λ row. row_cell row c) (key_cmp_total false false)) (columns_total cs)

-- ORDER BY the columns of a key orders scopes as their rows
pub key_orders_alike : (s : Schema) (t p : ℕ) (cs : List ℕ) (e f : Scope) (x y : Row) → Shows s e t p x → Shows s f t p y → order_cmp (key_orders (table s t).columns p cs) e f ≡ columns_cmp cs x y
key_orders_alike s t p [] e f x y g h = refl
key_orders_alike s t p (c ∷ cs) e f x y g h = rw (g c, h c, key_orders_alike s t p cs e f x y g h) refl

order_two : (a b : Bool) → (b && a) ≡ (a && (b && true))
order_two true true = refl
order_two true false = refl
order_two false true = refl
order_two false false = refl

-- a test of the permitted rows is one filter below the sort by key
pub permitted_filter : (s : Schema) (g : Grants) (d : List (List Row)) (u : ℕ) (test p : Row → Bool) → ((r : Row) → (is_permitted s g d u r && p r) ≡ test r)
    → filter p (permitted s g d u) ≡ sort (columns_cmp (table s u).key) (filter test (table_rows d u))
permitted_filter s g d u test p e =
    let counts : Row → Bool = is_permitted s g d u in
    filter_filter p counts (sort (columns_cmp (table s u).key) (table_rows d u))
    ∙ sort_filter (columns_total (table s u).key) (λ r. counts r && p r) (table_rows d u)
    ∙ ap (sort (columns_cmp (table s u).key))
    (filter_on (λ (r : Row). Unit {0}) (λ r. counts r && p r) test (λ r h. e r) (table_rows d u)
    (each_all (λ (r : Row). Unit {0}) (λ r. tt) (table_rows d u)))

module _ (s : Schema) (tables : List Table) (d : List (List Row)) (sound : Sound s tables d) (u n : ℕ) (J : List JoinTree) (m k : ℕ)
    (F : Row → Scope → Scope) (x : Extends s (record { tables = tables; database = d }) J u n m k F) where
  abbrev w : World
  w = record { tables = tables; database = d }

  -- the scope of a row behind the joins
  abbrev pub behind : Scope → Row → Scope
  behind scope far = F far (at_row s u n scope far)

  pub behind_joins : (scope : Scope) (far : Row) → Narrow s u far → joined (joins_of J) w (at_row s u n scope far) ≡ behind scope far ∷ []
  behind_joins scope far narrow = goes_last s w x (at_row s u n scope far) far (shows_row s scope u n far (sound.differ u) narrow)

  pub behind_shows : (scope : Scope) (far : Row) → Narrow s u far → Shows s (behind scope far) u n far
  behind_shows scope far narrow = shows_kept s w x (at_row s u n scope far) far u n far (shows_row s scope u n far (sound.differ u) narrow)

  pub behind_above : (scope : Scope) (far : Row) (t p : ℕ) (row : Row) → p < n → n < 2 ^ 64 → Shows s scope t p row → Shows s (behind scope far) t p row
  behind_above scope far t p row lt small shows = shows_kept s w x (at_row s u n scope far) far t p row (shows_behind s scope t p (table_alias n) row _ (table_aliases_differ p n lt small) shows)

  first_row : (e : ExprTree) (cell : Row → CellTree) (scope : Scope) → ((far : Row) → Narrow s u far → value e [] (behind scope far) ≡ cell far) → (l : List Row) → Each (Narrow s u) l
      → or_null_row (map (λ r. outputs (value_output e) [] (behind scope r)) (take 1 l)) ≡ first_named (map cell l) ∷ []
  first_row e cell scope values [] h = refl
  first_row e cell scope values (r ∷ l) h = rw (values r h.0) refl

  -- the value of an expression at the first row by key of the permitted rows that are tied to what stands around
  pub first_means : (g : Grants) (e : ExprTree) (cell : Row → CellTree) (scope : Scope) (tie : PredTree) (tied : Row → Bool) (q : ℕ) → n < q → q + filter_numbers s (granted_of g) u ≤ 2 ^ 64
      → ((far : Row) → Narrow s u far → value e [] (behind scope far) ≡ cell far)
      → ((far : Row) → Narrow s u far → is_true (truth_at tie w (behind scope far)) ≡ tied far)
      → or_null_row (rows_of (first_select s u n tie (filter_predicate s (granted_of g) u n q) e J) w scope) ≡ first_named (map cell (filter tied (permitted s g d u))) ∷ []
  first_means g e cell scope tie tied q lt bound values means =
      let condition : PredTree = filter_predicate s (granted_of g) u n q in
      let test : Row → Bool = λ far. tied far && (is_permitted s g d u far && true) in
      let X : Row → Scope = behind scope in
      let R : Row → Row → Ordering = columns_cmp (table s u).key in
      let rowwise : Rowwise s w u n scope J (where_of (with_member tie (with_member condition []))) (key_orders (table s u).columns n (table s u).key) X test R = record {
        joins = behind_joins scope;
        keeps = λ far narrow.
            kept_two w (X far) tie condition
            ∙ ap₂ (λ a b. a && (b && true)) (means far narrow) (own_means s tables d sound (grant g u).filter u n q (X far) far lt bound (behind_shows scope far narrow));
        ordered = λ a b f h. key_orders_alike s u n (table s u).key (X a) (X b) a b (behind_shows scope a f) (behind_shows scope b h);
      } in
      ap or_null_row (body_rows s tables d sound u n scope J _ _ X test R rowwise [] (λ l. l) (λ l narrow. refl) (value_output e) (Some 1) None)
      ∙ first_row e cell scope values (sorted_rows d u R test) (sorted_narrow s tables d sound u n scope J _ _ X test R rowwise)
      ∙ ap (λ z. first_named (map cell z) ∷ []) (sym (permitted_filter s g d u test tied (λ far. order_two (tied far) (is_permitted s g d u far))))
