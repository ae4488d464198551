-- The sort keys of a list are plain ones in front of the run of its key, in the list's rows and in the fold over them.
use Rattle.std.proofs.Common.{◌≡◌, ℕ, suc, ◌+◌, ◌<◌, ◌≤◌, ◌^◌, List, [], ◌∷◌, length, true, false, refl, ap, ◌∙◌, subst, arith, eq-eqb, ◌==◌}
use Rattle.hq_base.specs.Lists.{Each}
use Rattle.hq_model.specs.Grants.{Grants}
use Rattle.hq_model.specs.Schema.{Schema, table}
use Rattle.hq_model.specs.Selected.{SortKey}
use Rattle.hq_sql_tree.specs.Tree as tree
use Rattle.hq_sql_tree.specs.Tree.{OrderTree, OrderTrees, orders_of}
use Rattle.hq_translation.specs.Fine.{Has}
use Rattle.hq_translation.specs.Looks.{Look, ColumnName}
use Rattle.hq_translation.specs.Names.{table_alias}
use Rattle.hq_translation.specs.GrantedTables.{GrantedTables, granted_of}
use Rattle.hq_translation.specs.Sorts.{Sort, shown_sorts, own_sorts, used_sorts, last_used, sort_form, sort_place, sort_numbers, sort_joins, sorts_numbers, sorts_joins, orders}
use Rattle.hq_translation.proofs.Names.{same_text}
use Rattle.hq_translation.proofs.Scopes.{under_later}
use Rattle.hq_confine_rules.specs.Origins.{Shapes}
use Rattle.hq_confine_rules.specs.Uses.{is_run, expr_faults}
use Rattle.hq_confine_rules.specs.Ready.{Ready, AllowedSort}
use Rattle.hq_confine_rules.proofs.Chains.{PlainAt, chain_clean}
use Rattle.hq_confine_rules.proofs.Runs.{size, in_front, Run}
use Rattle.hq_confine_rules.proofs.Scopes.{Grows, Scans, scans_behind, own_origin, Shows, shows_left, shows_right, column_clean, Joined, joined_none, joined_then, joined_as, sooner}

module _ (s : Schema) (g : Grants) (t p : ℕ) (look : Look) where
  -- the numbers behind entries
  abbrev pub behind_sorts : List SortKey → ℕ → ℕ
  behind_sorts [] n = n
  behind_sorts (k ∷ ks) n = behind_sorts ks (n + sort_numbers k.through s (granted_of g) t k.column)

  abbrev pub place_at : SortKey → ℕ → ColumnName
  place_at k n = sort_place false k.through s look t p n k.column

  -- entries as sort keys of the rows
  abbrev pub entry_orders : List SortKey → ℕ → List OrderTree
  entry_orders [] n = []
  entry_orders (k ∷ ks) n =
      record { value = tree.column (place_at k n).alias (place_at k n).name (sort_form s t k); desc = k.desc; nulls_first = k.nulls_first }
      ∷ entry_orders ks (n + sort_numbers k.through s (granted_of g) t k.column)

  pub orders_split : (es : List SortKey) (cs : List ℕ) (n : ℕ)
      → orders_of (orders (shown_sorts es (own_sorts cs)) s (granted_of g) look t p n)
      ≡ in_front (entry_orders es n) (orders_of (orders (own_sorts cs) s (granted_of g) look t p (behind_sorts es n)))
  orders_split [] cs n = refl
  orders_split (k ∷ ks) cs n =
      ap (tree.order (tree.column (place_at k n).alias (place_at k n).name (sort_form s t k)) k.desc k.nulls_first)
      (orders_split ks cs (n + sort_numbers k.through s (granted_of g) t k.column))

  -- where each of them stands it is plain
  abbrev pub EntriesPlain : Shapes → List SortKey → ℕ → Type 0
  EntriesPlain final [] n = Unit {0}
  EntriesPlain final (k ∷ ks) n = PlainAt s g final (place_at k n) × EntriesPlain final ks (n + sort_numbers k.through s (granted_of g) t k.column)

  pub entries_clean : (final : Shapes) (es : List SortKey) (n : ℕ) → EntriesPlain final es n → Each (λ x. expr_faults s g final x.value ≡ []) (entry_orders es n)
  entries_clean final [] n h = tt
  entries_clean final (k ∷ ks) n h = (
    column_clean s g final (place_at k n).alias (place_at k n).name (sort_form s t k) h.0,
    entries_clean final ks (n + sort_numbers k.through s (granted_of g) t k.column) h.1,
  )

  -- ---- joins

  own_joined : (cs : List ℕ) (scope : Shapes) (n : ℕ) → Joined s g scope n (n + sorts_numbers (own_sorts cs) s (granted_of g) t) (sorts_joins (own_sorts cs) s (granted_of g) t p n) (λ final. Unit {0})
  own_joined [] scope n = joined_none s g scope n (n + 0) (λ final. Unit {0}) (λ final grown. tt)
  own_joined (c ∷ cs) scope n =
      let rest = own_joined cs scope (n + 0) in
      joined_as s g scope n ((n + 0) + sorts_numbers (own_sorts cs) s (granted_of g) t)
      (n + sorts_numbers (own_sorts (c ∷ cs)) s (granted_of g) t) (sorts_joins (own_sorts cs) s (granted_of g) t p (n + 0))
      (λ final. Unit {0}) (λ final. Unit {0}) (omega arith) (λ final h. h)
      (sooner s g scope n (n + 0) ((n + 0) + sorts_numbers (own_sorts cs) s (granted_of g) t) (sorts_joins (own_sorts cs) s (granted_of g) t p (n + 0)) (λ final. Unit {0}) (omega arith) rest)

  pub sorts_joined : (es : List SortKey) (cs : List ℕ) (scope : Shapes) (n : ℕ)
      → Each (λ k. AllowedSort s g t (record { own = false; key = k })) es → Scans scope p t → p < n
      → n + sorts_numbers (shown_sorts es (own_sorts cs)) s (granted_of g) t ≤ 2 ^ 64
      → ((final : Shapes) → Grows n scope final → Shows s g final look (used_sorts (shown_sorts es (own_sorts cs))))
      → Joined s g scope n (n + sorts_numbers (shown_sorts es (own_sorts cs)) s (granted_of g) t)
      (sorts_joins (shown_sorts es (own_sorts cs)) s (granted_of g) t p n) (λ final. EntriesPlain final es n)
  sorts_joined [] cs scope n f own lt bound shows = own_joined cs scope n
  sorts_joined (k ∷ ks) cs scope n f own lt bound shows =
      let R : GrantedTables = granted_of g in
      let here : ℕ = sort_numbers k.through s R t k.column in
      let mid : ℕ = n + here in
      let rest : List Sort = shown_sorts ks (own_sorts cs) in
      let top : ℕ = n + (here + sorts_numbers rest s R t) in
      let first =
      chain_clean s g k.through scope t p n k.column look f.0 own lt (omega arith)
      (λ final grown used. shows_left s g final look (last_used k.through k.column) (used_sorts rest) (shows final grown) k.column
      used) in
      let next = sorts_joined ks cs first.after mid f.1 (scans_behind scope first.after p n t lt first.grows own) (omega arith) (omega arith)
      (λ final grown. shows_right s g final look (last_used k.through k.column) (used_sorts rest) (shows final (λ a u. grown a (under_later n mid a (omega arith) u) ∙ first.grows a u))) in
      let wide =
      joined_as s g first.after mid (mid + sorts_numbers rest s R t) top (sorts_joins rest s R t p mid)
      (λ final. EntriesPlain final ks mid) (λ final. EntriesPlain final ks mid) (omega arith) (λ final h. h) next in
      joined_then s g scope n mid top (sort_joins k.through s R t p n k.column) (sorts_joins rest s R t p mid)
      (λ final. PlainAt s g final (place_at k n)) (λ final. EntriesPlain final ks mid) (omega arith) (omega arith) first wide

  -- ---- the run of the key

  self_eq : (n : ℕ) → (n == n) ≡ true
  self_eq n = let e = eq-eqb n n refl in rw e refl

  own_run : (final : Shapes) → Ready s g t → Scans final p t → (cs : List ℕ) (n : ℕ) → Each (Has s t) cs
      → is_run s final t (table_alias p ∷ []) cs (orders_of (orders (own_sorts cs) s (granted_of g) look t p n)) ≡ true
  own_run final ready k [] n h = refl
  own_run final ready k (c ∷ cs) n h =
      let own = own_origin s g final p t c ready h.0 k in
      rw (own, self_eq t, self_eq c, same_text (table_alias p)) (own_run final ready k cs (n + 0) h.1)

  own_size : (cs : List ℕ) (n : ℕ) → size (orders_of (orders (own_sorts cs) s (granted_of g) look t p n)) ≡ length cs
  own_size [] n = refl
  own_size (c ∷ cs) n = ap suc (own_size cs (n + 0))

  pub rows_run : (final : Shapes) (n : ℕ) → Ready s g t → Scans final p t → Run s g final t (table_alias p ∷ []) (orders_of (orders (own_sorts (table s t).key) s (granted_of g) look t p n))
  rows_run final n ready k =
      let K : OrderTrees = orders_of (orders (own_sorts (table s t).key) s (granted_of g) look t p n) in
      record {
        first = ready.first;
        rest = ready.rest;
        key = ready.keyed;
        differ = ready.differ;
        run = subst (λ cs. is_run s final t (table_alias p ∷ []) cs K ≡ true) ready.keyed (own_run final ready k (table s t).key n ready.key);
        whole = own_size (table s t).key n ∙ ap length ready.keyed;
      }
