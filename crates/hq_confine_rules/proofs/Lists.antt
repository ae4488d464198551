-- The rows of a list are without faults.
use Rattle.std.proofs.Common.{◌≡◌, ℕ, ◌+◌, ◌≤◌, ◌^◌, List, [], ◌∷◌, ◌++◌, Bool, true, false, Option, refl, sym, ap, ◌∙◌, subst, arith}
use Rattle.hq_base.specs.Lists.{Each}
use Rattle.hq_model.specs.Grants.{Grants}
use Rattle.hq_model.specs.Schema.{Schema, table}
use Rattle.hq_model.specs.Selected.{SortKey, ListArguments, entries}
use Rattle.hq_model.specs.declared.table.Column.{Column}
use Rattle.hq_sql_tree.specs.Tree.{OrderTree, OrderTrees, OutTree, JoinTree, FilterTree, PredTree, joins_of, orders_of}
use Rattle.hq_translation.specs.Conditions.{with_member, where_of}
use Rattle.hq_translation.specs.Lists.{once, list_sorts, list_used, sorts_from, children_from, distinct_columns, list_rows}
use Rattle.hq_translation.specs.Looks.{Look, type_in, compared_form}
use Rattle.hq_translation.specs.Masks.{extra, masks, shown_look, filter_predicate, where_mode}
use Rattle.hq_translation.specs.Names.{table_alias}
use Rattle.hq_translation.specs.Predicates.{columns_in, predicate}
use Rattle.hq_translation.specs.GrantedTables.{GrantedTables, granted_of}
use Rattle.hq_translation.specs.Selects.{behind_filter}
use Rattle.hq_translation.specs.Sorts.{Sort, used_sorts, sorts_joins, orders, own_sorts}
use Rattle.hq_translation.proofs.Names.{used_left, used_right, used_one}
use Rattle.hq_translation.proofs.Scopes.{under_table, under_later, looks_under_later}
use Rattle.hq_confine_rules.specs.Conjuncts.{opened, conjuncts}
use Rattle.hq_confine_rules.specs.Origins.{Shapes}
use Rattle.hq_confine_rules.specs.Members.{filter_conjuncts, stand_among}
use Rattle.hq_confine_rules.specs.Uses.{has_run, exprs_faults, outs_faults, orders_faults}
use Rattle.hq_confine_rules.specs.Faults.{is_exempt, select_faults, where_faults}
use Rattle.hq_confine_rules.specs.Ready.{Ready, Permits, Allowed, AllowedSort}
use Rattle.hq_confine_rules.proofs.Clean.{none, clean_free, exempt_free, three_free, where_conjuncts}
use Rattle.hq_confine_rules.proofs.Exempt.{filter_stands, filter_exempt, shown_under}
use Rattle.hq_confine_rules.proofs.Runs.{in_front, covered, stands}
use Rattle.hq_confine_rules.proofs.Scopes.{Shows, shows_behind, shows_left, shows_right, column_clean, Joined, joined_then, sooner, joins_clean, joins_shapes}
use Rattle.hq_confine_rules.proofs.Sorts.{behind_sorts, entry_orders, orders_split, EntriesPlain, entries_clean, sorts_joined, rows_run}
use Rattle.hq_confine_rules.proofs.Wanted.{from_of, with_scan, rows_clean, wanted_clean, Behind, alias_joins, IsTied}

module _ (s : Schema) (g : Grants) where
  -- DISTINCT ON by columns that are plain
  distinct_clean : (final : Shapes) (columns : List Column) (look : Look) (cs : List ℕ) → Shows s g final look cs → exprs_faults s g final (distinct_columns columns look cs) ≡ []
  distinct_clean final columns look [] k = refl
  distinct_clean final columns look (c ∷ cs) k =
      none _ _
      (column_clean s g final (look c).alias (look c).name (compared_form (type_in columns c))
      (k c (used_left c (c ∷ []) cs (used_one c))))
      (distinct_clean final columns look cs (λ d used. k d (used_right d (c ∷ []) cs used)))

  -- what stands behind the joins of a list: the masks of its rows, its sort keys and its children
  abbrev pub ListSeen : (scope : Shapes) → (u n : ℕ) → ListArguments → (more : List ℕ) → (V : Shapes → Type 0) → Shapes → Type 0
  ListSeen scope u n a more V final =
      Behind s g scope u n (list_used s u a more) final
      × (EntriesPlain s g u n (shown_look s (granted_of g) u (list_used s u a more) n) final (entries (once a)) (sorts_from s (granted_of g) u (list_used s u a more) a n) × V final)

  -- the joins of a list of table u at the alias of number n
  abbrev pub all_joins : (u n : ℕ) → ListArguments → (more : List ℕ) → List JoinTree → List JoinTree
  all_joins u n a more J =
      masks s (granted_of g) u (list_used s u a more) n ++ (sorts_joins (list_sorts s u a) s (granted_of g) u n (sorts_from s (granted_of g) u (list_used s u a more) a n) ++ J)

  pub list_joined : (scope : Shapes) (u n m : ℕ) (a : ListArguments) (more : List ℕ) (J : List JoinTree) (V : Shapes → Type 0) → Ready s g u → Permits s g u (list_used s u a more)
      → Each (λ k. AllowedSort s g u (record { own = false; key = k })) (entries (once a)) → children_from s (granted_of g) u (list_used s u a more) a n ≤ m → m ≤ 2 ^ 64
      → ((here : Shapes) → Behind s g scope u n (list_used s u a more) here → Joined s g here (children_from s (granted_of g) u (list_used s u a more) a n) m J V)
      → Joined s g (with_scan s g u n scope) (n + 1) m (all_joins u n a more J) (ListSeen scope u n a more V)
  list_joined scope u n m a more J V ready permits sorted le bound kids =
      let R : GrantedTables = granted_of g in
      let cs : List ℕ = list_used s u a more in
      let es : List SortKey = entries (once a) in
      let ks : List Sort = list_sorts s u a in
      let look : Look = shown_look s R u cs n in
      let mid : ℕ = n + 1 + extra s R u cs in
      let behind : ℕ = behind_filter s R u cs n in
      let at : ℕ = sorts_from s R u cs a n in
      let kid : ℕ = children_from s R u cs a n in
      let E : Shapes → Type 0 = λ final. EntriesPlain s g u n look final es at in
      let sorts : List JoinTree = sorts_joins ks s R u n at in
      let both : (here : Shapes) → Behind s g scope u n cs here → Joined s g here mid m (sorts ++ J) (λ final. E final × V final) =
      λ here b.
      let uses : (final : Shapes) → Shows s g final look cs → Shows s g final look (used_sorts ks) =
      λ final k. shows_left s g final look (used_sorts ks) ((once a).distinct ++ more)
      (shows_right s g final look (columns_in a.wanted) (used_sorts ks ++ ((once a).distinct ++ more)) k) in
      let first = sorts_joined s g u n look es (table s u).key here at sorted b.own (omega arith) (omega (arith, le, bound))
      (λ final grown. uses final (shows_behind s g here final at look cs grown (looks_under_later mid at look (omega arith) (shown_under s g u n cs (omega (arith, le, bound)))) b.shown)) in
      let after : Behind s g scope u n cs first.after = record {
        own = first.grows (table_alias n) (under_later (n + 1) at (table_alias n) (omega arith) (under_table n)) ∙ b.own;
        shown = shows_behind s g here first.after at look cs first.grows (looks_under_later mid at look (omega arith) (shown_under s g u n cs (omega (arith, le, bound)))) b.shown;
        grows = λ x v. first.grows x (under_later n at x (omega arith) v) ∙ b.grows x v;
      } in
      sooner s g here mid at m (sorts ++ J) (λ final. E final × V final) (omega arith) (joined_then s g here at kid m sorts J E V (omega arith) le first (kids first.after after)) in
      alias_joins s g scope u n m cs (sorts ++ J) (λ final. E final × V final) ready permits (omega (arith, le)) bound both

  -- the rows of a list of table u at the alias of number n, their tie, outputs and children given
  pub list_clean : (scope : Shapes) (counts : Bool) (u n m : ℕ) (a : ListArguments) (more : List ℕ) (tie : PredTree) (limit : Option ℕ)
      (outs : List OutTree) (J : List JoinTree) (V : Shapes → Type 0)
      → Ready s g u → Permits s g u (list_used s u a more)
      → Allowed a.wanted s g u → Each (λ k. AllowedSort s g u (record { own = false; key = k })) (entries (once a)) → children_from s (granted_of g) u (list_used s u a more) a n ≤ m → m ≤ 2 ^ 64
      → ((final : Shapes) → Behind s g scope u n (list_used s u a more) final → IsTied s g final u n tie)
      → ((here : Shapes) → Behind s g scope u n (list_used s u a more) here → Joined s g here (children_from s (granted_of g) u (list_used s u a more) a n) m J V)
      →
      ((final : Shapes) → Behind s g scope u n (list_used s u a more) final
      → EntriesPlain s g u n (shown_look s (granted_of g) u (list_used s u a more) n) final (entries (once a))
      (sorts_from s (granted_of g) u (list_used s u a more) a n)
      → V final → outs_faults s g final outs ≡ [])
      → select_faults s g scope counts (list_rows s (granted_of g) u (list_used s u a more) a n tie limit outs J) ≡ []
  list_clean scope counts u n m a more tie limit outs J V ready permits wanted sorted le bound tied kids shown =
      let R : GrantedTables = granted_of g in
      let cs : List ℕ = list_used s u a more in
      let es : List SortKey = entries (once a) in
      let ks : List Sort = list_sorts s u a in
      let look : Look = shown_look s R u cs n in
      let mid : ℕ = n + 1 + extra s R u cs in
      let behind : ℕ = behind_filter s R u cs n in
      let at : ℕ = sorts_from s R u cs a n in
      let within : Shapes = with_scan s g u n scope in
      let J' : List JoinTree = all_joins u n a more J in
      let j = list_joined scope u n m a more J V ready permits sorted le bound kids in
      let final : Shapes = j.after in
      let seen = j.seen final (λ x v. refl) in
      let A : PredTree = filter_predicate s R u n mid in
      let B : PredTree = predicate a.wanted s (where_mode s R) look u n behind in
      let under = looks_under_later mid behind look (omega arith) (shown_under s g u n cs (omega (arith, le, bound))) in
      let inner =
      wanted_clean s g a.wanted look u n behind final wanted seen.0.own (omega arith)
      (shows_left s g final look (columns_in a.wanted) (used_sorts ks ++ ((once a).distinct ++ more)) seen.0.shown) under
      (omega (arith, le, bound)) in
      let condition : FilterTree = where_of (with_member tie (with_member A (with_member B []))) in
      let all : List PredTree = opened tie ++ (opened A ++ (opened B ++ [])) in
      let is : conjuncts condition ≡ all = where_conjuncts tie A B in
      let ex : PredTree → Bool = is_exempt s g final all (from_of s g u n) in
      let kept : where_faults s g final ex condition ≡ [] =
      three_free s g final ex tie A B (tied final seen.0 (opened A ++ (opened B ++ [])))
      (exempt_free s g final ex A (filter_exempt s g u n mid final all ready (omega arith) (omega (arith, le, bound))))
      (clean_free s g final ex B inner) in
      let stand : stand_among all (filter_conjuncts s g u) (table_alias n) ≡ true = filter_stands s g u n mid (opened tie) (opened B ++ []) (omega arith) (omega (arith, le, bound)) in
      let keys : List OrderTree = orders ks s R look u n at in
      let K : OrderTrees = orders_of (orders (own_sorts (table s u).key) s R look u n (behind_sorts s g u n look es at)) in
      let front : List OrderTree = entry_orders s g u n look es at in
      let split : orders_of keys ≡ in_front front K = orders_split s g u n look es (table s u).key at in
      let run = rows_run s g u n look final (behind_sorts s g u n look es at) ready seen.0.own in
      let has : has_run s final u (table_alias n) (orders_of keys) ≡ true = ap (has_run s final u (table_alias n)) split ∙ stands s g final u (table_alias n ∷ []) K run (table_alias n) refl front in
      let distinct =
      distinct_clean final (table s u).columns look (once a).distinct
      (shows_left s g final look (once a).distinct more
      (shows_right s g final look (used_sorts ks) ((once a).distinct ++ more)
      (shows_right s g final look (columns_in a.wanted) (used_sorts ks ++ ((once a).distinct ++ more)) seen.0.shown))) in
      rows_clean s g scope final u n counts (distinct_columns (table s u).columns look (once a).distinct) outs (joins_of J') condition keys
      limit a.offset ready (joins_clean s g within (n + 1) m J' _ j) (joins_shapes s g within (n + 1) m J' _ j)
      distinct (shown final seen.0 seen.1.0 seen.1.1) (ap (λ l. stand_among l (filter_conjuncts s g u) (table_alias n)) is ∙ stand) (rw has refl)
      (subst (λ l. where_faults s g final (is_exempt s g final l (from_of s g u n)) condition ≡ []) (sym is) kept)
      (ap (orders_faults s g final 0) split ∙ covered s g final u (table_alias n ∷ []) K run 0 front (omega arith) (entries_clean s g u n look final es at seen.1.0))
