-- Rows over One with an object, lists and aggregates are without faults where their parts are.
use Rattle.std.proofs.Common.{◌≡◌, ℕ, ◌+◌, ◌≤◌, ◌^◌, List, [], ◌∷◌, ◌++◌, Bool, true, false, cond, ◌||◌, Some, None, bytes_eq, refl, ap, ◌∙◌, arith}
use Rattle.hq_base.specs.declared.aggregate.Aggregate.{Aggregate}
use Rattle.hq_model.specs.Grants.{Grants}
use Rattle.hq_model.specs.Schema.{Schema, table}
use Rattle.hq_model.specs.Selected.{SortKey, ListArguments, entries, smaller}
use Rattle.hq_model.specs.declared.table.Column.{Column}
use Rattle.hq_request_tree.specs.declared.aggregate.AggCol.{AggCol}
use Rattle.hq_request_tree.specs.declared.aggregate.AggCol.TheVariants as of_column
use Rattle.hq_request_tree.specs.declared.aggregate.AggField.{AggField}
use Rattle.hq_request_tree.specs.declared.aggregate.AggField.TheVariants as take
use Rattle.hq_request_tree.specs.declared.aggregate.KeyedAggCol.{KeyedAggCol}
use Rattle.hq_request_tree.specs.declared.aggregate.KeyedAggField.{KeyedAggField}
use Rattle.hq_sql_tree.specs.declared.expr.ColumnForm.{ColumnForm}
use Rattle.hq_sql_tree.specs.declared.expr.ColumnForm.TheVariants.{Plain}
use Rattle.hq_sql_tree.specs.Tree as tree
use Rattle.hq_sql_tree.specs.Tree.{ExprTree, PairTrees, PairTree, OutTree, SelectTree, JoinTree, FilterTree, PredTree, joins_of, pairs_of, orders_of}
use Rattle.hq_translation.specs.Aggregates.{needed, counted_form, is_taken, some_taken, is_aggregate, some_aggregate, needed_cell, taken_value, taken_pairs, summary_value, summary_pairs, needed_columns, needed_outputs, summary_used, folded_select, plain_select, place_of}
use Rattle.hq_translation.specs.Lists.{once, list_sorts, list_used, sorts_from, children_from, list_outputs, list_select}
use Rattle.hq_translation.specs.Looks.{Look, type_in, compared_form}
use Rattle.hq_translation.specs.Masks.{value_output, shown_look}
use Rattle.hq_translation.specs.Names.{table_alias, fold_alias, value_name, needed_name, unit_name}
use Rattle.hq_translation.specs.Predicates.{columns_in}
use Rattle.hq_translation.specs.GrantedTables.{GrantedTables, granted_of}
use Rattle.hq_translation.specs.Sorts.{used_sorts, output_orders}
use Rattle.hq_translation.proofs.Names.{same_text, value_is_no_key, used_one, used_left, used_right}
use Rattle.hq_confine_rules.specs.Conjuncts.{conjuncts}
use Rattle.hq_confine_rules.specs.Origins.{Origin, made, Shapes, outputs, shape_at, origin_in, origin_at, behind, output_named, output_origins}
use Rattle.hq_confine_rules.specs.Members.{is_mask_join}
use Rattle.hq_confine_rules.specs.Uses.{Fault, is_plain, shows_order, expr_faults, pairs_faults, outs_faults}
use Rattle.hq_confine_rules.specs.Faults.{outputs_of, joined_shapes, is_exempt, select_faults, joins_faults, where_faults}
use Rattle.hq_confine_rules.specs.Ready.{Ready, AllowedList}
use Rattle.hq_confine_rules.proofs.Chains.{plain_out}
use Rattle.hq_confine_rules.proofs.Clean.{none}
use Rattle.hq_confine_rules.proofs.Folds.{each_own, keys_clean, orders_passed}
use Rattle.hq_confine_rules.proofs.Lists.{all_joins, list_joined, list_clean}
use Rattle.hq_confine_rules.proofs.Scopes.{Shows, shows_right, behind_plain, column_clean, First, Joined, joined_none, joins_shapes}
use Rattle.hq_confine_rules.proofs.Wanted.{with_scan, Behind, IsTied}

module _ (s : Schema) (g : Grants) where
  unless : (b : Bool) (fs : List Fault) → fs ≡ [] → cond b [] fs ≡ []
  unless true fs h = refl
  unless false fs h = h

  plain_unless : (b : Bool) (os : List (List ℕ × Origin)) → is_plain g (output_named os value_name) ≡ true → is_plain g (output_named (cond b [] os) value_name) ≡ true
  plain_unless true os h = refl
  plain_unless false os h = h

  -- ---- rows over One

  -- with an object whose values have no faults
  pub one_clean : (scope : Shapes) (counts : Bool) (n : ℕ) (ps : PairTrees) (J : List JoinTree) (c : FilterTree) → joins_faults s g ((table_alias n, outputs []) ∷ scope) (joins_of J) ≡ []
      → pairs_faults s g (joined_shapes s g ((table_alias n, outputs []) ∷ scope) (joins_of J)) ps ≡ []
      → where_faults s g (joined_shapes s g ((table_alias n, outputs []) ∷ scope) (joins_of J))
      (is_exempt s g (joined_shapes s g ((table_alias n, outputs []) ∷ scope) (joins_of J)) (conjuncts c) (tree.one (table_alias n))) c
      ≡ []
      → select_faults s g scope counts (tree.rows [] (value_output (tree.object ps)) (tree.one (table_alias n)) (joins_of J) c [] None None) ≡ []
  one_clean scope counts n ps J c j p w = none _ _ (none _ _ p refl) (none _ _ j (none _ _ w refl))

  pub one_first : (scope : Shapes) (n : ℕ) (ps : PairTrees) (J : List JoinTree) (c : FilterTree) → joins_faults s g ((table_alias n, outputs []) ∷ scope) (joins_of J) ≡ []
      → pairs_faults s g (joined_shapes s g ((table_alias n, outputs []) ∷ scope) (joins_of J)) ps ≡ []
      → where_faults s g (joined_shapes s g ((table_alias n, outputs []) ∷ scope) (joins_of J))
      (is_exempt s g (joined_shapes s g ((table_alias n, outputs []) ∷ scope) (joins_of J)) (conjuncts c) (tree.one (table_alias n))) c
      ≡ []
      → First s g scope (tree.rows [] (value_output (tree.object ps)) (tree.one (table_alias n)) (joins_of J) c [] None None)
  one_first scope n ps J c j p w =
      let q : SelectTree = tree.rows [] (value_output (tree.object ps)) (tree.one (table_alias n)) (joins_of J) c [] None None in
      let plain : is_plain g (cond (bytes_eq value_name value_name) made made) ≡ true = rw (same_text value_name) refl in
      record {
        clean = unless (is_mask_join s g scope q) (select_faults s g scope true q) (one_clean scope true n ps J c j p w);
        shows = plain_unless (is_mask_join s g scope q) (outputs_of s g scope q) plain;
      }

  -- ---- lists

  -- the columns that a list uses for its outputs
  pub shows_more : (final : Shapes) (u n : ℕ) (a : ListArguments) (more : List ℕ)
      → Shows s g final (shown_look s (granted_of g) u (list_used s u a more) n) (list_used s u a more)
      → Shows s g final (shown_look s (granted_of g) u (list_used s u a more) n) more
  shows_more final u n a more k =
      let look : Look = shown_look s (granted_of g) u (list_used s u a more) n in
      shows_right s g final look (once a).distinct more
      (shows_right s g final look (used_sorts (list_sorts s u a)) ((once a).distinct ++ more)
      (shows_right s g final look (columns_in a.wanted) (used_sorts (list_sorts s u a) ++ ((once a).distinct ++ more)) k))

  -- a list of rows of table u at the alias of number n
  pub list_first : (scope : Shapes) (u n m : ℕ) (a : ListArguments) (more : List ℕ) (tie : PredTree) (values : List PairTree)
      (J : List JoinTree) (V : Shapes → Type 0)
      → Ready s g u → AllowedList s g u a more
      → children_from s (granted_of g) u (list_used s u a more) a n ≤ m → m ≤ 2 ^ 64
      → ((final : Shapes) → Behind s g scope u n (list_used s u a more) final → IsTied s g final u n tie)
      → ((here : Shapes) → Behind s g scope u n (list_used s u a more) here → Joined s g here (children_from s (granted_of g) u (list_used s u a more) a n) m J V)
      → ((final : Shapes) → V final → pairs_faults s g final (pairs_of values) ≡ [])
      → First s g scope (list_select s (granted_of g) u (list_used s u a more) a n tie values J)
  list_first scope u n m a more tie values J V ready f le bound tied kids valued =
      let R : GrantedTables = granted_of g in
      let cs : List ℕ = list_used s u a more in
      let es : List SortKey = entries (once a) in
      let look : Look = shown_look s R u cs n in
      let at : ℕ = sorts_from s R u cs a n in
      let key : List ℕ = (table s u).key in
      let outs : List OutTree = list_outputs s R u cs a n values in
      let within : Shapes = with_scan s g u n scope in
      let J' : List JoinTree = all_joins s g u n a more J in
      let j = list_joined s g scope u n m a more J V ready f.permits f.sorted le bound kids in
      let final : Shapes = j.after in
      let seen = j.seen final (λ x v. refl) in
      let shapes : joined_shapes s g within (joins_of J') ≡ final = joins_shapes s g within (n + 1) m J' _ j in
      let rows = list_clean s g scope true u n m a more tie (smaller a.limit (R.limit u)) outs J V ready f.permits f.wanted f.sorted le bound tied kids
      (λ fin b e v. none _ _ (valued fin v) (keys_clean s g u n look fin ready b.own es key at 0 e ready.key (each_own key))) in
      let value : ExprTree = tree.aggregate (tree.json_agg (tree.column (fold_alias n) value_name Plain) (orders_of (output_orders (list_sorts s u a) s u n 0))) in
      let all : List (List ℕ × Origin) = output_origins s final outs in
      let inner : Shapes = (fold_alias n, outputs all) ∷ scope in
      let here : shape_at inner (fold_alias n) ≡ outputs all = rw (same_text (fold_alias n)) refl in
      let first : output_named all value_name ≡ made = rw (same_text value_name) refl in
      let plain : is_plain g (origin_at s inner (fold_alias n) value_name) ≡ true =
      ap (λ sh. is_plain g (origin_in s sh (fold_alias n) value_name)) here ∙ ap (λ o. is_plain g (behind (fold_alias n) o)) first in
      let orders = orders_passed s g u n look final n all inner here ready seen.0.own es at seen.1.0 f.few (λ k. rw (value_is_no_key k) refl) in
      let fold : expr_faults s g inner value ≡ [] = none _ _ (column_clean s g inner (fold_alias n) value_name Plain plain) orders in
      let outer : expr_faults s g ((fold_alias n, outputs (output_origins s (joined_shapes s g within (joins_of J')) outs)) ∷ scope) value
      ≡ [] =
      ap (λ f. expr_faults s g ((fold_alias n, outputs (output_origins s f outs)) ∷ scope) value) shapes ∙ fold in
      record { clean = none _ _ outer rows; shows = refl }

  -- ---- aggregates

  -- outputs that are plain give plain cells under every name
  outs_plain : (final : Shapes) (look : Look) (n i : ℕ) (cs : List ℕ) → Shows s g final look cs → (name : List ℕ)
      → is_plain g (output_named (output_origins s final (needed_columns look cs i)) name) ≡ true
  outs_plain final look n i [] k name = refl
  outs_plain final look n i (c ∷ cs) k name =
      let later = outs_plain final look n (i + 1) cs (λ d used. k d (used_right d (c ∷ []) cs used)) name in
      let go : (b : Bool) → is_plain g (cond b (origin_at s final (look c).alias (look c).name) (output_named (output_origins s final (needed_columns look cs (i + 1))) name)) ≡ true =
      elim [ true ↦ k c (used_left c (c ∷ []) cs (used_one c)) | false ↦ later ] in
      go (bytes_eq (needed_name i) name)

  needed_plain : (final : Shapes) (look : Look) (n : ℕ) (cs : List ℕ) → Shows s g final look cs → (name : List ℕ)
      → is_plain g (output_named (output_origins s final (needed_outputs look cs)) name) ≡ true
  needed_plain final look n [] k name = let go : (b : Bool) → is_plain g (cond b made made) ≡ true = elim [ true ↦ refl | false ↦ refl ] in go (bytes_eq unit_name name)
  needed_plain final look n (c ∷ cs) k name = outs_plain final look n 0 (c ∷ cs) k name

  columns_clean : (final : Shapes) (look : Look) (i : ℕ) (cs : List ℕ) → Shows s g final look cs → outs_faults s g final (needed_columns look cs i) ≡ []
  columns_clean final look i [] k = refl
  columns_clean final look i (c ∷ cs) k =
      none _ _ (plain_out s g final (look c) (k c (used_left c (c ∷ []) cs (used_one c))))
      (columns_clean final look (i + 1) cs (λ d used. k d (used_right d (c ∷ []) cs used)))

  needed_clean : (final : Shapes) (look : Look) (cs : List ℕ) → Shows s g final look cs → outs_faults s g final (needed_outputs look cs) ≡ []
  needed_clean final look [] k = refl
  needed_clean final look (c ∷ cs) k = columns_clean final look 0 (c ∷ cs) k

  -- the fields of an aggregate, where each name of the fold's alias is plain
  module _ (inner : Shapes) (n : ℕ) (columns : List Column) (cs : List ℕ) (plain : (name : List ℕ) → is_plain g (origin_at s inner (fold_alias n) name) ≡ true) where
    cell_clean : (c : ℕ) (form : ColumnForm) → expr_faults s g inner (needed_cell n cs c form) ≡ []
    cell_clean c form = column_clean s g inner (fold_alias n) (needed_name (place_of c cs 0)) form (plain (needed_name (place_of c cs 0)))

    taken_clean : (a : Aggregate) (k : AggCol) → expr_faults s g inner (taken_value a columns n cs k) ≡ []
    taken_clean a (of_column.Column c) = cell_clean c (compared_form (type_in columns c))
    taken_clean a (of_column.Typename name) = refl

    takens_clean : (a : Aggregate) (ks : List KeyedAggCol) → pairs_faults s g inner (pairs_of (taken_pairs a columns n cs ks)) ≡ []
    takens_clean a [] = refl
    takens_clean a (k ∷ ks) = none _ _ (taken_clean a k.field) (takens_clean a ks)

    summary_clean : (f : AggField) → expr_faults s g inner (summary_value columns n cs f) ≡ []
    summary_clean (take.Count None distinct) = refl
    summary_clean (take.Count (Some c) distinct) = cell_clean c (counted_form distinct (type_in columns c))
    summary_clean (take.Columns a ks) = takens_clean a ks
    summary_clean (take.Typename name) = refl

    summaries_clean : (fs : List KeyedAggField) → pairs_faults s g inner (pairs_of (summary_pairs columns n cs fs)) ≡ []
    summaries_clean [] = refl
    summaries_clean (f ∷ fs) = none _ _ (summary_clean f.field) (summaries_clean fs)

  -- and where none of them is an aggregate
  module _ (inner : Shapes) (n : ℕ) (columns : List Column) (cs : List ℕ) where
    no_takens : (a : Aggregate) (ks : List KeyedAggCol) → some_taken ks ≡ false → pairs_faults s g inner (pairs_of (taken_pairs a columns n cs ks)) ≡ []
    no_takens a [] h = refl
    no_takens a (k ∷ ks) h =
        let go : (c : AggCol) → (is_taken c || some_taken ks) ≡ false → expr_faults s g inner (taken_value a columns n cs c) ++ pairs_faults s g inner (pairs_of (taken_pairs a columns n cs ks)) ≡ [] =
        elim [ of_column.Column c ↦ λ e. cc | of_column.Typename name ↦ λ e. no_takens a ks e ] in
        go k.field h

    no_summaries : (fs : List KeyedAggField) → some_aggregate fs ≡ false → pairs_faults s g inner (pairs_of (summary_pairs columns n cs fs)) ≡ []
    no_summaries [] h = refl
    no_summaries (f ∷ fs) h =
        let split : (a b : Bool) → (a || b) ≡ false → (a ≡ false) × (b ≡ false) = elim [ true ↦ λ b k. absurd cc | false ↦ λ b k. (refl, k) ] in
        let go : (x : AggField) → (is_aggregate x || some_aggregate fs) ≡ false
        → expr_faults s g inner (summary_value columns n cs x) ++ pairs_faults s g inner (pairs_of (summary_pairs columns n cs fs)) ≡ [] =
        elim [
          | take.Count c distinct ↦ λ e. cc
          | take.Columns a ks ↦ λ e. (let parts = split (some_taken ks) (some_aggregate fs) e in none _ _ (no_takens a ks parts.0) (no_summaries fs parts.1))
          | take.Typename name ↦ λ e. no_summaries fs e
        ] in
        go f.field h

  -- an aggregate over rows of table u at the alias of number n
  pub folded_first : (scope : Shapes) (fs : List KeyedAggField) (u n : ℕ) (a : ListArguments) (tie : PredTree) → Ready s g u
      → AllowedList s g u a (needed fs []) → children_from s (granted_of g) u (summary_used s u a fs) a n ≤ 2 ^ 64
      → ((final : Shapes) → Behind s g scope u n (summary_used s u a fs) final → IsTied s g final u n tie) → First s g scope (folded_select fs s (granted_of g) u a n tie)
  folded_first scope fs u n a tie ready f bound tied =
      let R : GrantedTables = granted_of g in
      let more : List ℕ = needed fs [] in
      let cs : List ℕ = list_used s u a more in
      let look : Look = shown_look s R u cs n in
      let kid : ℕ = children_from s R u cs a n in
      let outs : List OutTree = needed_outputs look more in
      let V : Shapes → Type 0 = λ final. Unit {0} in
      let kids : (here : Shapes) → Behind s g scope u n cs here → Joined s g here kid kid [] V = λ here b. joined_none s g here kid kid V (λ final grown. tt) in
      let within : Shapes = with_scan s g u n scope in
      let J' : List JoinTree = all_joins s g u n a more [] in
      let j = list_joined s g scope u n kid a more [] V ready f.permits f.sorted (omega arith) bound kids in
      let final : Shapes = j.after in
      let seen = j.seen final (λ x v. refl) in
      let shapes : joined_shapes s g within (joins_of J') ≡ final = joins_shapes s g within (n + 1) kid J' _ j in
      let value : ExprTree = tree.object (pairs_of (summary_pairs (table s u).columns n more fs)) in
      let rows =
      list_clean s g scope (shows_order value) u n kid a more tie a.limit outs [] V ready f.permits f.wanted f.sorted (omega arith)
      bound tied kids (λ fin b e v. needed_clean fin look more (shows_more fin u n a more b.shown)) in
      let all : List (List ℕ × Origin) = output_origins s final outs in
      let inner : Shapes = (fold_alias n, outputs all) ∷ scope in
      let here : shape_at inner (fold_alias n) ≡ outputs all = rw (same_text (fold_alias n)) refl in
      let plain : (name : List ℕ) → is_plain g (origin_at s inner (fold_alias n) name) ≡ true =
      λ name. ap (λ sh. is_plain g (origin_in s sh (fold_alias n) name)) here
      ∙ behind_plain s g (fold_alias n) (output_named all name)
      (needed_plain final look n more (shows_more final u n a more seen.0.shown) name) in
      let outer : expr_faults s g ((fold_alias n, outputs (output_origins s (joined_shapes s g within (joins_of J')) outs)) ∷ scope) value ≡ [] =
      ap (λ f. expr_faults s g ((fold_alias n, outputs (output_origins s f outs)) ∷ scope) value) shapes ∙ summaries_clean inner n (table s u).columns more plain fs in
      record { clean = none _ _ outer rows; shows = refl }

  -- one without an aggregate
  pub plain_first : (scope : Shapes) (fs : List KeyedAggField) (u n : ℕ) → some_aggregate fs ≡ false → First s g scope (plain_select fs s u n)
  plain_first scope fs u n e =
      one_first scope n (pairs_of (summary_pairs (table s u).columns n (needed fs []) fs)) [] tree.no_filter refl
      (no_summaries ((table_alias n, outputs []) ∷ scope) n (table s u).columns (needed fs []) fs e) refl
