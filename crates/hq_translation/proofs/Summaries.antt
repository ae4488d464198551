-- The select of an aggregate.
use Rattle.std.proofs.Common.{◌≡◌, ℕ, ◌+◌, ◌<◌, ◌≤◌, ◌^◌, pos, List, [], ◌∷◌, ◌++◌, length, map, filter, Bool, true, false, cond, ◌||◌, ◌==◌, None, Some, refl, sym, ap, ap₂, ◌∙◌, arith, eqb-true, eq-eqb}
use Rattle.std.proofs.lemmas.List.{length-map}
use Rattle.hq_base.specs.Aggregates.{counted, aggregated}
use Rattle.hq_base.specs.Cells.{CellTree, int, json, json_of}
use Rattle.hq_base.specs.Json.{obj, member}
use Rattle.hq_base.specs.Lists.{Each}
use Rattle.hq_base.specs.declared.aggregate.Aggregate.{Aggregate}
use Rattle.hq_base.proofs.Lists.{map_map, map_on}
use Rattle.hq_model.specs.Database.{Row}
use Rattle.hq_model.specs.Grants.{Grants}
use Rattle.hq_model.specs.Logic.{is_true}
use Rattle.hq_model.specs.Permitted.{permitted, shown, seen_by}
use Rattle.hq_model.specs.Schema.{Schema, table}
use Rattle.hq_model.specs.Selected.{ListArguments, limited, offset_by, ordered}
use Rattle.hq_model.specs.declared.table.Column.{Column}
use Rattle.hq_model.specs.declared.table.Table.{Table}
use Rattle.hq_request_tree.specs.Resolve.{cells_of, taken_value as given_value, taken_members, summary_value as given_summary, summary_members}
use Rattle.hq_request_tree.specs.declared.aggregate.AggCol.{AggCol}
use Rattle.hq_request_tree.specs.declared.aggregate.AggCol.TheVariants as of
use Rattle.hq_request_tree.specs.declared.aggregate.AggField.{AggField}
use Rattle.hq_request_tree.specs.declared.aggregate.AggField.TheVariants as take
use Rattle.hq_request_tree.specs.declared.aggregate.KeyedAggCol.{KeyedAggCol}
use Rattle.hq_request_tree.specs.declared.aggregate.KeyedAggField.{KeyedAggField}
use Rattle.hq_sql_tree.specs.Tree.{OutTree, pairs_of, PredTree}
use Rattle.hq_sql_tree.specs.Meaning.{NamedRow, cell_named, Scope, with_alias, World, value, members, outputs, rows_of, truth_at}
use Rattle.hq_translation.specs.GrantedTables.{granted_of}
use Rattle.hq_translation.specs.Names.{fold_alias, value_name, needed_name}
use Rattle.hq_translation.specs.Looks.{Look, is_used, add_new}
use Rattle.hq_translation.specs.Lists.{children_from, list_numbers}
use Rattle.hq_translation.specs.Aggregates.{add_column, add_columns, add_field, needed, place_of, is_taken, some_taken, is_aggregate, some_aggregate, taken_value, taken_pairs, summary_value, summary_pairs, needed_columns, needed_outputs, summary_used, folded_select}
use Rattle.hq_translation.proofs.Names.{Narrow, Looks, looks_right, used_left, used_one, same_text, with_alias_same, needed_names_differ}
use Rattle.hq_translation.proofs.Sound.{Sound}
use Rattle.hq_translation.proofs.Extends.{extends_none}
use Rattle.hq_translation.proofs.Lists.{X, x_more, look, chosen, rows_are, chosen_narrow, chosen_selected}

-- ---- the needed columns have each column that an aggregate takes

used_append : (c d : ℕ) (cs : List ℕ) → is_used c (cs ++ d ∷ []) ≡ (is_used c cs || (c == d))
used_append c d [] = or_false (c == d)
  where
    or_false : (b : Bool) → (b || false) ≡ b
    or_false true = refl
    or_false false = refl
used_append c d (e ∷ cs) = ap (λ b. (c == e) || b) (used_append c d cs) ∙ assoc (c == e) (is_used c cs) (c == d)
  where
    assoc : (a b e : Bool) → (a || (b || e)) ≡ ((a || b) || e)
    assoc true b e = refl
    assoc false b e = refl

or_true : (b : Bool) → (b || true) ≡ true
or_true true = refl
or_true false = refl

used_added : (c : ℕ) (cs : List ℕ) → is_used c (add_new c cs) ≡ true
used_added c cs =
    let go : (b : Bool) → is_used c cs ≡ b → is_used c (cond b cs (cs ++ c ∷ [])) ≡ true =
    elim [ true ↦ λ e. e | false ↦ λ e. used_append c c cs ∙ ap (λ b. is_used c cs || b) (eq-eqb c c refl) ∙ or_true (is_used c cs) ] in
    go (is_used c cs) refl

used_kept : (c d : ℕ) (cs : List ℕ) → is_used c cs ≡ true → is_used c (add_new d cs) ≡ true
used_kept c d cs h =
    let go : (b : Bool) → is_used c (cond b cs (cs ++ d ∷ [])) ≡ true =
    elim [ true ↦ h | false ↦ used_append c d cs ∙ ap (λ b. b || (c == d)) h ] in
    go (is_used d cs)

kept_column : (c : ℕ) (a : AggCol) (cs : List ℕ) → is_used c cs ≡ true → is_used c (add_column a cs) ≡ true
kept_column c (of.Column d) cs h = used_kept c d cs h
kept_column c (of.Typename name) cs h = h

kept_columns : (c : ℕ) (ks : List KeyedAggCol) (cs : List ℕ) → is_used c cs ≡ true → is_used c (add_columns ks cs) ≡ true
kept_columns c [] cs h = h
kept_columns c (k ∷ ks) cs h = kept_columns c ks (add_column k.field cs) (kept_column c k.field cs h)

kept_field : (c : ℕ) (a : AggField) (cs : List ℕ) → is_used c cs ≡ true → is_used c (add_field a cs) ≡ true
kept_field c (take.Count None distinct) cs h = h
kept_field c (take.Count (Some d) distinct) cs h = used_kept c d cs h
kept_field c (take.Columns f ks) cs h = kept_columns c ks cs h
kept_field c (take.Typename name) cs h = h

kept_needed : (c : ℕ) (fs : List KeyedAggField) (cs : List ℕ) → is_used c cs ≡ true → is_used c (needed fs cs) ≡ true
kept_needed c [] cs h = h
kept_needed c (f ∷ fs) cs h = kept_needed c fs (add_field f.field cs) (kept_field c f.field cs h)

-- the columns of a field are among these
abbrev pub CoversColumn : AggCol → List ℕ → Type 0
CoversColumn (of.Column c) cs = is_used c cs ≡ true
CoversColumn (of.Typename name) cs = Unit {0}

abbrev pub CoversColumns : List KeyedAggCol → List ℕ → Type 0
CoversColumns [] cs = Unit {0}
CoversColumns (k ∷ ks) cs = CoversColumn k.field cs × CoversColumns ks cs

abbrev pub CoversField : AggField → List ℕ → Type 0
CoversField (take.Count None distinct) cs = Unit {0}
CoversField (take.Count (Some c) distinct) cs = is_used c cs ≡ true
CoversField (take.Columns f ks) cs = CoversColumns ks cs
CoversField (take.Typename name) cs = Unit {0}

abbrev pub Covers : List KeyedAggField → List ℕ → Type 0
Covers [] cs = Unit {0}
Covers (f ∷ fs) cs = CoversField f.field cs × Covers fs cs

covers_column : (a : AggCol) (cs ds : List ℕ) → ((c : ℕ) → is_used c (add_column a cs) ≡ true → is_used c ds ≡ true) → CoversColumn a ds
covers_column (of.Column c) cs ds up = up c (used_added c cs)
covers_column (of.Typename name) cs ds up = tt

covers_columns : (ks : List KeyedAggCol) (cs ds : List ℕ) → ((c : ℕ) → is_used c (add_columns ks cs) ≡ true → is_used c ds ≡ true) → CoversColumns ks ds
covers_columns [] cs ds up = tt
covers_columns (k ∷ ks) cs ds up =
    (covers_column k.field cs ds (λ c h. up c (kept_columns c ks (add_column k.field cs) h)), covers_columns ks (add_column k.field cs) ds up)

covers_field : (a : AggField) (cs ds : List ℕ) → ((c : ℕ) → is_used c (add_field a cs) ≡ true → is_used c ds ≡ true) → CoversField a ds
covers_field (take.Count None distinct) cs ds up = tt
covers_field (take.Count (Some c) distinct) cs ds up = up c (used_added c cs)
covers_field (take.Columns f ks) cs ds up = covers_columns ks cs ds up
covers_field (take.Typename name) cs ds up = tt

pub covers : (fs : List KeyedAggField) (cs ds : List ℕ) → ((c : ℕ) → is_used c (needed fs cs) ≡ true → is_used c ds ≡ true) → Covers fs ds
covers [] cs ds up = tt
covers (f ∷ fs) cs ds up =
    (covers_field f.field cs ds (λ c h. up c (kept_needed c fs (add_field f.field cs) h)), covers fs (add_field f.field cs) ds up)

-- ---- a needed column is found among the outputs

pub place_range : (c : ℕ) (cs : List ℕ) (i : ℕ) → is_used c cs ≡ true → (i ≤ place_of c cs i) × (place_of c cs i < i + length cs)
place_range c [] i h = absurd cc
place_range c (d ∷ ds) i h =
    let go : (b : Bool) → (b || is_used c ds) ≡ true → (i ≤ cond b i (place_of c ds (i + 1))) × (cond b i (place_of c ds (i + 1)) < i + length (d ∷ ds)) =
    elim [ true ↦ λ e. (omega arith, omega arith) | false ↦ λ e. let later = place_range c ds (i + 1) e in (omega (arith, later.0), omega (arith, later.1)) ] in
    go (c == d) h

column_found : (look : Look) (e : Scope) (cell : ℕ → CellTree) (cs : List ℕ) → Looks look cs e cell → (i c : ℕ) → is_used c cs ≡ true
    → i + length cs ≤ 2 ^ 64 → cell_named (outputs (needed_columns look cs i) [] e) (needed_name (place_of c cs i)) ≡ cell c
column_found look e cell [] l i c h bound = cc
column_found look e cell (d ∷ ds) l i c h bound =
    let go : (b : Bool) → (c == d) ≡ b → (b || is_used c ds) ≡ true → cell_named (outputs (needed_columns look (d ∷ ds) i) [] e) (needed_name (cond b i (place_of c ds (i + 1)))) ≡ cell c =
    elim [
      | true ↦ λ q f. rw (same_text (needed_name i)) (l d (used_left d (d ∷ []) ds (used_one d)) ∙ ap cell (sym (eqb-true c d q)))
      | false ↦ λ q f.
          let range = place_range c ds (i + 1) f in
          rw (needed_names_differ i (place_of c ds (i + 1)) (omega (arith, range.0)) (omega (arith, range.1)))
          (column_found look e cell ds (looks_right look (d ∷ []) ds e cell l) (i + 1) c f (omega arith))
    ] in
    go (c == d) refl h

needed_found : (look : Look) (e : Scope) (cell : ℕ → CellTree) (cs : List ℕ) → Looks look cs e cell → (c : ℕ) → is_used c cs ≡ true
    → length cs ≤ 2 ^ 64 → cell_named (outputs (needed_outputs look cs) [] e) (needed_name (place_of c cs 0)) ≡ cell c
needed_found look e cell [] l c h bound = cc
needed_found look e cell (d ∷ ds) l c h bound = column_found look e cell (d ∷ ds) l 0 c h (omega arith)

-- ---- the aggregates of a group that has the rows' columns

module _ (s : Schema) (g : Grants) (d : List (List Row)) (u : ℕ) (columns : List Column) (n : ℕ) (cs : List ℕ) (group : List Scope) (scope : Scope) (rs : List Row) (size : length group ≡ length rs)
    (cells : (c : ℕ) → is_used c cs ≡ true → map (λ e. cell_named (e (fold_alias n)) (needed_name (place_of c cs 0))) group ≡ cells_of (seen_by s g d) u rs c) where
  taken_pairs_mean : (f : Aggregate) (ks : List KeyedAggCol) → CoversColumns ks cs → members (pairs_of (taken_pairs f columns n cs ks)) group scope ≡ taken_members f ks (seen_by s g d) u rs
  taken_pairs_mean f [] h = refl
  taken_pairs_mean f (k ∷ ks) h = ap₂ (member k.key) (one k.field h.0) (taken_pairs_mean f ks h.1)
    where
      one : (a : AggCol) → CoversColumn a cs → json_of (value (taken_value f columns n cs a) group scope) ≡ given_value f a (seen_by s g d) u rs
      one (of.Column c) h = ap (λ l. json_of (aggregated f l)) (cells c h)
      one (of.Typename name) h = refl

  field_means : (a : AggField) → CoversField a cs → json_of (value (summary_value columns n cs a) group scope) ≡ given_summary a (seen_by s g d) u rs
  field_means (take.Count None distinct) h = ap (λ k. json_of (int (pos k))) size
  field_means (take.Count (Some c) distinct) h = ap (λ l. json_of (counted distinct l)) (cells c h)
  field_means (take.Columns f ks) h = ap obj (taken_pairs_mean f ks h)
  field_means (take.Typename name) h = refl

  summary_pairs_mean : (fs : List KeyedAggField) → Covers fs cs → members (pairs_of (summary_pairs columns n cs fs)) group scope ≡ summary_members fs (seen_by s g d) u rs
  summary_pairs_mean [] h = refl
  summary_pairs_mean (f ∷ fs) h = ap₂ (member f.key) (field_means f.field h.0) (summary_pairs_mean fs h.1)

-- ---- where no aggregate occurs, rows don't matter

neither : (a b : Bool) → (a || b) ≡ false → (a ≡ false) × (b ≡ false)
neither true b e = absurd cc
neither false b e = (refl, e)

module _ (s : Schema) (g : Grants) (d : List (List Row)) (u : ℕ) (columns : List Column) (n : ℕ) (cs : List ℕ) (group : List Scope) (scope : Scope) (rs : List Row) where
  plain_column : (f : Aggregate) (a : AggCol) → is_taken a ≡ false → json_of (value (taken_value f columns n cs a) group scope) ≡ given_value f a (seen_by s g d) u rs
  plain_column f (of.Column c) h = absurd cc
  plain_column f (of.Typename name) h = refl

  plain_columns : (f : Aggregate) (ks : List KeyedAggCol) → some_taken ks ≡ false → members (pairs_of (taken_pairs f columns n cs ks)) group scope ≡ taken_members f ks (seen_by s g d) u rs
  plain_columns f [] h = refl
  plain_columns f (k ∷ ks) h =
      let parts = neither (is_taken k.field) (some_taken ks) h in
      ap₂ (member k.key) (plain_column f k.field parts.0) (plain_columns f ks parts.1)

  plain_field : (a : AggField) → is_aggregate a ≡ false → json_of (value (summary_value columns n cs a) group scope) ≡ given_summary a (seen_by s g d) u rs
  plain_field (take.Count c distinct) h = absurd cc
  plain_field (take.Columns f ks) h = ap obj (plain_columns f ks h)
  plain_field (take.Typename name) h = refl

  pub plain_pairs : (fs : List KeyedAggField) → some_aggregate fs ≡ false → members (pairs_of (summary_pairs columns n cs fs)) group scope ≡ summary_members fs (seen_by s g d) u rs
  plain_pairs [] h = refl
  plain_pairs (f ∷ fs) h =
      let parts = neither (is_aggregate f.field) (some_aggregate fs) h in
      ap₂ (member f.key) (plain_field f.field parts.0) (plain_pairs fs parts.1)

-- ---- the select over the selected rows

module _ (s : Schema) (tables : List Table) (d : List (List Row)) (sound : Sound s tables d) (g : Grants) (u n : ℕ) (a : ListArguments)
    (fs : List KeyedAggField) (bound : n + (list_numbers s (granted_of g) u (summary_used s u a fs) a + 0) ≤ 2 ^ 64) (scope : Scope) where
  abbrev w : World
  w = record { tables = tables; database = d }

  abbrev none_joined : Row → Scope → Scope
  none_joined row e = e

  pub folded_means : (tie : PredTree) (tied : Row → Bool) → length (needed fs []) ≤ 2 ^ 64
      →
      ((far : Row) → Narrow s u far
      → is_true
      (truth_at tie w
      (X s tables d sound g u n a (needed fs []) [] 0 none_joined
      (extends_none s w u n (children_from s (granted_of g) u (summary_used s u a fs) a n)) bound scope far))
      ≡ tied far)
      → rows_of (folded_select fs s (granted_of g) u a n tie) w scope
      ≡ ((value_name, json (obj (summary_members fs (seen_by s g d) u (limited a.limit (offset_by a.offset (ordered s (seen_by s g d) u a (filter tied (permitted s g d u)))))))) ∷ []) ∷ []
  folded_means tie tied few means =
      let x = extends_none s w u n (children_from s (granted_of g) u (summary_used s u a fs) a n) in
      let cs : List ℕ = needed fs [] in
      let see : Look = look s tables d sound g u n a cs [] 0 none_joined x bound scope in
      let alone : Row → Scope = X s tables d sound g u n a cs [] 0 none_joined x bound scope in
      let outs : List OutTree = needed_outputs see cs in
      let S : List Row = chosen s tables d sound g u n a cs [] 0 none_joined x bound scope tie tied a.limit in
      let narrow : Each (Narrow s u) S = chosen_narrow s tables d sound g u n a cs [] 0 none_joined x bound scope tie tied means a.limit in
      let out : Row → NamedRow = λ r. outputs outs [] (alone r) in
      let G : Row → Scope = λ r. with_alias scope (fold_alias n) (out r) in
      let found : (c : ℕ) → is_used c cs ≡ true → map (λ e. cell_named (e (fold_alias n)) (needed_name (place_of c cs 0))) (map G S) ≡ cells_of (seen_by s g d) u S c =
      λ c h. map_map (λ e. cell_named (e (fold_alias n)) (needed_name (place_of c cs 0))) G S
      ∙ map_on (Narrow s u) (λ r. cell_named (G r (fold_alias n)) (needed_name (place_of c cs 0))) (λ r. shown s g d u r c)
      (λ r f. rw (with_alias_same scope (fold_alias n) (out r))
      (needed_found see (alone r) (shown s g d u r) cs (x_more s tables d sound g u n a cs [] 0 none_joined x bound scope r f) c h few))
      S narrow in
      ap (λ l. ((value_name, json (obj (members (pairs_of (summary_pairs (table s u).columns n cs fs)) l scope))) ∷ []) ∷ [])
      (ap (map (with_alias scope (fold_alias n))) (rows_are s tables d sound g u n a cs [] 0 none_joined x bound scope tie tied means a.limit outs) ∙ map_map (with_alias scope (fold_alias n)) out S)
      ∙ ap (λ m. ((value_name, json (obj m)) ∷ []) ∷ []) (summary_pairs_mean s g d u (table s u).columns n cs (map G S) scope S (length-map S G) found fs (covers fs [] cs (λ c h. h)))
      ∙ ap (λ l. ((value_name, json (obj (summary_members fs (seen_by s g d) u l))) ∷ []) ∷ []) (chosen_selected s tables d sound g u n a cs [] 0 none_joined x bound scope tie tied a.limit)
