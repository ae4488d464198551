-- The fold over the rows of a list is without faults: its keys are those of the rows, passed on by one alias.
use Rattle.std.proofs.Common.{◌≡◌, ℕ, suc, ◌+◌, ◌<◌, ◌≤◌, ◌^◌, List, [], ◌∷◌, length, true, false, bytes_eq, refl, ap, ◌∙◌, subst, arith, ◌==◌, ◌||◌, eq-eqb}
use Rattle.std.specs.List.{list_any}
use Rattle.hq_base.specs.Lists.{Each}
use Rattle.hq_base.proofs.Lists.{each_weaken}
use Rattle.hq_model.specs.Grants.{Grants}
use Rattle.hq_model.specs.Schema.{Schema, table}
use Rattle.hq_model.specs.Selected.{SortKey}
use Rattle.hq_sql_tree.specs.Tree as tree
use Rattle.hq_sql_tree.specs.Tree.{OrderTree, OrderTrees, OutTree, orders_of}
use Rattle.hq_translation.specs.Fine.{Has}
use Rattle.hq_translation.specs.Looks.{Look, name_of}
use Rattle.hq_translation.specs.Names.{table_alias, fold_alias, key_name}
use Rattle.hq_translation.specs.GrantedTables.{granted_of}
use Rattle.hq_translation.specs.Sorts.{Sort, shown_sorts, own_sorts, sort_form, sort_numbers, key_outputs, output_orders}
use Rattle.hq_translation.proofs.Names.{same_text, key_names_differ}
use Rattle.hq_confine_rules.specs.Origins.{Origin, of, Shapes, outputs, shape_at, origin_in, origin_at, behind, output_named, output_origins}
use Rattle.hq_confine_rules.specs.Uses.{is_key, is_plain, is_run, may_pass, expr_faults, outs_faults, orders_faults}
use Rattle.hq_confine_rules.specs.Ready.{Ready}
use Rattle.hq_confine_rules.proofs.Chains.{plain_out}
use Rattle.hq_confine_rules.proofs.Clean.{none}
use Rattle.hq_confine_rules.proofs.Filters.{or_right}
use Rattle.hq_confine_rules.proofs.Runs.{size, in_front, Run, covered}
use Rattle.hq_confine_rules.proofs.Scopes.{Scans, own_origin, behind_plain, column_clean}
use Rattle.hq_confine_rules.proofs.Sorts.{behind_sorts, place_at, EntriesPlain}

-- the entries and the columns of a key, in one list
pub sorts_length : (es : List SortKey) (cs : List ℕ) → length (shown_sorts es (own_sorts cs)) ≡ length es + length cs
sorts_length [] [] = refl
sorts_length [] (c ∷ cs) = let later = sorts_length [] cs in omega (arith, later)
sorts_length (k ∷ es) cs = let later = sorts_length es cs in omega (arith, later)

same : (n : ℕ) → (n == n) ≡ true
same n = let e = eq-eqb n n refl in rw e refl

-- each of some columns is among them
pub each_own : (cs : List ℕ) → Each (λ c. list_any (λ d. d == c) cs ≡ true) cs
each_own [] = tt
each_own (c ∷ cs) =
    let here : ((c == c) || list_any (λ d. d == c) cs) ≡ true = ap (λ b. b || list_any (λ d. d == c) cs) (same c) in
    (here, each_weaken (λ x. list_any (λ d. d == x) cs ≡ true) (λ x. list_any (λ d. d == x) (c ∷ cs) ≡ true) (λ x h. or_right (c == x) (list_any (λ d. d == x) cs) h) cs (each_own cs))

module _ (s : Schema) (g : Grants) (t p : ℕ) (look : Look) (final : Shapes) where
  -- the outputs of the rows' sort keys
  abbrev pub key_outs : List Sort → (m i : ℕ) → List OutTree
  key_outs ks m i = key_outputs ks s (granted_of g) look t p m i

  -- they are without faults where the entries are plain, and the alias shows the table
  own_outs : Ready s g t → Scans final p t → (cs : List ℕ) (m i : ℕ) → Each (Has s t) cs → Each (λ c. is_key s t c ≡ true) cs → outs_faults s g final (key_outs (own_sorts cs) m i) ≡ []
  own_outs ready own [] m i h k = refl
  own_outs ready own (c ∷ cs) m i h k =
      let passes : may_pass s g (origin_at s final (table_alias p) (name_of (table s t).columns c)) ≡ true =
      ap (may_pass s g) (own_origin s g final p t c ready h.0 own) ∙ or_right (is_plain g (of t (table_alias p ∷ []) c)) (is_key s t c) k.0 in
      rw passes (own_outs ready own cs (m + 0) (i + 1) h.1 k.1)

  pub keys_clean : Ready s g t → Scans final p t → (es : List SortKey) (cs : List ℕ) (m i : ℕ) → EntriesPlain s g t p look final es m
      → Each (Has s t) cs → Each (λ c. is_key s t c ≡ true) cs → outs_faults s g final (key_outs (shown_sorts es (own_sorts cs)) m i) ≡ []
  keys_clean ready own [] cs m i e h k = own_outs ready own cs m i h k
  keys_clean ready own (x ∷ es) cs m i e h k =
      none _ _ (plain_out s g final (place_at s g t p look x m) e.0)
      (keys_clean ready own es cs (m + sort_numbers x.through s (granted_of g) t x.column) (i + 1) e.1 h k)

  -- ---- the fold of number n, whose alias shows these outputs

  module _ (n : ℕ) (all : List (List ℕ × Origin)) (inner : Shapes) (at : shape_at inner (fold_alias n) ≡ outputs all) where
    fold_cell : (name : List ℕ) → origin_at s inner (fold_alias n) name ≡ behind (fold_alias n) (output_named all name)
    fold_cell name = ap (λ sh. origin_in s sh (fold_alias n) name) at

    -- from number i on the outputs are those of these sort keys
    abbrev Rest : List Sort → (m i : ℕ) → Type 0
    Rest ks m i = (k : ℕ) → i ≤ k → k < 2 ^ 64 → output_named all (key_name k) ≡ output_named (output_origins s final (key_outs ks m i)) (key_name k)

    rest_next : (x : Sort) (ks : List Sort) (m i : ℕ) → Rest (x ∷ ks) m i → Rest ks (m + sort_numbers x.key.through s (granted_of g) t x.key.column) (i + 1)
    rest_next x ks m i r k le lt =
        let other : bytes_eq (key_name i) (key_name k) ≡ false = key_names_differ i k (omega (arith, le)) lt in
        r k (omega (arith, le)) lt ∙ rw other refl

    -- the sort keys of the fold
    abbrev fold_entries : List SortKey → ℕ → List OrderTree
    fold_entries [] i = []
    fold_entries (k ∷ ks) i = record { value = tree.column (fold_alias n) (key_name i) (sort_form s t k); desc = k.desc; nulls_first = k.nulls_first } ∷ fold_entries ks (i + 1)

    abbrev behind_keys : List SortKey → ℕ → ℕ
    behind_keys [] i = i
    behind_keys (k ∷ ks) i = behind_keys ks (i + 1)

    fold_split : (es : List SortKey) (cs : List ℕ) (i : ℕ)
        → orders_of (output_orders (shown_sorts es (own_sorts cs)) s t n i)
        ≡ in_front (fold_entries es i) (orders_of (output_orders (own_sorts cs) s t n (behind_keys es i)))
    fold_split [] cs i = refl
    fold_split (k ∷ es) cs i = ap (tree.order (tree.column (fold_alias n) (key_name i) (sort_form s t k)) k.desc k.nulls_first) (fold_split es cs (i + 1))

    behind_length : (es : List SortKey) (i : ℕ) → behind_keys es i ≡ i + length es
    behind_length [] i = omega arith
    behind_length (k ∷ es) i = let later = behind_length es (i + 1) in omega (arith, later)

    -- those of the entries are plain
    entries_passed : (es : List SortKey) (cs : List ℕ) (m i : ℕ) → Rest (shown_sorts es (own_sorts cs)) m i → EntriesPlain s g t p look final es m → i + length es ≤ 2 ^ 64
        → Each (λ x. expr_faults s g inner x.value ≡ []) (fold_entries es i) × Rest (own_sorts cs) (behind_sorts s g t p look es m) (behind_keys es i)
    entries_passed [] cs m i r e le = (tt, r)
    entries_passed (k ∷ es) cs m i r e le =
        let x : Sort = record { own = false; key = k } in
        let later = entries_passed es cs (m + sort_numbers k.through s (granted_of g) t k.column) (i + 1) (rest_next x (shown_sorts es (own_sorts cs)) m i r) e.1 (omega (arith, le)) in
        let here : output_named all (key_name i) ≡ origin_at s final (place_at s g t p look k m).alias (place_at s g t p look k m).name =
        r i (omega arith) (omega (arith, le)) ∙ rw (same_text (key_name i)) refl in
        let plain : is_plain g (origin_at s inner (fold_alias n) (key_name i)) ≡ true =
        ap (is_plain g) (fold_cell (key_name i)) ∙ behind_plain s g (fold_alias n) (output_named all (key_name i)) (ap (is_plain g) here ∙ e.0) in
        ((column_clean s g inner (fold_alias n) (key_name i) (sort_form s t k) plain, later.0), later.1)

    abbrev passed : List (List ℕ)
    passed = fold_alias n ∷ (table_alias p ∷ [])

    -- and those of the key are its run, passed on
    keys_passed : Ready s g t → Scans final p t → (cs : List ℕ) (m i : ℕ) → Rest (own_sorts cs) m i → Each (Has s t) cs
        → i + length cs ≤ 2 ^ 64 → is_run s inner t passed cs (orders_of (output_orders (own_sorts cs) s t n i)) ≡ true
    keys_passed ready own [] m i r h le = refl
    keys_passed ready own (c ∷ cs) m i r h le =
        let x : Sort = record { own = true; key = record { through = []; column = c; desc = false; nulls_first = false } } in
        let here : output_named all (key_name i) ≡ of t (table_alias p ∷ []) c = r i (omega arith) (omega (arith, le)) ∙ rw (same_text (key_name i)) (own_origin s g final p t c ready h.0 own) in
        let is : origin_at s inner (fold_alias n) (key_name i) ≡ of t passed c = fold_cell (key_name i) ∙ ap (behind (fold_alias n)) here in
        rw (is, same t, same c, same_text (fold_alias n), same_text (table_alias p)) (keys_passed ready own cs (m + 0) (i + 1) (rest_next x (own_sorts cs) m i r) h.1 (omega (arith, le)))

    keys_size : (cs : List ℕ) (i : ℕ) → size (orders_of (output_orders (own_sorts cs) s t n i)) ≡ length cs
    keys_size [] i = refl
    keys_size (c ∷ cs) i = ap suc (keys_size cs (i + 1))

    -- the sort keys of the fold have no faults
    pub orders_passed : Ready s g t → Scans final p t → (es : List SortKey) (m : ℕ) → EntriesPlain s g t p look final es m → length (shown_sorts es (own_sorts (table s t).key)) ≤ 2 ^ 64
        → ((k : ℕ) → output_named all (key_name k) ≡ output_named (output_origins s final (key_outs (shown_sorts es (own_sorts (table s t).key)) m 0)) (key_name k))
        → orders_faults s g inner 0 (orders_of (output_orders (shown_sorts es (own_sorts (table s t).key)) s t n 0)) ≡ []
    orders_passed ready own es m e few outs =
        let cs : List ℕ = (table s t).key in
        let many = sorts_length es cs in
        let from = behind_length es 0 in
        let entries = entries_passed es cs m 0 (λ k le lt. outs k) e (omega (arith, few, many)) in
        let K : OrderTrees = orders_of (output_orders (own_sorts cs) s t n (behind_keys es 0)) in
        let run : Run s g inner t passed K = record {
          first = ready.first;
          rest = ready.rest;
          key = ready.keyed;
          differ = ready.differ;
          run =
              subst (λ ks. is_run s inner t passed ks K ≡ true) ready.keyed
              (keys_passed ready own cs (behind_sorts s g t p look es m) (behind_keys es 0) entries.1 ready.key
              (omega (arith, few, many, from)));
          whole = keys_size cs (behind_keys es 0) ∙ ap length ready.keyed;
        } in
        ap (orders_faults s g inner 0) (fold_split es cs 0) ∙ covered s g inner t passed K run 0 (fold_entries es 0) (omega arith) entries.0
