-- The `where` of a request, and the first row of a table, are without faults where they use what is granted.
use Rattle.std.proofs.Common.{◌≡◌, ℕ, suc, ◌+◌, ◌<◌, ◌≤◌, ◌^◌, List, [], ◌∷◌, ◌++◌, length, Bool, true, false, cond, ◌||◌, ◌==◌, Option, Some, None, bytes_eq, refl, sym, ap, ◌∙◌, subst, arith, eq-eqb}
use Rattle.hq_base.specs.Lists.{Each}
use Rattle.hq_model.specs.Bexp.{BexpTree, always, and_of, or_of, not_of, test, through, exists_in, two_columns, BexpTrees, no_bexp, bexp, operands_of}
use Rattle.hq_model.specs.Grants.{Grants}
use Rattle.hq_model.specs.Schema.{Schema, table, rel}
use Rattle.hq_model.specs.Tests.{is_of_nothing}
use Rattle.hq_model.specs.declared.table.Column.{Column}
use Rattle.hq_sql_tree.specs.Tree as tree
use Rattle.hq_sql_tree.specs.Tree.{ExprTree, OrderTree, OrderTrees, OutTree, SelectTree, FromTree, JoinTree, JoinTrees, FilterTree, PredTree, orders_of, joins_of}
use Rattle.hq_translation.specs.Conditions.{with_member, where_of}
use Rattle.hq_translation.specs.Fine.{Has}
use Rattle.hq_translation.specs.Looks.{Look, tested_at, tested_form, compared_form, type_in}
use Rattle.hq_translation.specs.Masks.{value_output, extra, masks, shown_look, filter_numbers, filter_predicate, where_mode}
use Rattle.hq_translation.specs.Names.{table_alias, value_name, unit_name}
use Rattle.hq_translation.specs.Predicates.{columns_in, columns_in_all, numbers, numbers_all, predicate, predicates, link}
use Rattle.hq_translation.specs.GrantedTables.{GrantedTables, granted_of}
use Rattle.hq_translation.specs.Selects.{key_orders, filter_from, behind_filter, first_select}
use Rattle.hq_translation.proofs.Names.{same_text, used_one, used_left, used_right, used_else}
use Rattle.hq_translation.proofs.Scopes.{under_later, LooksUnder, looks_under_later}
use Rattle.hq_confine_rules.specs.Conjuncts.{opened, conjuncts}
use Rattle.hq_confine_rules.specs.Origins.{Origin, made, scan, Shapes, origin, output_named, table_place}
use Rattle.hq_confine_rules.specs.Members.{filter_conjuncts, stand_among, is_mask_join}
use Rattle.hq_confine_rules.specs.Uses.{Fault, is_plain, is_run, has_run, exprs_faults, out_faults, outs_faults, orders_faults}
use Rattle.hq_confine_rules.specs.Faults.{outputs_of, joined_shapes, is_exempt, is_unordered, scan_faults, select_faults, joins_faults, where_faults}
use Rattle.hq_confine_rules.specs.Ready.{Ready, Permits, Allowed, AllAllowed}
use Rattle.hq_confine_rules.proofs.Clean.{none, IsClean, and_clean, or_clean, test_clean, IsFree, clean_free, exempt_free, three_free, two_free, where_conjuncts, where_pair}
use Rattle.hq_confine_rules.proofs.Exempt.{filter_stands, filter_exempt, link_exempt, shown_clean, shown_under}
use Rattle.hq_confine_rules.proofs.Runs.{size, Run, covered, stands}
use Rattle.hq_confine_rules.proofs.Scopes.{Grows, grows_one, Scans, scans_behind, own_origin, Shows, shows_left, shows_right, column_clean, First, Joined, joined_then, sooner, joins_clean, joins_shapes}

self_eq : (n : ℕ) → (n == n) ≡ true
self_eq n = let e = eq-eqb n n refl in rw e refl

module _ (s : Schema) (g : Grants) where
  -- ---- a scan

  -- the table u at the alias of number n
  abbrev pub from_of : (u n : ℕ) → FromTree
  from_of u n = tree.table (table s u).schema (table s u).name (table_alias n)

  abbrev pub with_scan : (u n : ℕ) → Shapes → Shapes
  with_scan u n scope = (table_alias n, scan (table_place s (table s u).schema (table s u).name)) ∷ scope

  scan_here : (u n : ℕ) (scope : Shapes) → Ready s g u → Scans (with_scan u n scope) n u
  scan_here u n scope ready = rw (same_text (table_alias n)) (ap scan ready.place)

  scan_clean : (final : Shapes) (u n : ℕ) (all : List PredTree) (keys : List OrderTree) (unordered : Bool) → Ready s g u
      → stand_among all (filter_conjuncts s g u) (table_alias n) ≡ true
      → (has_run s final u (table_alias n) (orders_of keys) || unordered) ≡ true
      → scan_faults s g final (table_place s (table s u).schema (table s u).name) (table_alias n) all keys unordered ≡ []
  scan_clean final u n all keys unordered ready stand ordered = ap (λ t. scan_faults s g final t (table_alias n) all keys unordered) ready.place ∙ rw (ready.granted, stand, ordered) refl

  -- rows over a table whose parts have none
  pub rows_clean : (scope final : Shapes) (u n : ℕ) (counts : Bool) (distinct : List ExprTree) (outs : List OutTree) (js : JoinTrees)
      (condition : FilterTree) (keys : List OrderTree) (limit offset : Option ℕ)
      → Ready s g u
      → joins_faults s g (with_scan u n scope) js ≡ [] → joined_shapes s g (with_scan u n scope) js ≡ final → exprs_faults s g final distinct ≡ [] → outs_faults s g final outs ≡ []
      → stand_among (conjuncts condition) (filter_conjuncts s g u) (table_alias n) ≡ true → (has_run s final u (table_alias n) (orders_of keys) || is_unordered counts distinct limit offset) ≡ true
      → where_faults s g final (is_exempt s g final (conjuncts condition) (from_of u n)) condition ≡ [] → orders_faults s g final 0 (orders_of keys) ≡ []
      → select_faults s g scope counts (tree.rows distinct outs (from_of u n) js condition keys limit offset) ≡ []
  rows_clean scope final u n counts distinct outs js condition keys limit offset ready cj ej cd co stand ordered cw ck =
      let all : Shapes → List Fault = λ f.
      exprs_faults s g f distinct
      ++ (outs_faults s g f outs
      ++ (scan_faults s g f (table_place s (table s u).schema (table s u).name) (table_alias n) (conjuncts condition) keys (is_unordered counts distinct limit offset)
      ++ (joins_faults s g (with_scan u n scope) js ++ (where_faults s g f (is_exempt s g f (conjuncts condition) (from_of u n)) condition ++ orders_faults s g f 0 (orders_of keys))))) in
      ap all ej ∙ none _ _ cd (none _ _ co (none _ _ (scan_clean final u n (conjuncts condition) keys (is_unordered counts distinct limit offset) ready stand ordered) (none _ _ cj (none _ _ cw ck))))

  -- ---- conditions

  mutual
    pub wanted_clean : (b : BexpTree) (look : Look) (t p n : ℕ) (scope : Shapes) → Allowed b s g t → Scans scope p t → p < n
        → Shows s g scope look (columns_in b) → LooksUnder n look → n + numbers b s (where_mode s (granted_of g)) t ≤ 2 ^ 64
        → IsClean s g scope (predicate b s (where_mode s (granted_of g)) look t p n)
    wanted_clean always look t p n scope f own lt k u bound = refl
    wanted_clean (and_of bs) look t p n scope f own lt k u bound = and_clean s g scope (predicates bs s (where_mode s (granted_of g)) look t p n) (wanteds_clean bs look t p n scope f own lt k u bound)
    wanted_clean (or_of bs) look t p n scope f own lt k u bound = or_clean s g scope (predicates bs s (where_mode s (granted_of g)) look t p n) (wanteds_clean bs look t p n scope f own lt k u bound)
    wanted_clean (not_of b) look t p n scope f own lt k u bound = wanted_clean b look t p n scope f own lt k u bound
    wanted_clean (test c tested vs negated) look t p n scope f own lt k u bound =
        test_clean s g scope (type_in (table s t).columns c) (tested_at (table s t).columns (look c) c tested) tested (operands_of vs)
        negated
        (λ some. column_clean s g scope (look c).alias (look c).name (tested_form tested (type_in (table s t).columns c))
        (k c (used_else c (is_of_nothing tested (operands_of vs)) some)))
    wanted_clean (through r b) look t p n scope f own lt k u bound =
        let R : GrantedTables = granted_of g in
        let far : ℕ = (rel s t r).remote in
        let cs : List ℕ = columns_in b in
        let ready : Ready s g far = f.0.ready in
        let within : Shapes = with_scan far n scope in
        let near : Scans within n far = scan_here far n scope ready in
        let j = shown_clean s g far n cs within ready f.1 near (omega arith) in
        let final : Shapes = j.after in
        let here : Scans final n far = scans_behind within final n (n + 1) far (omega arith) j.grows near in
        let above : Scans final p t =
        scans_behind within final p (n + 1) t (omega arith) j.grows
        (scans_behind scope within p n t lt
        (grows_one n (scan (table_place s (table s far).schema (table s far).name)) scope (omega arith)) own) in
        let from : ℕ = n + 1 + extra s R far cs in
        let behind : ℕ = n + 1 + extra s R far cs + filter_numbers s R far in
        let L : PredTree = link s t (rel s t r) p n in
        let A : PredTree = filter_predicate s R far n from in
        let B : PredTree = predicate b s (where_mode s R) (shown_look s R far cs n) far n behind in
        let shown : Shows s g final (shown_look s R far cs n) cs = j.seen final (λ a v. refl) in
        let inner =
        wanted_clean b (shown_look s R far cs n) far n behind final f.2 here (omega arith) shown
        (looks_under_later from behind (shown_look s R far cs n) (omega arith) (shown_under s g far n cs (omega arith))) (omega arith) in
        let all : List PredTree = opened L ++ (opened A ++ (opened B ++ [])) in
        let is : conjuncts (where_of (with_member L (with_member A (with_member B [])))) ≡ all = where_conjuncts L A B in
        let ex : PredTree → Bool = is_exempt s g final all (from_of far n) in
        let kept : where_faults s g final ex (where_of (with_member L (with_member A (with_member B [])))) ≡ [] =
        three_free s g final ex L A B (exempt_free s g final ex L (link_exempt s g t r p n final (opened A ++ (opened B ++ [])) ready lt (omega arith) above f.0.within))
        (exempt_free s g final ex A (filter_exempt s g far n from final all ready (omega arith) (omega arith))) (clean_free s g final ex B inner) in
        let stand : stand_among all (filter_conjuncts s g far) (table_alias n) ≡ true = filter_stands s g far n from (opened L) (opened B ++ []) (omega arith) (omega arith) in
        rows_clean scope final far n false [] (record { value = tree.bool true; name = unit_name } ∷ []) (joins_of (masks s R far cs n))
        (where_of (with_member L (with_member A (with_member B [])))) [] None None ready
        (joins_clean s g within (n + 1) from (masks s R far cs n) _ j) (joins_shapes s g within (n + 1) from (masks s R far cs n) _ j) refl refl
        (ap (λ l. stand_among l (filter_conjuncts s g far) (table_alias n)) is ∙ stand) refl
        (subst (λ l. where_faults s g final (is_exempt s g final l (from_of far n)) (where_of (with_member L (with_member A (with_member B [])))) ≡ []) (sym is) kept) refl
    wanted_clean (exists_in u b) look t p n scope f own lt k v bound =
        let R : GrantedTables = granted_of g in
        let cs : List ℕ = columns_in b in
        let ready : Ready s g u = f.0 in
        let within : Shapes = with_scan u n scope in
        let near : Scans within n u = scan_here u n scope ready in
        let j = shown_clean s g u n cs within ready f.1 near (omega arith) in
        let final : Shapes = j.after in
        let here : Scans final n u = scans_behind within final n (n + 1) u (omega arith) j.grows near in
        let from : ℕ = n + 1 + extra s R u cs in
        let behind : ℕ = n + 1 + extra s R u cs + filter_numbers s R u in
        let A : PredTree = filter_predicate s R u n from in
        let B : PredTree = predicate b s (where_mode s R) (shown_look s R u cs n) u n behind in
        let shown : Shows s g final (shown_look s R u cs n) cs = j.seen final (λ a w. refl) in
        let inner =
        wanted_clean b (shown_look s R u cs n) u n behind final f.2 here (omega arith) shown
        (looks_under_later from behind (shown_look s R u cs n) (omega arith) (shown_under s g u n cs (omega arith))) (omega arith) in
        let all : List PredTree = opened A ++ (opened B ++ []) in
        let is : conjuncts (where_of (with_member A (with_member B []))) ≡ all = where_pair A B in
        let ex : PredTree → Bool = is_exempt s g final all (from_of u n) in
        let kept : where_faults s g final ex (where_of (with_member A (with_member B []))) ≡ [] =
        two_free s g final ex A B (exempt_free s g final ex A (filter_exempt s g u n from final all ready (omega arith) (omega arith))) (clean_free s g final ex B inner) in
        let stand : stand_among all (filter_conjuncts s g u) (table_alias n) ≡ true = filter_stands s g u n from [] (opened B ++ []) (omega arith) (omega arith) in
        rows_clean scope final u n false [] (record { value = tree.bool true; name = unit_name } ∷ []) (joins_of (masks s R u cs n)) (where_of (with_member A (with_member B []))) [] None None ready
        (joins_clean s g within (n + 1) from (masks s R u cs n) _ j) (joins_shapes s g within (n + 1) from (masks s R u cs n) _ j) refl refl
        (ap (λ l. stand_among l (filter_conjuncts s g u) (table_alias n)) is ∙ stand) refl
        (subst (λ l. where_faults s g final (is_exempt s g final l (from_of u n)) (where_of (with_member A (with_member B []))) ≡ []) (sym is) kept) refl
    wanted_clean (two_columns l op r) look t p n scope f own lt k u bound =
        none _ _ (column_clean s g scope (look l).alias (look l).name (compared_form (type_in (table s t).columns l)) (k l (used_left l (l ∷ []) (r ∷ []) (used_one l))))
        (none _ _ (column_clean s g scope (look r).alias (look r).name (compared_form (type_in (table s t).columns r)) (k r (used_right r (l ∷ []) (r ∷ []) (used_one r)))) refl)

    wanteds_clean : (bs : BexpTrees) (look : Look) (t p n : ℕ) (scope : Shapes) → AllAllowed bs s g t → Scans scope p t → p < n
        → Shows s g scope look (columns_in_all bs) → LooksUnder n look → n + numbers_all bs s (where_mode s (granted_of g)) t ≤ 2 ^ 64
        → Each (IsClean s g scope) (predicates bs s (where_mode s (granted_of g)) look t p n)
    wanteds_clean no_bexp look t p n scope f own lt k u bound = tt
    wanteds_clean (bexp b bs) look t p n scope f own lt k u bound =
        let next : ℕ = n + numbers b s (where_mode s (granted_of g)) t in (
          wanted_clean b look t p n scope f.0 own lt (shows_left s g scope look (columns_in b) (columns_in_all bs) k) u (omega arith),
          wanteds_clean bs look t p next scope f.1 own (omega arith) (shows_right s g scope look (columns_in b) (columns_in_all bs) k) (looks_under_later n next look (omega arith) u) (omega arith),
        )

  -- ---- a first row

  -- the columns of a key at their scan are a run
  keys_run : (final : Shapes) (u n : ℕ) → Ready s g u → Scans final n u → (cs : List ℕ) → Each (Has s u) cs
      → is_run s final u (table_alias n ∷ []) cs (orders_of (key_orders (table s u).columns n cs)) ≡ true
  keys_run final u n ready k [] h = refl
  keys_run final u n ready k (c ∷ cs) h =
      let own = own_origin s g final n u c ready h.0 k in
      let a : (u == u) ≡ true = self_eq u in
      let b : (c == c) ≡ true = self_eq c in
      rw (own, a, b, same_text (table_alias n)) (keys_run final u n ready k cs h.1)

  keys_size : (columns : List Column) (n : ℕ) (cs : List ℕ) → size (orders_of (key_orders columns n cs)) ≡ length cs
  keys_size columns n [] = refl
  keys_size columns n (c ∷ cs) = ap suc (keys_size columns n cs)

  pub key_run : (final : Shapes) (u n : ℕ) → Ready s g u → Scans final n u → Run s g final u (table_alias n ∷ []) (orders_of (key_orders (table s u).columns n (table s u).key))
  key_run final u n ready k =
      let K : OrderTrees = orders_of (key_orders (table s u).columns n (table s u).key) in
      record {
        first = ready.first;
        rest = ready.rest;
        key = ready.keyed;
        differ = ready.differ;
        run = subst (λ cs. is_run s final u (table_alias n ∷ []) cs K ≡ true) ready.keyed (keys_run final u n ready k (table s u).key ready.key);
        whole = keys_size (table s u).columns n (table s u).key ∙ ap length ready.keyed;
      }

  -- the scope behind an alias and its masks
  pub record Behind (scope : Shapes) (u n : ℕ) (cs : List ℕ) (here : Shapes) : Type 0 where
    pub own : Scans here n u
    pub shown : Shows s g here (shown_look s (granted_of g) u cs n) cs
    pub grows : Grows n scope here

  -- the joins of an alias: its masks, and others
  pub alias_joins : (scope : Shapes) (u n m : ℕ) (cs : List ℕ) (J : List JoinTree) (V : Shapes → Type 0) → Ready s g u → Permits s g u cs → n + 1 + extra s (granted_of g) u cs ≤ m → m ≤ 2 ^ 64
      → ((here : Shapes) → Behind scope u n cs here → Joined s g here (n + 1 + extra s (granted_of g) u cs) m J V)
      → Joined s g (with_scan u n scope) (n + 1) m (masks s (granted_of g) u cs n ++ J) (λ final. Behind scope u n cs final × V final)
  alias_joins scope u n m cs J V ready permits le bound kids =
      let within : Shapes = with_scan u n scope in
      let mid : ℕ = n + 1 + extra s (granted_of g) u cs in
      let near : Scans within n u = scan_here u n scope ready in
      let first = shown_clean s g u n cs within ready permits near (omega arith) in
      let around : (final : Shapes) → Grows (n + 1) within final → Grows n scope final =
      λ final grown a v. grown a (under_later n (n + 1) a (omega arith) v)
      ∙ grows_one n (scan (table_place s (table s u).schema (table s u).name)) scope (omega arith) a v in
      let behind : Behind scope u n cs first.after = record {
        own = scans_behind within first.after n (n + 1) u (omega arith) first.grows near;
        shown = first.seen first.after (λ a v. refl);
        grows = around first.after first.grows;
      } in
      let rest = kids first.after behind in
      let both =
      joined_then s g within (n + 1) mid m (masks s (granted_of g) u cs n) J
      (λ final. Shows s g final (shown_look s (granted_of g) u cs n) cs) V (omega arith) (omega (arith, le)) first rest in
      record {
        after = both.after;
        clean = both.clean;
        joined = both.joined;
        grows = both.grows;
        seen = λ final grown.
            let all : Grows (n + 1) within final = λ a v. grown a (under_later (n + 1) m a (omega (arith, le)) v) ∙ both.grows a v in
            let seen = both.seen final grown in
            (record { own = scans_behind within final n (n + 1) u (omega arith) all near; shown = seen.0; grows = around final all }, seen.1);
      }

  unless : (b : Bool) (fs : List Fault) → fs ≡ [] → cond b [] fs ≡ []
  unless true fs h = refl
  unless false fs h = h

  shown_or : (b : Bool) (os : List (List ℕ × Origin)) → is_plain g (output_named os value_name) ≡ true → is_plain g (output_named (cond b [] os) value_name) ≡ true
  shown_or true os h = refl
  shown_or false os h = h

  -- a tie of the scan of u at the alias of number n, whatever stands behind it among the conjuncts
  abbrev pub IsTied : Shapes → (u n : ℕ) → PredTree → Type 0
  IsTied final u n tie = (ys : List PredTree) → IsFree s g final (is_exempt s g final (opened tie ++ ys) (from_of u n)) tie

  -- the first row of a table, its tie, its value and its joins given
  pub first_clean : (scope : Shapes) (u n m : ℕ) (cs : List ℕ) (tie : PredTree) (e : ExprTree) (J : List JoinTree) → Ready s g u
      → Permits s g u cs → behind_filter s (granted_of g) u cs n ≤ m → m ≤ 2 ^ 64
      → ((final : Shapes) → Behind scope u n cs final → IsTied final u n tie)
      → ((here : Shapes) → Behind scope u n cs here → Joined s g here (behind_filter s (granted_of g) u cs n) m J (λ final. (out_faults s g final e ≡ []) × (is_plain g (origin s final e) ≡ true)))
      → First s g scope (first_select s u n tie (filter_predicate s (granted_of g) u n (filter_from s (granted_of g) u cs n)) e (masks s (granted_of g) u cs n ++ J))
  first_clean scope u n m cs tie e J ready permits le bound tied kids =
      let R : GrantedTables = granted_of g in
      let V : Shapes → Type 0 = λ final. (out_faults s g final e ≡ []) × (is_plain g (origin s final e) ≡ true) in
      let within : Shapes = with_scan u n scope in
      let from : ℕ = filter_from s R u cs n in
      let A : PredTree = filter_predicate s R u n from in
      let J' : List JoinTree = masks s R u cs n ++ J in
      let later : (here : Shapes) → Behind scope u n cs here → Joined s g here (n + 1 + extra s R u cs) m J V =
      λ here behind. sooner s g here (n + 1 + extra s R u cs) (behind_filter s R u cs n) m J V (omega arith) (kids here behind) in
      let j = alias_joins scope u n m cs J V ready permits (omega (arith, le)) bound later in
      let final : Shapes = j.after in
      let seen = j.seen final (λ a v. refl) in
      let keys : List OrderTree = key_orders (table s u).columns n (table s u).key in
      let K : OrderTrees = orders_of keys in
      let run = key_run final u n ready seen.0.own in
      let condition : FilterTree = where_of (with_member tie (with_member A [])) in
      let all : List PredTree = opened tie ++ (opened A ++ []) in
      let is : conjuncts condition ≡ all = where_pair tie A in
      let ex : PredTree → Bool = is_exempt s g final all (from_of u n) in
      let kept : where_faults s g final ex condition ≡ [] =
      two_free s g final ex tie A (tied final seen.0 (opened A ++ []))
      (exempt_free s g final ex A (filter_exempt s g u n from final all ready (omega arith) (omega (arith, le)))) in
      let stand : stand_among all (filter_conjuncts s g u) (table_alias n) ≡ true = filter_stands s g u n from (opened tie) [] (omega arith) (omega (arith, le)) in
      let shapes : joined_shapes s g within (joins_of J') ≡ final = joins_shapes s g within (n + 1) m J' _ j in
      let select : SelectTree = first_select s u n tie A e J' in
      let faultless : select_faults s g scope true select ≡ [] =
      rows_clean scope final u n true [] (value_output e) (joins_of J') condition keys (Some 1) None ready (joins_clean s g within (n + 1) m J' _ j) shapes refl (none _ _ seen.1.0 refl)
      (ap (λ l. stand_among l (filter_conjuncts s g u) (table_alias n)) is ∙ stand) (rw (stands s g final u (table_alias n ∷ []) K run (table_alias n) refl []) refl)
      (subst (λ l. where_faults s g final (is_exempt s g final l (from_of u n)) condition ≡ []) (sym is) kept) (covered s g final u (table_alias n ∷ []) K run 0 [] (omega arith) tt) in
      let shows : is_plain g (output_named (outputs_of s g scope select) value_name) ≡ true =
      ap (λ f. is_plain g (cond (bytes_eq value_name value_name) (origin s f e) made)) shapes ∙ ap (λ b. is_plain g (cond b (origin s final e) made)) (same_text value_name) ∙ seen.1.1 in
      record { clean = unless (is_mask_join s g scope select) (select_faults s g scope true select) faultless; shows = shown_or (is_mask_join s g scope select) (outputs_of s g scope select) shows }
