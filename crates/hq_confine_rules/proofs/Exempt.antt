-- The filter of a scan and the link to another stand among its conjuncts, and are exempt; the join of a mask is one.
use Rattle.std.proofs.Common.{◌≡◌, ℕ, ◌+◌, ◌<◌, ◌≤◌, ◌^◌, List, [], ◌∷◌, ◌++◌, length, Bool, true, false, cond, not, ◌&&◌, ◌||◌, ◌==◌, Some, filter, refl, sym, ap, ◌∙◌, subst, arith, append_assoc, eq-eqb, eqb-true}
use Rattle.std.specs.List.{list_all, list_any}
use Rattle.hq_base.specs.Lists.{Each, Zip}
use Rattle.hq_model.specs.Bexp.{BexpTree}
use Rattle.hq_model.specs.Grants.{Grants, grant}
use Rattle.hq_model.specs.Permission.{Mask}
use Rattle.hq_model.specs.Schema.{Schema, table, rel}
use Rattle.hq_model.specs.declared.meta.Pair.{Pair}
use Rattle.hq_model.specs.declared.op.Op.TheVariants.{Eq}
use Rattle.hq_model.specs.declared.table.Column.{Column}
use Rattle.hq_model.specs.declared.test.Test.TheVariants.{Compare}
use Rattle.hq_sql_tree.specs.Tree as tree
use Rattle.hq_sql_tree.specs.Tree.{PredTree}
use Rattle.hq_translation.specs.Fine.{Has}
use Rattle.hq_translation.specs.Looks.{name_of, own_look, compared_at, is_used}
use Rattle.hq_translation.specs.Masks.{value_place, mask_numbers, mask_select, mask_joins, mask_look, used_masks, extra, masks, shown_look, filter_numbers, filter_predicate}
use Rattle.hq_translation.specs.Names.{table_alias, join_alias, value_name}
use Rattle.hq_translation.specs.Predicates.{link_members, link, own_numbers, own_predicate}
use Rattle.hq_translation.specs.GrantedTables.{granted_of}
use Rattle.hq_translation.proofs.Names.{same_text, table_aliases_differ}
use Rattle.hq_translation.proofs.Scopes.{Under, under_join, under_later, LooksUnder, looks_under_later, own_under}
use Rattle.hq_confine_rules.specs.Conjuncts.{opened}
use Rattle.hq_confine_rules.specs.Origins.{scan, outputs, Shapes, shape_at, origin_at, table_place}
use Rattle.hq_confine_rules.specs.Renamed.{stands_for}
use Rattle.hq_confine_rules.specs.Members.{filter_conjuncts, is_one_of, stand_among, Equation, equation, is_equation_of, is_for_pair, is_whole_link, links_shape, is_linking, has_mask, is_permitted, mask_conjuncts, shows_masked, shows_in, is_mask_join}
use Rattle.hq_confine_rules.specs.Uses.{is_plain}
use Rattle.hq_confine_rules.specs.Faults.{is_exempt}
use Rattle.hq_confine_rules.specs.Ready.{IsMask, Ready, Permits}
use Rattle.hq_confine_rules.proofs.Clean.{where_one}
use Rattle.hq_confine_rules.proofs.Renaming.{Alike, own_alike, opened_alike}
use Rattle.hq_confine_rules.proofs.Filters.{or_left, or_right, any_right, any_pair, any_rel, link_opened, all_among, each_one_of, all_one_of}
use Rattle.hq_confine_rules.proofs.Scopes.{grows_one, Scans, scans_behind, own_origin, Shows, First, Joined, joined_none, joined_then, joined_one, joined_as}

own_stands : (n : ℕ) → stands_for ((table_alias 0, table_alias n) ∷ []) (table_alias 0) (table_alias n) ≡ true
own_stands n = rw (same_text (table_alias 0), same_text (table_alias n)) refl

self_eq : (n : ℕ) → (n == n) ≡ true
self_eq n = let e = eq-eqb n n refl in rw e refl

members_append : (columns remote : List Column) (p q : ℕ) (xs ys : List Pair) → link_members columns remote p q (xs ++ ys) ≡ link_members columns remote p q xs ++ link_members columns remote p q ys
members_append columns remote p q [] ys = refl
members_append columns remote p q (x ∷ xs) ys =
    ap
    (λ l. tree.test (compared_at remote (own_look remote q x.remote) x.remote) (Compare Eq)
    (compared_at columns (own_look columns p x.own) x.own ∷ [])
    ∷ l)
    (members_append columns remote p q xs ys)

pairs_shift : (xs : List Pair) (x : Pair) (ys : List Pair) → (xs ++ (x ∷ [])) ++ ys ≡ xs ++ (x ∷ ys)
pairs_shift [] x ys = refl
pairs_shift (z ∷ xs) x ys = ap (λ l. z ∷ l) (pairs_shift xs x ys)

module _ (s : Schema) (g : Grants) where
  -- a condition of a table at one alias and at that of number 0
  written : (b : BexpTree) (t n from : ℕ) → n < from → from + own_numbers b s t ≤ 2 ^ 64
      → Zip (Alike ((table_alias 0, table_alias n) ∷ [])) (opened (own_predicate b s t 0 1)) (opened (own_predicate b s t n from))
  written b t n from lt bound =
      opened_alike ((table_alias 0, table_alias n) ∷ []) (own_predicate b s t 0 1) (own_predicate b s t n from)
      (own_alike s b ((table_alias 0, table_alias n) ∷ []) t 0 n 1 from (own_stands n) (omega arith) lt (omega arith) bound)

  -- ---- filters

  pub filter_stands : (t n from : ℕ) (xs ys : List PredTree) → n < from → from + filter_numbers s (granted_of g) t ≤ 2 ^ 64
      → stand_among (xs ++ (opened (filter_predicate s (granted_of g) t n from) ++ ys)) (filter_conjuncts s g t) (table_alias n) ≡ true
  filter_stands t n from xs ys lt bound = all_among (table_alias n) (filter_conjuncts s g t) (opened (filter_predicate s (granted_of g) t n from)) xs ys (written (grant g t).filter t n from lt bound)

  exempt_each : (P Q : PredTree → Type 0) → ((p : PredTree) → P p → Q p) → (ps : List PredTree) → Each P ps → Each Q ps
  exempt_each P Q f [] h = tt
  exempt_each P Q f (p ∷ ps) h = (f p h.0, exempt_each P Q f ps h.1)

  pub filter_exempt : (t n from : ℕ) (scope : Shapes) (all : List PredTree) → Ready s g t → n < from → from + filter_numbers s (granted_of g) t ≤ 2 ^ 64
      → Each (λ c. is_exempt s g scope all (tree.table (table s t).schema (table s t).name (table_alias n)) c ≡ true) (opened (filter_predicate s (granted_of g) t n from))
  filter_exempt t n from scope all ready lt bound =
      exempt_each (λ c. is_one_of (filter_conjuncts s g t) (table_alias n) c ≡ true) (λ c. is_exempt s g scope all (tree.table (table s t).schema (table s t).name (table_alias n)) c ≡ true)
      (λ c h. or_left (is_one_of (filter_conjuncts s g (table_place s (table s t).schema (table s t).name)) (table_alias n) c)
      (is_linking s scope all (table_place s (table s t).schema (table s t).name) (table_alias n) (equation c))
      (ap (λ u. is_one_of (filter_conjuncts s g u) (table_alias n) c) ready.place ∙ h))
      (opened (filter_predicate s (granted_of g) t n from))
      (each_one_of (table_alias n) (filter_conjuncts s g t) (opened (filter_predicate s (granted_of g) t n from))
      (written (grant g t).filter t n from lt bound))

  -- ---- links

  module _ (t r p n : ℕ) where
    abbrev far : ℕ
    far = (rel s t r).remote

    abbrev members : List Pair → List PredTree
    members = link_members (table s t).columns (table s far).columns p n

    abbrev equation_of : Pair → Equation
    equation_of x = record { remote_alias = table_alias n; remote_name = name_of (table s far).columns x.remote; own_alias = table_alias p; own_name = name_of (table s t).columns x.own }

    self_equation : (x : Pair) → is_equation_of s far t (table_alias n) (table_alias p) x (equation_of x) ≡ true
    self_equation x = rw (same_text (table_alias n), same_text (table_alias p), same_text (name_of (table s far).columns x.remote), same_text (name_of (table s t).columns x.own)) refl

    -- each pair has its equation
    pairs_found : (pre xs : List Pair) (ys : List PredTree) → list_all (λ x. list_any (λ c. is_for_pair s far t (table_alias n) (table_alias p) x (equation c)) (members (pre ++ xs) ++ ys)) xs ≡ true
    pairs_found pre [] ys = refl
    pairs_found pre (x ∷ xs) ys =
        let P : PredTree → Bool = λ c. is_for_pair s far t (table_alias n) (table_alias p) x (equation c) in
        let split : members (pre ++ (x ∷ xs)) ++ ys ≡ members pre ++ (members (x ∷ xs) ++ ys) =
        ap (λ l. l ++ ys) (members_append (table s t).columns (table s far).columns p n pre (x ∷ xs))
        ∙ append_assoc (members pre) (members (x ∷ xs)) ys in
        let here : list_any P (members (pre ++ (x ∷ xs)) ++ ys) ≡ true =
        ap (list_any P) split
        ∙ any_right P (members pre) (members (x ∷ xs) ++ ys) (or_left _ (list_any P (members xs ++ ys)) (self_equation x)) in
        let later : list_all (λ y. list_any (λ c. is_for_pair s far t (table_alias n) (table_alias p) y (equation c)) (members (pre ++ (x ∷ xs)) ++ ys)) xs ≡ true =
        subst
        (λ l. list_all (λ y. list_any (λ c. is_for_pair s far t (table_alias n) (table_alias p) y (equation c)) (members l ++ ys)) xs
        ≡ true)
        (pairs_shift pre x xs) (pairs_found (pre ++ (x ∷ [])) xs ys) in
        rw here later

    -- so each of them stands in a whole link
    linked : (scope : Shapes) (ys : List PredTree) → p < n → n < 2 ^ 64 → Scans scope p t → r < length (table s t).rels → (pre xs : List Pair) → (rel s t r).pairs ≡ pre ++ xs
        → Each (λ c. is_linking s scope (members (rel s t r).pairs ++ ys) far (table_alias n) (equation c) ≡ true) (members xs)
    linked scope ys lt bound k within pre [] e = tt
    linked scope ys lt bound k within pre (x ∷ xs) e =
        let all : List PredTree = members (rel s t r).pairs ++ ys in
        let q : Equation = equation_of x in
        let one : list_any (λ y. is_equation_of s far t (table_alias n) (table_alias p) y q) (rel s t r).pairs ≡ true =
        ap (list_any (λ y. is_equation_of s far t (table_alias n) (table_alias p) y q)) e
        ∙ any_pair (λ y. is_equation_of s far t (table_alias n) (table_alias p) y q) pre xs x (self_equation x) in
        let whole : is_whole_link s all far t (table_alias n) (table_alias p) q (rel s t r) ≡ true = rw (self_eq far, one) (pairs_found [] (rel s t r).pairs ys) in
        let some : list_any (is_whole_link s all far t (table_alias n) (table_alias p) q) (table s t).rels ≡ true =
        any_rel (is_whole_link s all far t (table_alias n) (table_alias p) q) (table s t).rels r within whole in
        (rw (table_aliases_differ p n lt bound) (ap (links_shape s all far (table_alias n) q) k ∙ some), linked scope ys lt bound k within (pre ++ (x ∷ [])) xs (e ∙ sym (pairs_shift pre x xs)))

    pub link_exempt : (scope : Shapes) (ys : List PredTree) → Ready s g far → p < n → n < 2 ^ 64 → Scans scope p t → r < length (table s t).rels
        → Each (λ c. is_exempt s g scope (opened (link s t (rel s t r) p n) ++ ys) (tree.table (table s far).schema (table s far).name (table_alias n)) c ≡ true) (opened (link s t (rel s t r) p n))
    link_exempt scope ys ready lt bound k within =
        let is : opened (link s t (rel s t r) p n) ≡ members (rel s t r).pairs = link_opened (table s t).columns (table s far).columns p n (rel s t r).pairs in
        subst (λ ms. Each (λ c. is_exempt s g scope (ms ++ ys) (tree.table (table s far).schema (table s far).name (table_alias n)) c ≡ true) ms) (sym is)
        (exempt_each (λ c. is_linking s scope (members (rel s t r).pairs ++ ys) far (table_alias n) (equation c) ≡ true)
        (λ c. is_exempt s g scope (members (rel s t r).pairs ++ ys) (tree.table (table s far).schema (table s far).name (table_alias n)) c
        ≡ true)
        (λ c h. or_right (is_one_of (filter_conjuncts s g (table_place s (table s far).schema (table s far).name)) (table_alias n) c)
        (is_linking s scope (members (rel s t r).pairs ++ ys) (table_place s (table s far).schema (table s far).name) (table_alias n)
        (equation c))
        (ap (λ u. is_linking s scope (members (rel s t r).pairs ++ ys) u (table_alias n) (equation c)) ready.place ∙ h))
        (members (rel s t r).pairs) (linked scope ys lt bound k within [] (rel s t r).pairs refl))

  -- ---- masks

  -- the join of a mask is recognised
  mask_first : (m : Mask) (t p n : ℕ) (scope : Shapes) → Ready s g t → IsMask s g t m → Scans scope p t → p < n → n + 1 + own_numbers m.shown s t ≤ 2 ^ 64 → First s g scope (mask_select m s t p n)
  mask_first m t p n scope ready mask k lt bound =
      let c : ℕ = m.column in
      let all : List PredTree = opened (own_predicate m.shown s t p (n + 1)) ++ [] in
      let zip : Zip (Alike ((table_alias 0, table_alias p) ∷ [])) (mask_conjuncts s g t c) (opened (own_predicate m.shown s t p (n + 1))) =
      subst
      (λ b. Zip (Alike ((table_alias 0, table_alias p) ∷ [])) (opened (own_predicate b s t 0 1))
      (opened (own_predicate m.shown s t p (n + 1))))
      (sym mask.is) (written m.shown t p (n + 1) (omega arith) (omega arith)) in
      let stands : stand_among all (mask_conjuncts s g t c) (table_alias p) ≡ true = all_among (table_alias p) (mask_conjuncts s g t c) (opened (own_predicate m.shown s t p (n + 1))) [] [] zip in
      let ones : list_all (is_one_of (mask_conjuncts s g t c) (table_alias p)) all ≡ true =
      all_one_of (table_alias p) (mask_conjuncts s g t c) (opened (own_predicate m.shown s t p (n + 1)))
      (each_one_of (table_alias p) (mask_conjuncts s g t c) (opened (own_predicate m.shown s t p (n + 1))) zip) in
      let shows : shows_masked s g (table_alias p) all t (Some c) ≡ true = rw (mask.permitted, mask.masked, stands) ones in
      let inner : Shapes = (table_alias n, outputs []) ∷ scope in
      let here : shape_at inner (table_alias p) ≡ scan t = scans_behind scope inner p n t lt (grows_one n (outputs []) scope (omega arith)) k in
      let is : is_mask_join s g scope (mask_select m s t p n) ≡ true =
      ap (λ l. shows_in s g (table_alias p) (name_of (table s t).columns c) l (shape_at inner (table_alias p))) (where_one (own_predicate m.shown s t p (n + 1)))
      ∙ ap (shows_in s g (table_alias p) (name_of (table s t).columns c) all) here ∙ ap (shows_masked s g (table_alias p) all t) (ready.names c mask.has) ∙ shows in
      record { clean = rw is refl; shows = rw is refl }

  -- the columns of a row are plain behind the joins of their masks
  abbrev Plain : Shapes → (t p n : ℕ) → List Mask → Type 0
  Plain final t p n ms =
      (c : ℕ) → Has s t c → is_permitted (grant g t) c ≡ true → (has_mask (grant g t) c ≡ true → list_any (λ m. m.column == c) ms ≡ true)
      → is_plain g (origin_at s final (mask_look ms s t p n c).alias (mask_look ms s t p n c).name) ≡ true

  masks_clean : (ms : List Mask) (t p n : ℕ) (scope : Shapes) → Ready s g t → Each (IsMask s g t) ms → Scans scope p t → p < n
      → n + mask_numbers ms s t ≤ 2 ^ 64
      → Joined s g scope n (n + mask_numbers ms s t) (mask_joins ms s t p n) (λ final. Plain final t p n ms)
  masks_clean [] t p n scope ready f k lt bound =
      joined_none s g scope n (n + 0) (λ final. Plain final t p n [])
      (λ final grown c has permitted masked.
      let own = own_origin s g final p t c ready has (scans_behind scope final p (n + 0) t (omega arith) grown k) in
      let bare : (b : Bool) → has_mask (grant g t) c ≡ b → (is_permitted (grant g t) c && not b) ≡ true = elim [ true ↦ λ e. absurd (let x = masked e in cc) | false ↦ λ e. rw permitted refl ] in
      ap (is_plain g) own ∙ bare (has_mask (grant g t) c) refl)
  masks_clean (m ∷ ms) t p n scope ready f k lt bound =
      let mid : ℕ = n + (1 + own_numbers m.shown s t) in
      let top : ℕ = n + mask_numbers (m ∷ ms) s t in
      let one = joined_one s g scope n mid (mask_select m s t p n) (omega arith) (omega arith) (mask_first m t p n scope ready f.0 k lt (omega arith)) in
      let rest = masks_clean ms t p mid one.after ready f.1 (scans_behind scope one.after p n t lt one.grows k) (omega arith) (omega arith) in
      let V : Shapes → Type 0 = λ final. is_plain g (origin_at s final (join_alias n) value_name) ≡ true in
      let W : Shapes → Type 0 = λ final. Plain final t p mid ms in
      let wide = joined_as s g one.after mid (mid + mask_numbers ms s t) top (mask_joins ms s t p mid) W W (omega arith) (λ final h. h) rest in
      let both = joined_then s g scope n mid top (record { select = mask_select m s t p n; alias = join_alias n } ∷ []) (mask_joins ms s t p mid) V W (omega arith) (omega arith) one wide in
      joined_as s g scope n top top (mask_joins (m ∷ ms) s t p n) (λ final. V final × W final) (λ final. Plain final t p n (m ∷ ms)) (omega arith)
      (λ final h c has permitted masked.
      let go : (b : Bool) → (m.column == c) ≡ b
      → is_plain g
      (origin_at s final (cond b (value_place n) (mask_look ms s t p mid c)).alias
      (cond b (value_place n) (mask_look ms s t p mid c)).name)
      ≡ true =
      elim [
        | true ↦ λ e. h.0
        | false ↦ λ e. h.1 c has permitted (λ is. ap (λ b. b || list_any (λ x. x.column == c) ms) (sym e) ∙ masked is)
      ] in
      go (m.column == c) refl) both

  masked_under : (ms : List Mask) (t p n : ℕ) → p < n → n + mask_numbers ms s t ≤ 2 ^ 64 → LooksUnder (n + mask_numbers ms s t) (mask_look ms s t p n)
  masked_under [] t p n lt bound c = looks_under_later (p + 1) (n + 0) (own_look (table s t).columns p) (omega arith) (own_under (table s t).columns p) c
  masked_under (m ∷ ms) t p n lt bound c =
      let mid : ℕ = n + (1 + own_numbers m.shown s t) in
      let top : ℕ = n + mask_numbers (m ∷ ms) s t in
      let rest : Under (mid + mask_numbers ms s t) (mask_look ms s t p mid c).alias = masked_under ms t p mid (omega arith) (omega arith) c in
      let go : (b : Bool) → Under top (cond b (value_place n) (mask_look ms s t p mid c)).alias =
      elim [ true ↦ under_later (n + 1) top (join_alias n) (omega arith) (under_join n) | false ↦ under_later (mid + mask_numbers ms s t) top (mask_look ms s t p mid c).alias (omega arith) rest ] in
      go (m.column == c)

  each_used : (P : Mask → Type 0) (used : Mask → Bool) (ms : List Mask) → Each P ms → Each P (filter used ms)
  each_used P used [] h = tt
  each_used P used (m ∷ ms) h =
      let go : (b : Bool) → Each P (cond b (m ∷ filter used ms) (filter used ms)) = elim [ true ↦ (h.0, each_used P used ms h.1) | false ↦ each_used P used ms h.1 ] in
      go (used m)

  -- a used column that has a mask has it among those that are used
  used_mask : (c : ℕ) (cs : List ℕ) → is_used c cs ≡ true → (ms : List Mask) → list_any (λ m. m.column == c) ms ≡ true → list_any (λ m. m.column == c) (filter (λ m. is_used m.column cs) ms) ≡ true
  used_mask c cs used [] h = absurd cc
  used_mask c cs used (m ∷ ms) h =
      let go : (b d : Bool) → (m.column == c) ≡ b → is_used m.column cs ≡ d → (b || list_any (λ x. x.column == c) ms) ≡ true
      → list_any (λ x. x.column == c) (cond d (m ∷ filter (λ x. is_used x.column cs) ms) (filter (λ x. is_used x.column cs) ms)) ≡ true =
      elim [
        | true ↦ elim [
          | true ↦ λ e f k. or_left (m.column == c) (list_any (λ x. x.column == c) (filter (λ x. is_used x.column cs) ms)) e
          | false ↦ λ e f k. absurd (let same : is_used m.column cs ≡ true = ap (λ x. is_used x cs) (eqb-true m.column c e) ∙ used in cc)
        ]
        | false ↦ elim [
          | true ↦ λ e f k. or_right (m.column == c) (list_any (λ x. x.column == c) (filter (λ x. is_used x.column cs) ms)) (used_mask c cs used ms k)
          | false ↦ λ e f k. used_mask c cs used ms k
        ]
      ] in
      go (m.column == c) (is_used m.column cs) refl refl h

  -- those of an alias: what is used of its columns is plain behind them
  pub shown_clean : (u n : ℕ) (cs : List ℕ) (scope : Shapes) → Ready s g u → Permits s g u cs → Scans scope n u → n + 1 + extra s (granted_of g) u cs ≤ 2 ^ 64
      → Joined s g scope (n + 1) (n + 1 + extra s (granted_of g) u cs) (masks s (granted_of g) u cs n) (λ final. Shows s g final (shown_look s (granted_of g) u cs n) cs)
  shown_clean u n cs scope ready permits k bound =
      let ms : List Mask = used_masks (granted_of g) u cs in
      joined_as s g scope (n + 1) (n + 1 + extra s (granted_of g) u cs) (n + 1 + extra s (granted_of g) u cs) (masks s (granted_of g) u cs n)
      (λ final. Plain final u n (n + 1) ms) (λ final. Shows s g final (shown_look s (granted_of g) u cs n) cs) (omega arith)
      (λ final h c used. h c (permits c used).0 (permits c used).1 (λ is. used_mask c cs used (grant g u).masks is))
      (masks_clean ms u n (n + 1) scope ready (each_used (IsMask s g u) (λ m. is_used m.column cs) (grant g u).masks ready.masks) k (omega arith) bound)

  pub shown_under : (u n : ℕ) (cs : List ℕ) → n + 1 + extra s (granted_of g) u cs ≤ 2 ^ 64 → LooksUnder (n + 1 + extra s (granted_of g) u cs) (shown_look s (granted_of g) u cs n)
  shown_under u n cs bound = masked_under (used_masks (granted_of g) u cs) u n (n + 1) (omega arith) bound
