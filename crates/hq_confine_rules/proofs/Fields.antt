-- The joins and the values of fields are without faults where they ask for what is granted: so is each statement of a request.
use Rattle.std.proofs.Common.{◌≡◌, ℕ, ◌+◌, ◌<◌, ◌≤◌, ◌^◌, List, [], ◌∷◌, ◌++◌, length, Bool, true, false, cond, refl, ap, ◌∙◌, arith}
use Rattle.std.specs.Prelude.{slice_index_or}
use Rattle.hq_base.specs.Lists.{Each}
use Rattle.hq_base.specs.declared.value.Ty.{Ty}
use Rattle.hq_base.specs.declared.value.Val.{Val}
use Rattle.hq_base.specs.declared.value.Val.TheVariants as val
use Rattle.hq_model.specs.Grants.{Grants}
use Rattle.hq_model.specs.Schema.{Schema, SchemaTable, table, rel, no_table}
use Rattle.hq_model.specs.Selected.{ListArguments}
use Rattle.hq_model.specs.declared.table.Column.{Column}
use Rattle.hq_request_tree.specs.Fields.{Origin as From, from_table, along, FieldTrees, no_field, field, FieldTree, column, typename, no_queries, object, list, by_key, aggregate, introspect, PartTrees, no_part, part, PartTree, summary, nodes, part_typename}
use Rattle.hq_request_tree.specs.Resolve.{origin_table}
use Rattle.hq_sql_tree.specs.declared.expr.ColumnForm.TheVariants.{Plain}
use Rattle.hq_sql_tree.specs.Tree as tree
use Rattle.hq_sql_tree.specs.Tree.{ExprTree, SelectTree, JoinTree, PredTree, joins_of, pairs_of}
use Rattle.hq_translation.specs.Aggregates.{some_aggregate, summary_used, folded_select, plain_select}
use Rattle.hq_translation.proofs.TextLiterals.{of_either}
use Rattle.hq_translation.specs.Conditions.{literal, joined_by_and}
use Rattle.hq_translation.specs.Fields.{field_used, fields_used, key_used, origin_tie, key_members, fields_numbers, field_numbers, parts_numbers, part_numbers, field_value, fields_values, part_value, parts_values, empty_select, parts_select, kids_from, list_join, fields_joins, field_joins, parts_joins, part_joins}
use Rattle.hq_translation.specs.Lists.{list_used, list_numbers, children_from, list_select}
use Rattle.hq_translation.specs.Looks.{Look, own_look, type_in, cell_at, shown_at, compared_form, shown_form}
use Rattle.hq_translation.specs.Masks.{value_place, extra, shown_look}
use Rattle.hq_translation.specs.Names.{table_alias, join_alias, value_name}
use Rattle.hq_translation.specs.Predicates.{link}
use Rattle.hq_translation.specs.GrantedTables.{GrantedTables, granted_of}
use Rattle.hq_translation.specs.Selects.{behind_filter}
use Rattle.hq_translation.specs.Statement.{statement}
use Rattle.hq_translation.proofs.Names.{same_text, used_one, used_left, used_right}
use Rattle.hq_translation.proofs.Scopes.{under_table, under_later, looks_under_later}
use Rattle.hq_confine_rules.specs.Conjuncts.{opened}
use Rattle.hq_confine_rules.specs.Origins.{Shapes, outputs, origin_in, origin_at, origin}
use Rattle.hq_confine_rules.specs.Uses.{is_plain, expr_faults, exprs_faults, pairs_faults, out_faults}
use Rattle.hq_confine_rules.specs.Faults.{joined_shapes, is_exempt, faults}
use Rattle.hq_confine_rules.specs.Ready.{Ready, AllowedOrigin, AllowedList, AllowedFields, AllowedField, AllowedParts, AllowedPart}
use Rattle.hq_confine_rules.proofs.Chains.{link_ties}
use Rattle.hq_confine_rules.proofs.Clean.{none, IsClean, and_clean, clean_free}
use Rattle.hq_confine_rules.proofs.Exempt.{shown_under}
use Rattle.hq_confine_rules.proofs.OneRow.{one_clean, one_first, shows_more, list_first, folded_first, plain_first}
use Rattle.hq_confine_rules.proofs.Scopes.{Grows, grows_one, Scans, scans_behind, Shows, shows_behind, shows_left, shows_right, column_clean, First, Joined, joined_none, joined_then, joined_one, joined_as, joins_clean, joins_shapes}
use Rattle.hq_confine_rules.proofs.Wanted.{from_of, Behind, IsTied, first_clean}

module _ (s : Schema) (g : Grants) where
  abbrev R : GrantedTables
  R = granted_of g

  -- where a table has relationships, the alias of number p shows it
  abbrev pub RowAt : Shapes → (p t : ℕ) → Type 0
  RowAt scope p t = (r : ℕ) → r < length (table s t).rels → Scans scope p t

  row_behind : (before after : Shapes) (p n t : ℕ) → p < n → Grows n before after → RowAt before p t → RowAt after p t
  row_behind before after p n t lt grown own r within = scans_behind before after p n t lt grown (own r within)

  -- the value of a join without faults
  value_joined : (scope : Shapes) (n m : ℕ) (q : SelectTree) → n < m → n < 2 ^ 64 → First s g scope q
      → Joined s g scope n m (record { select = q; alias = join_alias n } ∷ [])
      (λ final. expr_faults s g final (cell_at (value_place n)) ≡ [])
  value_joined scope n m q lt bound first =
      joined_as s g scope n m m (record { select = q; alias = join_alias n } ∷ [])
      (λ final. is_plain g (origin_at s final (join_alias n) value_name) ≡ true)
      (λ final. expr_faults s g final (cell_at (value_place n)) ≡ []) (omega arith)
      (λ final h. column_clean s g final (join_alias n) value_name Plain h) (joined_one s g scope n m q lt bound first)

  -- what is used of an alias stays plain behind more joins
  shown_later : (at final : Shapes) (u n behind : ℕ) (cs more : List ℕ) → n + 1 + extra s R u cs ≤ behind → behind ≤ 2 ^ 64
      → Grows behind at final → Shows s g at (shown_look s R u cs n) more → Shows s g final (shown_look s R u cs n) more
  shown_later at final u n behind cs more le bound grown shown =
      shows_behind s g at final behind (shown_look s R u cs n) more grown
      (looks_under_later (n + 1 + extra s R u cs) behind (shown_look s R u cs n) le (shown_under s g u n cs (omega (arith, le, bound))))
      shown

  -- a list is tied to the row around it
  origin_ties : (o : From) (t p n : ℕ) (scope final : Shapes) (cs : List ℕ) → AllowedOrigin o s g t → p < n → n < 2 ^ 64 → RowAt scope p t
      → Behind s g scope (origin_table o s t) n cs final → IsTied s g final (origin_table o s t) n (origin_tie o s t p n)
  origin_ties (from_table u) t p n scope final cs f lt bound own b = λ ys. refl
  origin_ties (along r) t p n scope final cs f lt bound own b = link_ties s g t r p n scope final cs f lt bound (own r f.within) b

  origin_ready : (o : From) (t : ℕ) → AllowedOrigin o s g t → Ready s g (origin_table o s t)
  origin_ready (from_table u) t f = f
  origin_ready (along r) t f = f.ready

  -- ---- a look-up by key

  literal_clean : (final : Shapes) (ty : Ty) (v : Val) → exprs_faults s g final (literal ty v ∷ []) ≡ []
  literal_clean final ty val.Null = refl
  literal_clean final ty (val.Int n) = refl
  literal_clean final ty (val.Text t) = of_either (λ e. exprs_faults s g final (e ∷ []) ≡ []) ty t refl refl
  literal_clean final ty (val.Bool b) = refl

  members_clean : (final : Shapes) (columns : List Column) (look : Look) (cs : List ℕ) (vs : List Val) → Shows s g final look cs → Each (IsClean s g final) (key_members columns look cs vs)
  members_clean final columns look [] vs k = tt
  members_clean final columns look (c ∷ cs) [] k = tt
  members_clean final columns look (c ∷ cs) (v ∷ vs) k = (
    none _ _ (column_clean s g final (look c).alias (look c).name (compared_form (type_in columns c)) (k c (used_left c (c ∷ []) cs (used_one c)))) (literal_clean final (type_in columns c) v),
    members_clean final columns look cs vs (λ d used. k d (used_right d (c ∷ []) cs used)),
  )

  key_ties : (u n : ℕ) (fs : FieldTrees) (key : List Val) (scope final : Shapes) → Behind s g scope u n (key_used s u fs) final
      → IsTied s g final u n (joined_by_and (key_members (table s u).columns (shown_look s R u (key_used s u fs) n) (table s u).key key))
  key_ties u n fs key scope final b ys =
      let look : Look = shown_look s R u (key_used s u fs) n in
      let tie : PredTree = joined_by_and (key_members (table s u).columns look (table s u).key key) in
      clean_free s g final (is_exempt s g final (opened tie ++ ys) (from_of s g u n)) tie
      (and_clean s g final (key_members (table s u).columns look (table s u).key key)
      (members_clean final (table s u).columns look (table s u).key key
      (shows_left s g final look (table s u).key (fields_used fs) b.shown)))

  -- no row: the value of a field that no table answers
  empty_first : (scope : Shapes) (n : ℕ) → First s g scope (empty_select n)
  empty_first scope n = one_first s g scope n tree.no_pair [] (tree.filter tree.never) refl refl refl

  -- the values of fields have no faults
  abbrev pub ValuesClean : FieldTrees → Look → (t n : ℕ) → Shapes → Type 0
  ValuesClean fs look t n final = pairs_faults s g final (pairs_of (fields_values fs s R look t n)) ≡ []

  -- a list with the joins of its fields, which are given
  list_at : (o : From) (a : ListArguments) (fs : FieldTrees) (scope : Shapes) (t p n : ℕ) → AllowedOrigin o s g t → AllowedList s g (origin_table o s t) a (fields_used fs) → RowAt scope p t → p < n
      → n + (list_numbers s R (origin_table o s t) (list_used s (origin_table o s t) a (fields_used fs)) a + fields_numbers fs s R (origin_table o s t)) ≤ 2 ^ 64
      → ((here : Shapes) → Behind s g scope (origin_table o s t) n (list_used s (origin_table o s t) a (fields_used fs)) here
      →
      ((final : Shapes) → Grows (kids_from s R (origin_table o s t) a fs n) here final
      → Shows s g final (shown_look s R (origin_table o s t) (list_used s (origin_table o s t) a (fields_used fs)) n) (fields_used fs))
      → Joined s g here (kids_from s R (origin_table o s t) a fs n)
      (kids_from s R (origin_table o s t) a fs n + fields_numbers fs s R (origin_table o s t))
      (fields_joins fs s R (origin_table o s t) n (kids_from s R (origin_table o s t) a fs n))
      (ValuesClean fs (shown_look s R (origin_table o s t) (list_used s (origin_table o s t) a (fields_used fs)) n) (origin_table o s t) (kids_from s R (origin_table o s t) a fs n)))
      → Joined s g scope n (n + (list_numbers s R (origin_table o s t) (list_used s (origin_table o s t) a (fields_used fs)) a + fields_numbers fs s R (origin_table o s t)))
      (list_join s R o t p a fs n (fields_joins fs s R (origin_table o s t) n (kids_from s R (origin_table o s t) a fs n)) ∷ []) (λ final. expr_faults s g final (cell_at (value_place n)) ≡ [])
  list_at o a fs scope t p n fo fa own lt bound fields =
      let u : ℕ = origin_table o s t in
      let cs : List ℕ = list_used s u a (fields_used fs) in
      let kid : ℕ = children_from s R u cs a n in
      let m : ℕ = kid + fields_numbers fs s R u in
      let inner : Look = shown_look s R u cs n in
      let first =
      list_first s g scope u n m a (fields_used fs) (origin_tie o s t p n) (fields_values fs s R inner u kid)
      (fields_joins fs s R u n kid) (ValuesClean fs inner u kid) (origin_ready o t fo) fa (omega arith) (omega arith)
      (λ final b. origin_ties o t p n scope final cs fo lt (omega arith) own b)
      (λ here b. fields here b (λ final grown. shown_later here final u n kid cs (fields_used fs) (omega arith) (omega arith) grown (shows_more s g here u n a (fields_used fs) b.shown)))
      (λ final h. h) in
      value_joined scope n (n + (list_numbers s R u cs a + fields_numbers fs s R u))
      (list_select s R u cs a n (origin_tie o s t p n) (fields_values fs s R inner u kid) (fields_joins fs s R u n kid)) (omega arith)
      (omega arith) first

  mutual
    pub fields_joined : (fs : FieldTrees) (scope : Shapes) (t p n : ℕ) (look : Look) → AllowedFields fs s g t → RowAt scope p t → p < n
        → n + fields_numbers fs s R t ≤ 2 ^ 64 → ((final : Shapes) → Grows n scope final → Shows s g final look (fields_used fs))
        → Joined s g scope n (n + fields_numbers fs s R t) (fields_joins fs s R t p n) (ValuesClean fs look t n)
    fields_joined no_field scope t p n look f own lt bound shown = joined_none s g scope n (n + 0) (ValuesClean no_field look t n) (λ final grown. refl)
    fields_joined (field key x fs) scope t p n look f own lt bound shown =
        let mid : ℕ = n + field_numbers x s R t in
        let top : ℕ = n + fields_numbers (field key x fs) s R t in
        let first = field_joined x scope t p n look f.0 own lt (omega arith) (λ final grown. shows_left s g final look (field_used x) (fields_used fs) (shown final grown)) in
        let rest = fields_joined fs first.after t p mid look f.1 (row_behind scope first.after p n t lt first.grows own) (omega arith) (omega arith)
        (λ final grown. shows_right s g final look (field_used x) (fields_used fs) (shown final (λ a u. grown a (under_later n mid a (omega arith) u) ∙ first.grows a u))) in
        let wide =
        joined_as s g first.after mid (mid + fields_numbers fs s R t) top (fields_joins fs s R t p mid) (ValuesClean fs look t mid)
        (ValuesClean fs look t mid) (omega arith) (λ final h. h) rest in
        let both =
        joined_then s g scope n mid top (field_joins x s R t p n) (fields_joins fs s R t p mid)
        (λ final. expr_faults s g final (field_value x (table s t).columns look n) ≡ []) (ValuesClean fs look t mid) (omega arith)
        (omega arith) first wide in
        joined_as s g scope n top top (fields_joins (field key x fs) s R t p n)
        (λ final. (expr_faults s g final (field_value x (table s t).columns look n) ≡ []) × ValuesClean fs look t mid final)
        (ValuesClean (field key x fs) look t n) (omega arith) (λ final h. none _ _ h.0 h.1) both

    field_joined : (x : FieldTree) (scope : Shapes) (t p n : ℕ) (look : Look) → AllowedField x s g t → RowAt scope p t → p < n
        → n + field_numbers x s R t ≤ 2 ^ 64 → ((final : Shapes) → Grows n scope final → Shows s g final look (field_used x))
        → Joined s g scope n (n + field_numbers x s R t) (field_joins x s R t p n) (λ final. expr_faults s g final (field_value x (table s t).columns look n) ≡ [])
    field_joined (column c) scope t p n look f own lt bound shown =
        joined_none s g scope n (n + 0) (λ final. expr_faults s g final (shown_at (table s t).columns (look c) c) ≡ [])
        (λ final grown. column_clean s g final (look c).alias (look c).name (shown_form (type_in (table s t).columns c))
        (shown final (λ a u. grown a (under_later n (n + 0) a (omega arith) u)) c (used_one c)))
    field_joined (typename name) scope t p n look f own lt bound shown = joined_none s g scope n (n + 0) (λ final. expr_faults s g final (tree.text name) ≡ []) (λ final grown. refl)
    field_joined no_queries scope t p n look f own lt bound shown = value_joined scope n (n + 1) (empty_select n) (omega arith) (omega arith) (empty_first scope n)
    field_joined (introspect q) scope t p n look f own lt bound shown = value_joined scope n (n + 1) (empty_select n) (omega arith) (omega arith) (empty_first scope n)
    field_joined (object r fs) scope t p n look f own lt bound shown =
        let u : ℕ = (rel s t r).remote in
        let cs : List ℕ = fields_used fs in
        let behind : ℕ = behind_filter s R u cs n in
        let m : ℕ = behind + fields_numbers fs s R u in
        let inner : Look = shown_look s R u cs n in
        let J : List JoinTree = fields_joins fs s R u n behind in
        let e : ExprTree = tree.object (pairs_of (fields_values fs s R inner u behind)) in
        let first = first_clean s g scope u n m cs (link s t (rel s t r) p n) e J f.0.ready f.1 (omega arith) (omega arith)
        (λ final b. link_ties s g t r p n scope final cs f.0 lt (omega arith) (own r f.0.within) b)
        (λ at b. joined_as s g at behind m m J (ValuesClean fs inner u behind) (λ final. (out_faults s g final e ≡ []) × (is_plain g (origin s final e) ≡ true)) (omega arith) (λ final h. (h, refl))
        (fields_joined fs at u n behind inner f.2 (λ r2 w. b.own) (omega arith) (omega arith) (λ final grown. shown_later at final u n behind cs cs (omega arith) (omega arith) grown b.shown))) in
        value_joined scope n (n + field_numbers (object r fs) s R t) _ (omega arith) (omega arith) first
    field_joined (list o a fs) scope t p n look f own lt bound shown =
        let u : ℕ = origin_table o s t in
        let kid : ℕ = kids_from s R u a fs n in
        list_at o a fs scope t p n f.0 f.1 own lt bound
        (λ here b seen. fields_joined fs here u n kid (shown_look s R u (list_used s u a (fields_used fs)) n) f.2 (λ r w. b.own)
        (omega arith) (omega arith) seen)
    field_joined (by_key u key fs) scope t p n look f own lt bound shown =
        let cs : List ℕ = key_used s u fs in
        let behind : ℕ = behind_filter s R u cs n in
        let m : ℕ = behind + fields_numbers fs s R u in
        let inner : Look = shown_look s R u cs n in
        let J : List JoinTree = fields_joins fs s R u n behind in
        let e : ExprTree = tree.object (pairs_of (fields_values fs s R inner u behind)) in
        let tie : PredTree = joined_by_and (key_members (table s u).columns inner (table s u).key key) in
        let first = first_clean s g scope u n m cs tie e J f.0 f.1 (omega arith) (omega arith) (λ final b. key_ties u n fs key scope final b)
        (λ at b. joined_as s g at behind m m J (ValuesClean fs inner u behind) (λ final. (out_faults s g final e ≡ []) × (is_plain g (origin s final e) ≡ true)) (omega arith) (λ final h. (h, refl))
        (fields_joined fs at u n behind inner f.2 (λ r2 w. b.own) (omega arith) (omega arith)
        (λ final grown. shown_later at final u n behind cs (fields_used fs) (omega arith) (omega arith) grown (shows_right s g at inner (table s u).key (fields_used fs) b.shown)))) in
        value_joined scope n (n + field_numbers (by_key u key fs) s R t) _ (omega arith) (omega arith) first
    field_joined (aggregate o a ps) scope t p n look f own lt bound shown =
        let u : ℕ = origin_table o s t in
        let m : ℕ = n + field_numbers (aggregate o a ps) s R t in
        let within : Shapes = (table_alias n, outputs []) ∷ scope in
        let J : List JoinTree = parts_joins ps s R o t p a (n + 1) in
        let grown : Grows n scope within = grows_one n (outputs []) scope (omega arith) in
        let j = parts_joined ps within o t p a (n + 1) f.0 f.1 (row_behind scope within p n t lt grown own) (omega arith) (omega arith) in
        let shapes : joined_shapes s g within (joins_of J) ≡ j.after = joins_shapes s g within (n + 1) (n + 1 + parts_numbers ps s R u a) J _ j in
        let values : pairs_faults s g (joined_shapes s g within (joins_of J)) (pairs_of (parts_values ps s R u a (n + 1))) ≡ [] =
        ap (λ final. pairs_faults s g final (pairs_of (parts_values ps s R u a (n + 1)))) shapes ∙ j.seen j.after (λ x v. refl) in
        value_joined scope n m (parts_select n (parts_values ps s R u a (n + 1)) J) (omega arith) (omega arith)
        (one_first s g scope n (pairs_of (parts_values ps s R u a (n + 1))) J tree.no_filter (joins_clean s g within (n + 1) (n + 1 + parts_numbers ps s R u a) J _ j) values refl)

    parts_joined : (ps : PartTrees) (scope : Shapes) (o : From) (t p : ℕ) (a : ListArguments) (n : ℕ) → AllowedOrigin o s g t
        → AllowedParts ps s g (origin_table o s t) a → RowAt scope p t → p < n → n + parts_numbers ps s R (origin_table o s t) a ≤ 2 ^ 64
        → Joined s g scope n (n + parts_numbers ps s R (origin_table o s t) a) (parts_joins ps s R o t p a n)
        (λ final. pairs_faults s g final (pairs_of (parts_values ps s R (origin_table o s t) a n)) ≡ [])
    parts_joined no_part scope o t p a n fo f own lt bound =
        joined_none s g scope n (n + 0)
        (λ final. pairs_faults s g final (pairs_of (parts_values no_part s R (origin_table o s t) a n)) ≡ []) (λ final grown. refl)
    parts_joined (part key x ps) scope o t p a n fo f own lt bound =
        let u : ℕ = origin_table o s t in
        let mid : ℕ = n + part_numbers x s R u a in
        let top : ℕ = n + parts_numbers (part key x ps) s R u a in
        let V : Shapes → Type 0 = λ final. expr_faults s g final (part_value x n) ≡ [] in
        let W : Shapes → Type 0 = λ final. pairs_faults s g final (pairs_of (parts_values ps s R u a mid)) ≡ [] in
        let first = part_joined x scope o t p a n fo f.0 own lt (omega arith) in
        let rest = parts_joined ps first.after o t p a mid fo f.1 (row_behind scope first.after p n t lt first.grows own) (omega arith) (omega arith) in
        let wide = joined_as s g first.after mid (mid + parts_numbers ps s R u a) top (parts_joins ps s R o t p a mid) W W (omega arith) (λ final h. h) rest in
        let both = joined_then s g scope n mid top (part_joins x s R o t p a n) (parts_joins ps s R o t p a mid) V W (omega arith) (omega arith) first wide in
        joined_as s g scope n top top (parts_joins (part key x ps) s R o t p a n) (λ final. V final × W final)
        (λ final. pairs_faults s g final (pairs_of (parts_values (part key x ps) s R u a n)) ≡ []) (omega arith)
        (λ final h. none _ _ h.0 h.1) both

    part_joined : (x : PartTree) (scope : Shapes) (o : From) (t p : ℕ) (a : ListArguments) (n : ℕ) → AllowedOrigin o s g t
        → AllowedPart x s g (origin_table o s t) a → RowAt scope p t → p < n → n + part_numbers x s R (origin_table o s t) a ≤ 2 ^ 64
        → Joined s g scope n (n + part_numbers x s R (origin_table o s t) a) (part_joins x s R o t p a n) (λ final. expr_faults s g final (part_value x n) ≡ [])
    part_joined (summary fs) scope o t p a n fo f own lt bound =
        let u : ℕ = origin_table o s t in
        let L : ℕ = list_numbers s R u (summary_used s u a fs) a in
        let tie : PredTree = origin_tie o s t p n in
        let go : (b : Bool) → some_aggregate fs ≡ b → n + cond b L 1 ≤ 2 ^ 64
        → Joined s g scope n (n + cond b L 1)
        (record { select = cond b (folded_select fs s R u a n tie) (plain_select fs s u n); alias = join_alias n } ∷ [])
        (λ final. expr_faults s g final (cell_at (value_place n)) ≡ []) =
        elim [
          | true ↦ λ e le.
              value_joined scope n (n + L) (folded_select fs s R u a n tie) (omega arith) (omega (arith, le))
              (folded_first s g scope fs u n a tie (origin_ready o t fo) f (omega (arith, le)) (λ final b. origin_ties o t p n scope final (summary_used s u a fs) fo lt (omega (arith, le)) own b))
          | false ↦ λ e le. value_joined scope n (n + 1) (plain_select fs s u n) (omega arith) (omega (arith, le)) (plain_first s g scope fs u n e)
        ] in
        go (some_aggregate fs) refl bound
    part_joined (nodes fs) scope o t p a n fo f own lt bound =
        let u : ℕ = origin_table o s t in
        let kid : ℕ = kids_from s R u a fs n in
        list_at o a fs scope t p n fo f.0 own lt bound
        (λ here b seen. fields_joined fs here u n kid (shown_look s R u (list_used s u a (fields_used fs)) n) f.1 (λ r w. b.own)
        (omega arith) (omega arith) seen)
    part_joined (part_typename name) scope o t p a n fo f own lt bound = joined_none s g scope n (n + 0) (λ final. expr_faults s g final (tree.text name) ≡ []) (λ final grown. refl)

  -- ---- statements

  beyond : (xs : List SchemaTable) → slice_index_or xs (length xs) no_table ≡ no_table
  beyond [] = refl
  beyond (x ∷ xs) = beyond xs

  -- the statement of a request has no faults
  pub statement_confined : (fs : FieldTrees) → AllowedFields fs s g (length s) → 1 + fields_numbers fs s R (length s) ≤ 2 ^ 64 → faults s g (statement fs s R) ≡ []
  statement_confined fs f bound =
      let within : Shapes = (table_alias 0, outputs []) ∷ [] in
      let top : ℕ = 1 + fields_numbers fs s R (length s) in
      let look : Look = own_look (table s (length s)).columns 0 in
      let J : List JoinTree = fields_joins fs s R (length s) 0 1 in
      let none_there : length (table s (length s)).rels ≡ 0 = ap (λ x. length x.rels) (beyond s) in
      let own : RowAt within 0 (length s) = λ r w. absurd (omega (arith, w, none_there)) in
      let shown : (final : Shapes) → Grows 1 within final → Shows s g final look (fields_used fs) =
      λ final grown c used. ap (λ sh. is_plain g (origin_in s sh (table_alias 0) (look c).name))
      (grown (table_alias 0) (under_table 0) ∙ ap (λ b. cond b (outputs []) (outputs [])) (same_text (table_alias 0))) in
      let j = fields_joined fs within (length s) 0 1 look f own (omega arith) bound shown in
      let shapes : joined_shapes s g within (joins_of J) ≡ j.after = joins_shapes s g within 1 top J _ j in
      let values : pairs_faults s g (joined_shapes s g within (joins_of J)) (pairs_of (fields_values fs s R look (length s) 1)) ≡ [] =
      ap (λ final. pairs_faults s g final (pairs_of (fields_values fs s R look (length s) 1))) shapes ∙ j.seen j.after (λ x v. refl) in
      one_clean s g [] true 0 (pairs_of (fields_values fs s R look (length s) 1)) J tree.no_filter (joins_clean s g within 1 top J _ j) values refl
