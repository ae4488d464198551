-- Columns of a table by the names of its enum, in other numbers: those of `distinct_on`, and the one that is counted.
use Rattle.std.proofs.Common.{◌≡◌, ◌∙◌, refl, ap, ap₂, subst, ℕ, List, [], ◌∷◌, map, length, take, Bool, true, false, cond, ◌&&◌, ◌||◌, ◌==◌, Option, Some, None, IfSome, Ok, Err, ok_or, option_map, option_and_then, sym, arith}
use Rattle.std.specs.Prelude.{nat_le}
use Rattle.std.specs.List.{list_all, list_any}
use Rattle.std.proofs.lemmas.Bool.{and_parts, ne_eqb, false≢true}
use Rattle.std.proofs.lemmas.List.{length-map, take-map}
use Rattle.hq_base.specs.Due.{and_then, mapped}
use Rattle.hq_base.specs.Json.{JsonTree}
use Rattle.hq_base.specs.Lists.{Each, firsts}
use Rattle.hq_base.specs.Look.{str_in}
use Rattle.hq_base.specs.Types.{is_ordered}
use Rattle.hq_model.specs.Schema.{Schema, rel}
use Rattle.hq_model.specs.Selected.{SortKey}
use Rattle.hq_gql_tree.specs.declared.rule.RuleId.TheVariants.{CountColumns, DistinctOrder, UnorderedColumn, ValuesOfCorrectType}
use Rattle.hq_schema.specs.Look.{enum_column_of}
use Rattle.hq_schema.specs.Schema.{base, TypeTree, TypeRefTree, SchemaTree}
use Rattle.hq_schema.specs.declared.origin.ArgOrigin.{ArgOrigin}
use Rattle.hq_schema.specs.declared.origin.ArgOrigin.TheVariants as stands
use Rattle.hq_schema.specs.declared.origin.TypeOrigin.TheVariants as type
use Rattle.hq_schema_roles.specs.Access.{Access}
use Rattle.hq_schema_roles.specs.Leads.{Reaches, ArgFits, list_target, count_target}
use Rattle.hq_request_tree.specs.Conditions.{is_plain_sort, are_sorts_of, fits_distinct}
use Rattle.hq_request_arguments.specs.Columns.{column_due, columns_due, has_order, ordered, matched, by_distinct, distinct_due, one_column, by_columns, counted_due}
use Rattle.hq_request_arguments.specs.Context.{Context}
use Rattle.hq_request_arguments.specs.Reading.{items_in, Given}
use Rattle.hq_request_arguments.specs.declared.refusal.ArgRefusal.TheVariants.{Rule}
use Rattle.hq_request_coerce.specs.Variables.{VarTree}
use Rattle.hq_laws_renumbered.specs.Resolving.Renumbering.{Renumbering, path_over, path_end, sort_over, sorts_over}
use Rattle.hq_laws_renumbered.specs.Schemas.SchemaOver.{arg_origin_over, schema_over}
use Rattle.hq_laws_renumbered.specs.Requests.Alike.{TablesAlike}
use Rattle.hq_laws_renumbered.specs.Requests.OfRole.{At, IsOfRole}
use Rattle.hq_laws_renumbered.proofs.Requests.Found.{column_over, column_found}
use Rattle.hq_laws_renumbered.proofs.Requests.Given.{given_over, context}
use Rattle.hq_laws_renumbered.proofs.Requests.Items.{each_take, firsts_map, same_test, any_same, all_same}
use Rattle.hq_laws_renumbered.proofs.Requests.Sorting.{PlainPermitted}
use Rattle.hq_laws_renumbered.proofs.Requests.Steps.{then_over, then_ok, each_over, each_ok}

-- a path of some relationships is not empty
is_long : (x : ℕ) (xs : List ℕ) → (length (x ∷ xs) == 0) ≡ false
is_long x xs = ne_eqb (length (x ∷ xs)) 0 (omega arith)

module _ (s z : Schema) (n : Renumbering) (a : Access) (r : SchemaTree) (of_role : IsOfRole s a r) (alike : TablesAlike s z n a) (vars : List VarTree) where
  abbrev c : Context
  c = context vars r s

  abbrev d : Context
  d = context vars (schema_over n r) z

  abbrev types : List TypeTree
  types = r.types

  abbrev pub Permitted : ℕ → List ℕ → Type 0
  Permitted t cs = Each (λ k. a.column t k ≡ true) cs

  -- ---- by name

  one_over : (p t : ℕ) → At types p (type.Columns t) → (j : JsonTree) → column_due d p j ≡ mapped (n.column t) (column_due c p j)
  one_over p t at j = go (str_in j)
    where
      value : (o : Option ℕ) → ok_or (option_map (n.column t) o) (Rule ValuesOfCorrectType) ≡ mapped (n.column t) (ok_or o (Rule ValuesOfCorrectType))
      value None = refl
      value (Some k) = refl

      go : (o : Option (List ℕ)) → ok_or (option_and_then (λ name. enum_column_of (schema_over n r) p name) o) (Rule ValuesOfCorrectType)
          ≡ mapped (n.column t) (ok_or (option_and_then (λ name. enum_column_of r p name) o) (Rule ValuesOfCorrectType))
      go None = refl
      go (Some name) = ap (λ o. ok_or o (Rule ValuesOfCorrectType)) (column_over n r p t at name) ∙ value (enum_column_of r p name)

  named_over : (p t : ℕ) → At types p (type.Columns t) → (j : JsonTree) → columns_due d p j ≡ mapped (map (n.column t)) (columns_due c p j)
  named_over p t at j = each_over (n.column t) (column_due c p) (column_due d p) (one_over p t at) (items_in j)

  one_permitted : (p t : ℕ) → At types p (type.Columns t) → (j : JsonTree) (k : ℕ) → column_due c p j ≡ Ok k → a.column t k ≡ true
  one_permitted p t at j k e = go (str_in j) e
    where
      value : (name : List ℕ) (o : Option ℕ) → enum_column_of r p name ≡ o → ok_or o (Rule ValuesOfCorrectType) ≡ Ok k → a.column t k ≡ true
      value name None is e = cc
      value name (Some i) is e = let same : i ≡ k = cc in column_found s a r of_role p t name k at (is ∙ ap Some same)

      go : (o : Option (List ℕ)) → ok_or (option_and_then (λ name. enum_column_of r p name) o) (Rule ValuesOfCorrectType) ≡ Ok k → a.column t k ≡ true
      go None e = cc
      go (Some name) e = value name (enum_column_of r p name) refl e

  named_permitted : (p t : ℕ) → At types p (type.Columns t) → (j : JsonTree) (cs : List ℕ) → columns_due c p j ≡ Ok cs → Permitted t cs
  named_permitted p t at j cs e = each_ok (column_due c p) (λ k. a.column t k ≡ true) (one_permitted p t at) (items_in j) cs e

  -- ---- distinct columns beside sorts

  module _ (t : ℕ) where
    abbrev P : ℕ → Type 0
    P k = a.column t k ≡ true

    abbrev f : ℕ → ℕ
    f = n.column t

    abbrev sorted : SortKey → SortKey
    sorted = sort_over s n t

    apart : (k l : ℕ) → P k → P l → f k ≡ f l → k ≡ l
    apart k l p q same = alike.columns t k l p q same

    -- a permitted column has an order where it has one in the other numbers
    pub order_over : (k : ℕ) → P k → has_order d (n.table t) (f k) ≡ has_order c t k
    order_over k p = ap is_ordered (alike.types t k p)

    orders_over : (cs : List ℕ) → Each P cs → list_all (has_order d (n.table t)) (map f cs) ≡ list_all (has_order c t) cs
    orders_over [] h = refl
    orders_over (k ∷ cs) h = ap₂ (λ x y. x && y) (order_over k h.0) (orders_over cs h.1)

    ordered_over : (cs : List ℕ) → Each P cs → ordered d (n.table t) (map f cs) ≡ mapped (map f) (ordered c t cs)
    ordered_over cs h = ap (λ b. cond b (Ok (map f cs)) (Err (Rule UnorderedColumn))) (orders_over cs h) ∙ go (list_all (has_order c t) cs)
      where
        go : (b : Bool) → cond b (Ok (map f cs)) (Err (Rule UnorderedColumn)) ≡ mapped (map f) (cond b (Ok cs) (Err (Rule UnorderedColumn)))
        go true = refl
        go false = refl

    ordered_permitted : (cs ds : List ℕ) → Each P cs → ordered c t cs ≡ Ok ds → Each P ds
    ordered_permitted cs ds h e = go (list_all (has_order c t) cs) e
      where
        go : (b : Bool) → cond b (Ok cs) (Err (Rule UnorderedColumn)) ≡ Ok ds → Each P ds
        go true e = let same : cs ≡ ds = cc in subst (Each P) same h
        go false e = absurd cc

    -- a sort that is a plain column, among these
    abbrev is_among : List ℕ → SortKey → Bool
    is_among cs k = is_plain_sort k && list_any (λ e. e == k.column) cs

    among_over : (cs : List ℕ) → Each P cs → (through : List ℕ) (col : ℕ) (desc nulls_first : Bool)
        → PlainPermitted s z n a r of_role alike vars t (record { through = through; column = col; desc = desc; nulls_first = nulls_first })
        → is_among (map f cs) (sorted (record { through = through; column = col; desc = desc; nulls_first = nulls_first }))
        ≡ is_among cs (record { through = through; column = col; desc = desc; nulls_first = nulls_first })
    among_over cs h [] col desc nulls_first p = any_same P f apart col p cs h
    among_over cs h (q ∷ qs) col desc nulls_first p =
        ap (λ b. b && list_any (λ e. e == n.column (path_end (q ∷ qs) s t) col) (map f cs)) (is_long (n.relationship t q) (path_over qs s n (rel s t q).remote))
        ∙ sym (ap (λ b. b && list_any (λ e. e == col) cs) (is_long q qs))

    all_among : (cs : List ℕ) → Each P cs → (ks : List SortKey) → Each (PlainPermitted s z n a r of_role alike vars t) ks → list_all (is_among (map f cs)) (map sorted ks) ≡ list_all (is_among cs) ks
    all_among cs h [] p = refl
    all_among cs h (k ∷ ks) p = ap₂ (λ x y. x && y) (among_over cs h k.through k.column k.desc k.nulls_first p.0) (all_among cs h ks p.1)

    -- each distinct column has a sort, where all sorts are plain columns
    sorted_by : (cs : List ℕ) (e : ℕ) → P e → (through : List ℕ) (col : ℕ) (desc nulls_first : Bool)
        → PlainPermitted s z n a r of_role alike vars t (record { through = through; column = col; desc = desc; nulls_first = nulls_first })
        → is_among cs (record { through = through; column = col; desc = desc; nulls_first = nulls_first }) ≡ true
        → (n.column (path_end through s t) col == f e) ≡ (col == e)
    sorted_by cs e p [] col desc nulls_first q h = same_test P f apart col e q p
    sorted_by cs e p (x ∷ xs) col desc nulls_first q h =
        let wrong : false ≡ true = sym (ap (λ b. b && list_any (λ i. i == col) cs) (is_long x xs)) ∙ h in absurd (false≢true wrong)

    one_sorted : (cs : List ℕ) (e : ℕ) → P e → (ks : List SortKey) → Each (PlainPermitted s z n a r of_role alike vars t) ks → list_all (is_among cs) ks ≡ true
        → list_any (λ (k : SortKey). k.column == f e) (map sorted ks) ≡ list_any (λ (k : SortKey). k.column == e) ks
    one_sorted cs e p [] q h = refl
    one_sorted cs e p (k ∷ ks) q h =
        let parts = and_parts (is_among cs k) (list_all (is_among cs) ks) h in
        ap₂ (λ x y. x || y) (sorted_by cs e p k.through k.column k.desc k.nulls_first q.0 parts.0) (one_sorted cs e p ks q.1 parts.1)

    each_sorted : (all cs : List ℕ) → Each P cs → (ks : List SortKey) → Each (PlainPermitted s z n a r of_role alike vars t) ks → list_all (is_among all) ks ≡ true
        → list_all (λ e. list_any (λ (k : SortKey). k.column == e) (map sorted ks)) (map f cs) ≡ list_all (λ e. list_any (λ (k : SortKey). k.column == e) ks) cs
    each_sorted all [] h ks q is = refl
    each_sorted all (e ∷ cs) h ks q is = ap₂ (λ x y. x && y) (one_sorted all e h.0 ks q is) (each_sorted all cs h.1 ks q is)

    sorts_of_over : (cs : List ℕ) → Each P cs → (ks : List SortKey) → Each (PlainPermitted s z n a r of_role alike vars t) ks → are_sorts_of (map f cs) (map sorted ks) ≡ are_sorts_of cs ks
    sorts_of_over cs h ks q =
        ap (λ b. b && list_all (λ e. list_any (λ (k : SortKey). k.column == e) (map sorted ks)) (map f cs)) (all_among cs h ks q) ∙ go (list_all (is_among cs) ks) refl
      where
        go : (b : Bool) → list_all (is_among cs) ks ≡ b
            → (b && list_all (λ e. list_any (λ (k : SortKey). k.column == e) (map sorted ks)) (map f cs)) ≡ (b && list_all (λ e. list_any (λ (k : SortKey). k.column == e) ks) cs)
        go true is = each_sorted cs cs h ks q is
        go false is = refl

    distinct_fits : (cs : List ℕ) → Each P cs → (ks : List SortKey) → Each (PlainPermitted s z n a r of_role alike vars t) ks → fits_distinct (map f cs) (map sorted ks) ≡ fits_distinct cs ks
    distinct_fits cs h [] q = refl
    distinct_fits cs h (k ∷ ks) q =
        let m : ℕ = length (firsts (λ x y. x == y) cs) in
        let fewer : length (firsts (λ x y. x == y) (map f cs)) ≡ m = ap length (firsts_map P f apart cs h) ∙ length-map (firsts (λ x y. x == y) cs) f in
        ap (λ i. nat_le i (length (map sorted (k ∷ ks))) && are_sorts_of (map f cs) (take i (map sorted (k ∷ ks)))) fewer
        ∙ ap₂ (λ l rows. nat_le m l && are_sorts_of (map f cs) rows) (length-map (k ∷ ks) sorted) (take-map sorted m (k ∷ ks))
        ∙ ap (λ b. nat_le m (length (k ∷ ks)) && b) (sorts_of_over cs h (take m (k ∷ ks)) (each_take (PlainPermitted s z n a r of_role alike vars t) m (k ∷ ks) q))

    matched_over : (cs : List ℕ) → Each P cs → (ks : List SortKey) → Each (PlainPermitted s z n a r of_role alike vars t) ks → matched (map sorted ks) (map f cs) ≡ mapped (map f) (matched ks cs)
    matched_over cs h ks q = ap (λ b. cond b (Ok (map f cs)) (Err (Rule DistinctOrder))) (distinct_fits cs h ks q) ∙ go (fits_distinct cs ks)
      where
        go : (b : Bool) → cond b (Ok (map f cs)) (Err (Rule DistinctOrder)) ≡ mapped (map f) (cond b (Ok cs) (Err (Rule DistinctOrder)))
        go true = refl
        go false = refl

  -- ---- the argument distinct_on

  by_distinct_over : (u v : ℕ) (j : JsonTree) (ty : TypeRefTree) (o : ArgOrigin) → Reaches types ty (list_target (Some u) o)
      → by_distinct d j (base ty) (arg_origin_over n v o) ≡ mapped (map (n.column u)) (by_distinct c j (base ty) o)
  by_distinct_over u v j ty stands.DistinctOn at = named_over (base ty) u at j
  by_distinct_over u v j ty (stands.Column e) at = refl
  by_distinct_over u v j ty (stands.Relationship e) at = refl
  by_distinct_over u v j ty o at = refl

  by_distinct_permitted : (u : ℕ) (j : JsonTree) (ty : TypeRefTree) (o : ArgOrigin) → Reaches types ty (list_target (Some u) o) → (cs : List ℕ) → by_distinct c j (base ty) o ≡ Ok cs → Permitted u cs
  by_distinct_permitted u j ty stands.DistinctOn at cs e = named_permitted (base ty) u at j cs e
  by_distinct_permitted u j ty o at cs e = let same : [] ≡ cs = cc in subst (Permitted u) same tt

  pub distinct_over : (u v : ℕ) (o : Option Given) → ((g : Given) → o ≡ Some g → ArgFits types (list_target (Some u)) g.arg) → (ks : List SortKey)
      → Each (PlainPermitted s z n a r of_role alike vars u) ks → distinct_due d (n.table u) (sorts_over ks s n u) (option_map (given_over n v) o) ≡ mapped (map (n.column u)) (distinct_due c u ks o)
  distinct_over u v None h ks q = matched_over u [] tt ks q
  distinct_over u v (Some g) h ks q =
      let fit = (h g refl).reaches in
      let read = by_distinct c g.value (base g.arg.ty) g.arg.origin in
      let there = by_distinct d g.value (base g.arg.ty) (arg_origin_over n v g.arg.origin) in
      let permitted : (cs : List ℕ) → read ≡ Ok cs → Permitted u cs = by_distinct_permitted u g.value g.arg.ty g.arg.origin fit in
      then_over (map (n.column u)) (map (n.column u)) (matched ks) (matched (sorts_over ks s n u)) (and_then (ordered c u) read) (and_then (ordered d (n.table u)) there)
      (then_over (map (n.column u)) (map (n.column u)) (ordered c u) (ordered d (n.table u)) read there
      (by_distinct_over u v g.value g.arg.ty g.arg.origin fit) (λ cs e. ordered_over u cs (permitted cs e)))
      (λ ds e. let one = then_ok (ordered c u) read ds e in matched_over u ds (ordered_permitted u one.0 ds (permitted one.0 one.1) one.2) ks q)

  -- ---- the argument columns

  one_column_over : (u : ℕ) (cs : List ℕ) → Permitted u cs → one_column (map (n.column u) cs) ≡ mapped (option_map (n.column u)) (one_column cs)
  one_column_over u [] h = refl
  one_column_over u (k ∷ cs) h =
      ap (λ b. cond b (Ok (Some (n.column u k))) (Err (Rule CountColumns))) (all_same (λ e. a.column u e ≡ true) (n.column u) (apart u) k h.0 (k ∷ cs) h) ∙ go (list_all (λ e. e == k) (k ∷ cs))
    where
      go : (b : Bool) → cond b (Ok (Some (n.column u k))) (Err (Rule CountColumns)) ≡ mapped (option_map (n.column u)) (cond b (Ok (Some k)) (Err (Rule CountColumns)))
      go true = refl
      go false = refl

  by_columns_over : (u v : ℕ) (j : JsonTree) (ty : TypeRefTree) (o : ArgOrigin) → Reaches types ty (count_target u o)
      → by_columns d j (base ty) (arg_origin_over n v o) ≡ mapped (option_map (n.column u)) (by_columns c j (base ty) o)
  by_columns_over u v j ty stands.Columns at =
      then_over (map (n.column u)) (option_map (n.column u)) one_column one_column (columns_due c (base ty) j) (columns_due d (base ty) j) (named_over (base ty) u at j)
      (λ cs e. one_column_over u cs (named_permitted (base ty) u at j cs e))
  by_columns_over u v j ty (stands.Column e) at = refl
  by_columns_over u v j ty (stands.Relationship e) at = refl
  by_columns_over u v j ty o at = refl

  pub counted_over : (u v : ℕ) (o : Option Given) → ((g : Given) → o ≡ Some g → ArgFits types (count_target u) g.arg)
      → counted_due d (option_map (given_over n v) o) ≡ mapped (option_map (n.column u)) (counted_due c o)
  counted_over u v None h = refl
  counted_over u v (Some g) h = by_columns_over u v g.value g.arg.ty g.arg.origin (h g refl).reaches

  -- the column that is counted is permitted
  one_permitted_of : (u : ℕ) (cs : List ℕ) → Permitted u cs → (o : Option ℕ) → one_column cs ≡ Ok o → IfSome o (λ k. a.column u k ≡ true)
  one_permitted_of u [] h o e = let same : None ≡ o = cc in subst (λ (x : Option ℕ). IfSome x (λ k. a.column u k ≡ true)) same tt
  one_permitted_of u (k ∷ cs) h o e = go (list_all (λ e. e == k) (k ∷ cs)) e
    where
      go : (b : Bool) → cond b (Ok (Some k)) (Err (Rule CountColumns)) ≡ Ok o → IfSome o (λ k. a.column u k ≡ true)
      go true e = let same : Some k ≡ o = cc in subst (λ (x : Option ℕ). IfSome x (λ k. a.column u k ≡ true)) same h.0
      go false e = absurd cc

  by_columns_permitted : (u : ℕ) (j : JsonTree) (ty : TypeRefTree) (o : ArgOrigin) → Reaches types ty (count_target u o)
      → (x : Option ℕ) → by_columns c j (base ty) o ≡ Ok x → IfSome x (λ k. a.column u k ≡ true)
  by_columns_permitted u j ty stands.Columns at x e =
      let one = then_ok one_column (columns_due c (base ty) j) x e in
      one_permitted_of u one.0 (named_permitted (base ty) u at j one.0 one.1) x one.2
  by_columns_permitted u j ty o at x e = let same : None ≡ x = cc in subst (λ (y : Option ℕ). IfSome y (λ k. a.column u k ≡ true)) same tt

  pub counted_permitted : (u : ℕ) (o : Option Given) → ((g : Given) → o ≡ Some g → ArgFits types (count_target u) g.arg)
      → (x : Option ℕ) → counted_due c o ≡ Ok x → IfSome x (λ k. a.column u k ≡ true)
  counted_permitted u None h x e = let same : None ≡ x = cc in subst (λ (y : Option ℕ). IfSome y (λ k. a.column u k ≡ true)) same tt
  counted_permitted u (Some g) h x e = by_columns_permitted u g.value g.arg.ty g.arg.origin (h g refl).reaches x e
