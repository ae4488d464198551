-- What `order_by` and the names of columns write over a table, where their values are of its types.
use Rattle.std.proofs.Common.{◌≡◌, ◌∙◌, refl, sym, ap, subst, ℕ, ◌<◌, arith, List, [], ◌∷◌, ◌++◌, length, Bool, true, false, cond, not, nat_lt, ◌==◌, position, Option, Some, None, Ok, Err, ok_or, is_some, option_map, option_and_then, slice_get, get_or, bytes_eq}
use Rattle.std.specs.List.{list_all}
use Rattle.std.proofs.lemmas.List.Quantifiers.{position-Some}
use Rattle.std.proofs.lemmas.Option.{slice_get-get_or}
use Rattle.hq_model.proofs.Names.{names_equal}
use Rattle.hq_base.specs.Due.{mapped, and_then}
use Rattle.hq_base.specs.Json.{JsonTree, null, bool, int, str, arr, obj, ElementTrees, no_element, element, MemberTrees, no_member, member}
use Rattle.hq_base.specs.Lists.{Each}
use Rattle.hq_base.specs.Look.{element_list}
use Rattle.hq_model.specs.Fits.{fits}
use Rattle.hq_model.specs.Meta.{MetaTree}
use Rattle.hq_model.specs.Schema.{Schema, schema_of, rel}
use Rattle.hq_model.specs.Selected.{SortKey}
use Rattle.hq_model.specs.declared.meta.Rel.{Rel}
use Rattle.hq_model.specs.declared.role.Role.{Role}
use Rattle.hq_model.specs.declared.table.Table.{Table}
use Rattle.hq_schema.specs.Look.{input_field_of, enum_value_of, enum_column_of}
use Rattle.hq_schema.specs.Schema.{base, TypeRefTree, named, list_of, non_null, ArgTree, TypeTree, SchemaTree}
use Rattle.hq_schema.specs.declared.fixed.Fixed.TheVariants.{OrderBy}
use Rattle.hq_schema.specs.declared.origin.ArgOrigin.{ArgOrigin}
use Rattle.hq_schema.specs.declared.origin.ArgOrigin.TheVariants as stands
use Rattle.hq_schema.specs.declared.origin.TypeOrigin.{TypeOrigin}
use Rattle.hq_schema.specs.declared.origin.TypeOrigin.TheVariants as type
use Rattle.hq_gql_nodes.specs.Known.{element_type, input_at, is_input, is_non_null}
use Rattle.hq_schema_of_role.specs.FixedTypes.{fixed_values}
use Rattle.hq_schema_of_role.specs.RoleSchema.{role_schema}
use Rattle.hq_schema_roles.specs.Access.{Access, access_of}
use Rattle.hq_schema_roles.specs.Leads.{where_holds, to, behind_one, Reaches, TypeFits, ColumnsFit, sort_target}
use Rattle.hq_request_tree.specs.Conditions.{fits_distinct}
use Rattle.hq_request_coerce.specs.Coercion.{enum_value, leaf_by, leaf_value}
use Rattle.hq_request_coerce.specs.Coercion as coercion
use Rattle.hq_request_coerce.specs.Variables.{VarTree}
use Rattle.hq_request_arguments.specs.Columns.{column_due, columns_due, has_order, ordered, is_counted, matched, same_as, one_column}
use Rattle.hq_request_arguments.specs.Context.{Context}
use Rattle.hq_request_arguments.specs.Due.{counting}
use Rattle.hq_request_arguments.specs.FieldArguments.{count}
use Rattle.hq_request_arguments.specs.Reading.{items_in, fitting}
use Rattle.hq_request_arguments.specs.Sorts.{direction_named, direction_in, sort_by, column_sort, by_origin, member_due, entry_due, members_due, entries_due, within_limit}
use Rattle.hq_request_arguments.specs.declared.sorts.Direction.{Direction}
use Rattle.hq_gql_tree.specs.declared.rule.RuleId.TheVariants.{ValuesOfCorrectType, SortEntries, DistinctOrder, CountColumns, UnorderedColumn}
use Rattle.hq_request_arguments.specs.declared.refusal.ArgRefusal.TheVariants.{Rule}
use Rattle.hq_laws_request.proofs.Built.Filters.{input_same, shaped_at, input_shaped, no_leaf}
use Rattle.hq_laws_request.proofs.Built.Items.{each_at}
use Rattle.hq_laws_request.proofs.Built.Lawful.{Lawful, then_lawful, mapped_lawful, each_lawful}
use Rattle.hq_laws_request.proofs.Built.Literals.{some_of}
use Rattle.hq_laws_request.proofs.Built.Permitted.{rel_at}
use Rattle.hq_laws_request.proofs.Built.Places.{At, Schemed, TypeIs, type_is, input_found}
use Rattle.hq_laws_request.proofs.Built.Shapes.{ValuesAre, LeafKind, Shaped}
use Rattle.hq_laws_request.proofs.Built.Values.{IsOf, AreOf, MembersOf}

module _ (tables : List Table) (m : MetaTree) (metadata_fits : fits tables m ≡ true) (role : Role) (schemed : Schemed tables m role)
    (shaped : Each (Shaped tables m role) (role_schema tables m role).types) (vars : List VarTree) where
  abbrev s : Schema
  s = schema_of tables m

  abbrev R : SchemaTree
  R = role_schema tables m role

  abbrev types : List TypeTree
  types = R.types

  abbrev a : Access
  a = access_of m role

  abbrev c : Context
  c = record { vars = vars; schema = R; tables = s }

  -- ---- values of an enum

  -- no input object is an enum
  no_object : (place : ℕ) (o : TypeOrigin) → At types place o → ((d : TypeTree) → Shaped tables m role d → d.origin ≡ o → is_input d.kind ≡ false) → (u : ℕ) → input_at R place ≡ Some u → ⊥
  no_object place o at leaf u e =
      let is = type_is tables m role schemed place o at in
      let first : cond (is_input is.type.kind) (Some place) None ≡ Some u = ap (option_and_then (λ (d : TypeTree). cond (is_input d.kind) (Some place) None)) (sym is.here) ∙ e in
      let second : None ≡ Some u = ap (λ b. cond b (Some place) None) (sym (leaf is.type (shaped_at tables m metadata_fits role schemed shaped vars place o at) is.means)) ∙ first in
      cc

  -- a leaf of an enum is one of its names
  pub enum_leaf : (place : ℕ) (o : TypeOrigin) → At types place o → ((j : JsonTree) → leaf_by R place o j ≡ enum_value R place j) → (j : JsonTree) → is_some (leaf_value R place j) ≡ true
      → (name : List ℕ) × (j ≡ str name) × (is_some (enum_value_of R place name) ≡ true)
  enum_leaf place o at enum j h = by j (ap is_some (sym (enum j)) ∙ second)
    where
      is : TypeIs tables m role schemed place o
      is = type_is tables m role schemed place o at

      first : is_some (leaf_by R place is.type.origin j) ≡ true
      first = ap (λ q. is_some (option_and_then (λ (d : TypeTree). leaf_by R place d.origin j) q)) (sym is.here) ∙ h

      second : is_some (leaf_by R place o j) ≡ true
      second = ap (λ q. is_some (leaf_by R place q j)) (sym is.means) ∙ first

      found : (x : List ℕ) (o : Option ℕ) → is_some (option_map (λ (k : ℕ). str x) o) ≡ true → is_some o ≡ true
      found x None h = absurd cc
      found x (Some k) h = refl

      by : (j : JsonTree) → is_some (enum_value R place j) ≡ true → (name : List ℕ) × (j ≡ str name) × (is_some (enum_value_of R place name) ≡ true)
      by null h = absurd cc
      by (bool b) h = absurd cc
      by (int n) h = absurd cc
      by (str x) h = (x, refl, found x (enum_value_of R place x) h)
      by (arr js) h = absurd cc
      by (obj ms) h = absurd cc

  -- ---- columns by name

  module _ (p t : ℕ) (at : At types p (type.Columns t)) where
    -- a name of the enum stands for a column
    column_named : (name : List ℕ) → is_some (enum_value_of R p name) ≡ true → is_some (enum_column_of R p name) ≡ true
    column_named name h =
        let is = type_is tables m role schemed p (type.Columns t) at in
        let d : TypeTree = is.type in
        let inside : is_some (position (λ v. bytes_eq v name) d.values) ≡ true = ap (λ q. is_some (option_and_then (λ (x : TypeTree). position (λ v. bytes_eq v name) x.values) q)) (sym is.here) ∙ h in
        let fit : Each (λ k. a.column t k ≡ true) d.columns × (length d.columns ≡ length d.values) =
        subst (λ q. ColumnsFit a q d.columns d.values) is.means (each_at (TypeFits types a) types p d is.here schemed.fit).columns in
        let i = some_of (position (λ v. bytes_eq v name) d.values) inside in
        let within = position-Some (λ v. bytes_eq v name) d.values i.0 [] i.1 in
        let below : i.0 < length d.columns = (let long : length d.columns ≡ length d.values = fit.1 in omega (arith, within.0, long)) in
        let there : is_some (option_and_then (slice_get d.columns) (position (λ v. bytes_eq v name) d.values)) ≡ true = ap (λ q. is_some (option_and_then (slice_get d.columns) q)) i.1
        ∙ ap is_some (slice_get-get_or d.columns i.0 0 below) in
        ap (λ q. is_some (option_and_then (λ (x : TypeTree). option_and_then (slice_get x.columns) (position (λ v. bytes_eq v name) x.values)) q)) is.here ∙ there

    column_lawful : (j : JsonTree) → is_some (leaf_value R p j) ≡ true → Lawful (column_due c p j)
    column_lawful j h =
        let name = enum_leaf p (type.Columns t) at (λ j. refl) j h in
        subst (λ i. Lawful (column_due c p i)) (sym name.1) (by (enum_column_of R p name.0) (column_named name.0 name.2))
      where
        by : (o : Option ℕ) → is_some o ≡ true → Lawful (ok_or o (Rule ValuesOfCorrectType))
        by None h = absurd cc
        by (Some k) h = tt

    no_column_object : (u : ℕ) → input_at R p ≡ Some u → ⊥
    no_column_object u e = no_object p (type.Columns t) at (λ d h is. subst (λ o. LeafKind o d.kind) is h.kind) u e

    each_column : (js : ElementTrees) (q : TypeRefTree) → base q ≡ p → element_type q ≡ None → is_non_null q ≡ true → AreOf R q js → Each (λ i. Lawful (column_due c p i)) (element_list js)
    each_column no_element q place single strict h = tt
    each_column (element j js) q place single strict h = (by j h.0, each_column js q place single strict h.1)
      where
        by : (j : JsonTree) → IsOf R q j → Lawful (column_due c p j)
        by null h = absurd (let no : true ≡ false = sym strict ∙ h in cc)
        by (bool b) h = column_lawful (bool b) (subst (λ x. is_some (leaf_value R x (bool b)) ≡ true) place h)
        by (int n) h = column_lawful (int n) (subst (λ x. is_some (leaf_value R x (int n)) ≡ true) place h)
        by (str x) h = column_lawful (str x) (subst (λ y. is_some (leaf_value R y (str x)) ≡ true) place h)
        by (arr is) h = absurd (let no : None ≡ Some h.0 = sym single ∙ h.1 in cc)
        by (obj ms) h = absurd (no_column_object h.0 (subst (λ x. input_at R x ≡ Some h.0) place h.1))

    pub columns_lawful : (j : JsonTree) → coercion.is_null j ≡ false → IsOf R (list_of (non_null (named p))) j → Lawful (columns_due c p j)
    columns_lawful j never h = each_lawful (column_due c p) (items_in j) (by j never h)
      where
        by : (j : JsonTree) → coercion.is_null j ≡ false → IsOf R (list_of (non_null (named p))) j → Each (λ i. Lawful (column_due c p i)) (items_in j)
        by null never h = absurd cc
        by (bool b) never h = (column_lawful (bool b) h, tt)
        by (int n) never h = (column_lawful (int n) h, tt)
        by (str x) never h = (column_lawful (str x) h, tt)
        by (arr js) never h = let same : non_null (named p) ≡ h.0 = (let both : Some (non_null (named p)) ≡ Some h.0 = h.1 in cc) in
            each_column js (non_null (named p)) refl refl refl (subst (λ q. AreOf R q js) (sym same) h.2)
        by (obj ms) never h = absurd (no_column_object h.0 h.1)

  -- distinct columns that do not match the sorts, and two columns of a count
  pub matched_lawful : (sorts : List SortKey) (cs : List ℕ) → Lawful (matched sorts cs)
  matched_lawful sorts cs = by (fits_distinct cs sorts)
    where
      by : (b : Bool) → Lawful (cond b (Ok cs) (Err (Rule DistinctOrder)))
      by true = tt
      by false = refl

  -- columns whose values have no order
  pub ordered_lawful : (t : ℕ) (cs : List ℕ) → Lawful (ordered c t cs)
  ordered_lawful t cs = by (list_all (has_order c t) cs)
    where
      by : (b : Bool) → Lawful (cond b (Ok cs) (Err (Rule UnorderedColumn)))
      by true = tt
      by false = refl

  pub counting_lawful : (t : ℕ) (k : Option ℕ) (distinct : Bool) → Lawful (counting c t k distinct)
  counting_lawful t k distinct = by (is_counted c t k distinct)
    where
      by : (b : Bool) → Lawful (cond b (Ok (count k distinct)) (Err (Rule UnorderedColumn)))
      by true = tt
      by false = refl

  pub one_lawful : (cs : List ℕ) → Lawful (one_column cs)
  one_lawful cs = by (slice_get cs 0)
    where
      all : (k : ℕ) (b : Bool) → Lawful (cond b (Ok (Some k)) (Err (Rule CountColumns)))
      all k true = tt
      all k false = refl

      by : (o : Option ℕ) → Lawful (same_as o cs)
      by None = tt
      by (Some k) = all k (list_all (λ d. d == k) cs)

  -- ---- sorts

  -- each direction has a name
  directions_known : Each (λ (v : List ℕ). is_some (direction_named v) ≡ true) (fixed_values OrderBy)
  unfolding fixed_values direction_named
  directions_known = (refl, (refl, (refl, (refl, (refl, (refl, tt))))))

  direction_known : (name : List ℕ) (vs : List (List ℕ)) → vs ≡ fixed_values OrderBy → is_some (position (λ v. bytes_eq v name) vs) ≡ true → is_some (direction_named name) ≡ true
  direction_known name vs same h =
      let i = some_of (position (λ v. bytes_eq v name) vs) h in
      let within = position-Some (λ v. bytes_eq v name) vs i.0 [] i.1 in
      let v : List ℕ = get_or vs i.0 [] in
      let known : is_some (direction_named v) ≡ true =
      each_at (λ (v : List ℕ). is_some (direction_named v) ≡ true) vs i.0 v (slice_get-get_or vs i.0 [] within.0)
      (subst (Each (λ (v : List ℕ). is_some (direction_named v) ≡ true)) (sym same) directions_known) in
      subst (λ n. is_some (direction_named n) ≡ true) (names_equal v name within.1) known

  -- a sort by a column
  column_lawful_sort : (through : List ℕ) (k p : ℕ) → At types p type.Directions → (j : JsonTree) → (r : TypeRefTree) → base r ≡ p → element_type r ≡ None → IsOf R r j
      → Lawful (column_sort through k j)
  column_lawful_sort through k p at j r place single h = mapped_lawful (λ d. sort_by through k d ∷ []) (fitting j (direction_in j)) (by j h)
    where
      leaf : (j : JsonTree) → is_some (leaf_value R p j) ≡ true → Lawful (fitting j (direction_in j))
      leaf j h =
          let name = enum_leaf p type.Directions at (λ j. refl) j h in
          let is = type_is tables m role schemed p type.Directions at in
          let values : is.type.values ≡ fixed_values OrderBy =
          subst (λ o. ValuesAre o is.type.values) is.means (shaped_at tables m metadata_fits role schemed shaped vars p type.Directions at).values in
          let inside : is_some (position (λ v. bytes_eq v name.0) is.type.values) ≡ true =
          ap (λ q. is_some (option_and_then (λ (x : TypeTree). position (λ v. bytes_eq v name.0) x.values) q)) (sym is.here) ∙ name.2 in
          subst (λ i. Lawful (fitting i (direction_in i))) (sym name.1) (known name.0 (direction_named name.0) (direction_known name.0 is.type.values values inside))
        where
          known : (name : List ℕ) (o : Option Direction) → is_some o ≡ true → Lawful (fitting (str name) o)
          known name None h = absurd cc
          known name (Some d) h = tt

      by : (j : JsonTree) → IsOf R r j → Lawful (fitting j (direction_in j))
      by null h = refl
      by (bool b) h = leaf (bool b) (subst (λ x. is_some (leaf_value R x (bool b)) ≡ true) place h)
      by (int n) h = leaf (int n) (subst (λ x. is_some (leaf_value R x (int n)) ≡ true) place h)
      by (str x) h = leaf (str x) (subst (λ y. is_some (leaf_value R y (str x)) ≡ true) place h)
      by (arr js) h = absurd (let no : None ≡ Some h.0 = sym single ∙ h.1 in cc)
      by (obj ms) h = absurd (no_object p type.Directions at (λ d h is. subst (λ o. LeafKind o d.kind) is h.kind) h.0 (subst (λ x. input_at R x ≡ Some h.0) place h.1))

  -- one member, where its value is read as an entry
  module _ (j : JsonTree) (entry_lawful : (through : List ℕ) (r : TypeRefTree) (t : ℕ) → element_type r ≡ None → At types (base r) (type.Sort t) → IsOf R r j
      → Lawful (entry_due j c through (base r) t)) where
    origin_lawful : (through : List ℕ) (t : ℕ) (r : TypeRefTree) (o : ArgOrigin) → Reaches types r (sort_target a t o) → element_type r ≡ None → IsOf R r j
        → Lawful (by_origin (λ deeper q u. entry_due j c deeper q u) j c through t (base r) o)
    origin_lawful through t r (stands.Column k) at single h = by (a.column t k) at
      where
        by : (b : Bool) → Reaches types r (where_holds b (to type.Directions)) → Lawful (column_sort through k j)
        by true at = column_lawful_sort through k (base r) at j r refl single h
        by false at = absurd at
    origin_lawful through t r (stands.Relationship x) at single h = by (a.rel t x) refl at
      where
        one : (q : Rel) → a.rel t x ≡ Some q → (b : Bool) → Reaches types r (where_holds b (to (type.Sort q.remote))) → Lawful (entry_due j c (through ++ x ∷ []) (base r) (rel s t x).remote)
        one q found false at = absurd at
        one q found true at =
            let there : q.remote ≡ (rel s t x).remote = sym (ap (λ (y : Rel). y.remote) (rel_at tables m metadata_fits role t x q found).0) in
            entry_lawful (through ++ x ∷ []) r (rel s t x).remote single (subst (λ u. At types (base r) (type.Sort u)) there at) h

        by : (o : Option Rel) → a.rel t x ≡ o → Reaches types r (behind_one o type.Sort) → Lawful (entry_due j c (through ++ x ∷ []) (base r) (rel s t x).remote)
        by None found at = absurd at
        by (Some q) found at = one q found (not q.many) at
    origin_lawful through t r o at single h = absurd at

    member_lawful : (through : List ℕ) (p t : ℕ) (name : List ℕ) → At types p (type.Sort t) → (x : ArgTree) → input_field_of R p name ≡ Some x → IsOf R x.ty j
        → Lawful (member_due (λ deeper q u. entry_due j c deeper q u) j c through t (input_field_of R p name))
    member_lawful through p t name at x is h =
        let fit = input_found tables m role schemed p (type.Sort t) name x at is in
        subst (λ (o : Option ArgTree). Lawful (member_due (λ deeper q u. entry_due j c deeper q u) j c through t o)) (sym is)
        (origin_lawful through t x.ty x.origin fit.reaches (input_shaped tables m metadata_fits role schemed shaped vars p (type.Sort t) name x at is) h)

  no_sort_leaf : (place t : ℕ) → At types place (type.Sort t) → (j : JsonTree) → is_some (leaf_value R place j) ≡ true → ⊥
  no_sort_leaf place t at j h = no_leaf tables m metadata_fits role schemed shaped vars place (type.Sort t) at (λ vs e. e) (λ j. refl) j h

  mutual
    pub entry_lawful : (j : JsonTree) (through : List ℕ) (r : TypeRefTree) (t : ℕ) → element_type r ≡ None → At types (base r) (type.Sort t) → IsOf R r j → Lawful (entry_due j c through (base r) t)
    entry_lawful null through r t single at h = refl
    entry_lawful (bool b) through r t single at h = absurd (no_sort_leaf (base r) t at (bool b) h)
    entry_lawful (int n) through r t single at h = absurd (no_sort_leaf (base r) t at (int n) h)
    entry_lawful (str x) through r t single at h = absurd (no_sort_leaf (base r) t at (str x) h)
    entry_lawful (arr js) through r t single at h = absurd (let no : None ≡ Some h.0 = sym single ∙ h.1 in cc)
    entry_lawful (obj ms) through r t single at h = members_lawful ms through (base r) t at (subst (λ p. MembersOf R p ms) (input_same R (base r) h.0 h.1) h.2)

    members_lawful : (ms : MemberTrees) (through : List ℕ) (p t : ℕ) → At types p (type.Sort t) → MembersOf R p ms → Lawful (members_due ms c through p t)
    members_lawful no_member through p t at h = tt
    members_lawful (member name j ms) through p t at h =
        then_lawful (λ here. mapped (λ more. here ++ more) (members_due ms c through p t)) (member_due (λ deeper q u. entry_due j c deeper q u) j c through t (input_field_of R p name))
        (member_lawful j (λ deeper r u single at h. entry_lawful j deeper r u single at h) through p t name at h.0.0 h.0.1 h.0.2)
        (λ here e. mapped_lawful (λ more. here ++ more) (members_due ms c through p t) (members_lawful ms through p t at h.1))

  -- some entries, one after the other
  entries_by : (p t : ℕ) (js : List JsonTree) → Each (λ j. Lawful (entry_due j c [] p t)) js → Lawful (entries_due c p t js)
  entries_by p t [] h = tt
  entries_by p t (j ∷ js) h =
      then_lawful (λ here. mapped (λ more. here ++ more) (entries_due c p t js)) (entry_due j c [] p t) h.0
      (λ here e. mapped_lawful (λ more. here ++ more) (entries_due c p t js) (entries_by p t js h.1))

  each_entry : (js : ElementTrees) (q : TypeRefTree) (t : ℕ) → element_type q ≡ None → At types (base q) (type.Sort t) → AreOf R q js
      → Each (λ j. Lawful (entry_due j c [] (base q) t)) (element_list js)
  each_entry no_element q t single at h = tt
  each_entry (element j js) q t single at h = (entry_lawful j [] q t single at h.0, each_entry js q t single at h.1)

  limit_lawful : (ks : List SortKey) → Lawful (within_limit ks)
  limit_lawful ks = by (nat_lt 100 (length ks))
    where
      by : (b : Bool) → Lawful (cond b (Err (Rule SortEntries)) (Ok ks))
      by true = refl
      by false = tt

  pub sorts_lawful : (p t : ℕ) → At types p (type.Sort t) → (j : JsonTree) → IsOf R (list_of (non_null (named p))) j → Lawful (and_then within_limit (entries_due c p t (items_in j)))
  sorts_lawful p t at j h = then_lawful within_limit (entries_due c p t (items_in j)) (entries_by p t (items_in j) (by j h)) (λ ks e. limit_lawful ks)
    where
      by : (j : JsonTree) → IsOf R (list_of (non_null (named p))) j → Each (λ j. Lawful (entry_due j c [] p t)) (items_in j)
      by null h = (refl, tt)
      by (bool b) h = absurd (no_sort_leaf p t at (bool b) h)
      by (int n) h = absurd (no_sort_leaf p t at (int n) h)
      by (str x) h = absurd (no_sort_leaf p t at (str x) h)
      by (arr js) h = let same : non_null (named p) ≡ h.0 = (let both : Some (non_null (named p)) ≡ Some h.0 = h.1 in cc) in
          each_entry js (non_null (named p)) t refl at (subst (λ q. AreOf R q js) (sym same) h.2)
      by (obj ms) h = (entry_lawful (obj ms) [] (named p) t refl at h, tt)
