-- The sorts that `order_by` writes over a table, in other numbers; those of the table itself are by permitted columns.
use Rattle.std.proofs.Common.{◌≡◌, ◌∙◌, refl, sym, ap, ap₂, subst, ℕ, List, [], ◌∷◌, ◌++◌, map, length, nat_lt, Bool, true, false, not, cond, Option, Some, None, Ok, Err, option_map}
use Rattle.std.proofs.lemmas.List.{map-append, length-map}
use Rattle.hq_base.specs.Due.{mapped, and_then}
use Rattle.hq_base.specs.Json.{JsonTree, null, bool, int, str, arr, obj, MemberTrees, no_member, member}
use Rattle.hq_base.specs.Lists.{Each}
use Rattle.hq_model.specs.Schema.{Schema, rel}
use Rattle.hq_model.specs.Selected.{SortKey}
use Rattle.hq_model.specs.declared.meta.Rel.{Rel}
use Rattle.hq_gql_tree.specs.declared.rule.RuleId.TheVariants.{SortEntries}
use Rattle.hq_schema.specs.Look.{input_field_of}
use Rattle.hq_schema.specs.Schema.{base, ArgTree, TypeTree, TypeRefTree, SchemaTree}
use Rattle.hq_schema.specs.declared.origin.ArgOrigin.{ArgOrigin}
use Rattle.hq_schema.specs.declared.origin.ArgOrigin.TheVariants as stands
use Rattle.hq_schema.specs.declared.origin.TypeOrigin.TheVariants as type
use Rattle.hq_schema_roles.specs.Access.{Access}
use Rattle.hq_schema_roles.specs.Leads.{to, where_holds, behind_one, Reaches, ArgFits, sort_target, list_target}
use Rattle.hq_request_arguments.specs.Context.{Context}
use Rattle.hq_request_arguments.specs.Reading.{Read, items_in, fitting, Given}
use Rattle.hq_request_arguments.specs.Sorts.{direction_in, sort_by, column_sort, by_origin, member_due, entry_due, members_due, entries_due, within_limit, by_sorts, order_by_due}
use Rattle.hq_request_arguments.specs.declared.refusal.ArgRefusal.TheVariants.{Rule}
use Rattle.hq_request_coerce.specs.Variables.{VarTree}
use Rattle.hq_laws_renumbered.specs.Resolving.Renumbering.{Renumbering, path_over, path_end, sort_over}
use Rattle.hq_laws_renumbered.specs.Schemas.SchemaOver.{arg_origin_over, arg_over, schema_over}
use Rattle.hq_laws_renumbered.specs.Requests.Alike.{TablesAlike}
use Rattle.hq_laws_renumbered.specs.Requests.OfRole.{At, IsOfRole}
use Rattle.hq_laws_renumbered.proofs.Requests.Found.{input_over, input_found, type_seen}
use Rattle.hq_laws_renumbered.proofs.Requests.Given.{given_over, context}
use Rattle.hq_laws_renumbered.proofs.Requests.Items.{each_append}
use Rattle.hq_laws_renumbered.proofs.Requests.Steps.{then_over, mapped_over, mapped_same, mapped_ok, then_ok}

module _ (s z : Schema) (n : Renumbering) (a : Access) (r : SchemaTree) (of_role : IsOfRole s a r) (alike : TablesAlike s z n a) (vars : List VarTree) where
  abbrev c : Context
  c = context vars r s

  abbrev d : Context
  d = context vars (schema_over n r) z

  abbrev types : List TypeTree
  types = r.types

  -- a column at the end of no relationship is permitted
  abbrev pub EndPermitted : (through : List ℕ) → (table column : ℕ) → Type 0
  EndPermitted [] t col = a.column t col ≡ true
  EndPermitted (q ∷ qs) t col = Unit {0}

  abbrev pub PlainPermitted : ℕ → SortKey → Type 0
  PlainPermitted t k = EndPermitted k.through t k.column

  -- sorts over table t are read in other numbers
  pub record SortsRead (t : ℕ) (y x : Read (List SortKey)) : Type 0 where
    pub over : y ≡ mapped (map (sort_over s n t)) x
    pub used : (ks : List SortKey) → x ≡ Ok ks → Each (PlainPermitted t) ks

  none_read : (t : ℕ) → SortsRead t (Ok []) (Ok [])
  none_read t = record { over = refl; used = λ ks e. let same : [] ≡ ks = cc in subst (Each (PlainPermitted t)) same tt }

  -- some sorts, and others behind them
  both_read : (t : ℕ) (y x more_y more_x : Read (List SortKey)) → SortsRead t y x → SortsRead t more_y more_x
      → SortsRead t (and_then (λ here. mapped (λ more. here ++ more) more_y) y) (and_then (λ here. mapped (λ more. here ++ more) more_x) x)
  both_read t y x more_y more_x h k = record {
    over =
        then_over (map (sort_over s n t)) (map (sort_over s n t)) (λ here. mapped (λ more. here ++ more) more_x) (λ here. mapped (λ more. here ++ more) more_y) x y h.over
        (λ here e. mapped_over (map (sort_over s n t)) (map (sort_over s n t)) (λ more. here ++ more)
        (λ more. map (sort_over s n t) here ++ more) (λ more. sym (map-append (sort_over s n t) here more)) more_x more_y k.over);
    used = λ ks e.
        let one = then_ok (λ here. mapped (λ more. here ++ more) more_x) x ks e in
        let two = mapped_ok (λ more. one.0 ++ more) more_x ks one.2 in
        subst (Each (PlainPermitted t)) two.2 (each_append (PlainPermitted t) one.0 two.0 (h.used one.0 one.1) (k.used two.0 two.1));
  }

  -- ---- paths

  path_more : (qs : List ℕ) (t q : ℕ) → path_over (qs ++ q ∷ []) s n t ≡ path_over qs s n t ++ n.relationship (path_end qs s t) q ∷ []
  path_more [] t q = refl
  path_more (p ∷ qs) t q = ap (λ l. n.relationship t p ∷ l) (path_more qs (rel s t p).remote q)

  end_more : (qs : List ℕ) (t q : ℕ) → path_end (qs ++ q ∷ []) s t ≡ (rel s (path_end qs s t) q).remote
  end_more [] t q = refl
  end_more (p ∷ qs) t q = end_more qs (rel s t p).remote q

  end_permitted : (qs : List ℕ) (from t col : ℕ) → path_end qs s from ≡ t → a.column t col ≡ true → EndPermitted qs from col
  end_permitted [] from t col end permitted = subst (λ u. a.column u col ≡ true) (sym end) permitted
  end_permitted (q ∷ qs) from t col end permitted = tt

  module _ (from : ℕ) where
    column_read : (qs : List ℕ) (t col : ℕ) (j : JsonTree) → path_end qs s from ≡ t → a.column t col ≡ true
        → SortsRead from (column_sort (path_over qs s n from) (n.column t col) j) (column_sort qs col j)
    column_read qs t col j end permitted = record {
      over =
          mapped_same (map (sort_over s n from)) (λ w. sort_by qs col w ∷ []) (λ w. sort_by (path_over qs s n from) (n.column t col) w ∷ [])
          (λ w. ap (λ u. sort_by (path_over qs s n from) (n.column u col) w ∷ []) (sym end)) (fitting j (direction_in j)) (fitting j (direction_in j)) refl;
      used = λ ks e.
          let one = mapped_ok (λ w. sort_by qs col w ∷ []) (fitting j (direction_in j)) ks e in
          subst (Each (PlainPermitted from)) one.2 (end_permitted qs from t col end permitted, tt);
    }

    -- one member, where its value is read as an entry
    module _ (j : JsonTree)
        (entry_read : (qs : List ℕ) (p t : ℕ) → At types p (type.Sort t) → path_end qs s from ≡ t → SortsRead from (entry_due j d (path_over qs s n from) p (n.table t)) (entry_due j c qs p t)) where
      through_read : (qs : List ℕ) (t q p : ℕ) (o : Option Rel) → a.rel t q ≡ o → a.seen t ≡ true → (ty : TypeRefTree)
          → Reaches types ty (behind_one o type.Sort) → base ty ≡ p → path_end qs s from ≡ t
          → SortsRead from (entry_due j d (path_over qs s n from ++ n.relationship t q ∷ []) p (rel z (n.table t) (n.relationship t q)).remote) (entry_due j c (qs ++ q ∷ []) p (rel s t q).remote)
      through_read qs t q p None is seen ty at place end = absurd at
      through_read qs t q p (Some x) is seen ty at place end = go x.many refl at
        where
          go : (b : Bool) → x.many ≡ b → Reaches types ty (where_holds (not b) (to (type.Sort x.remote)))
              → SortsRead from (entry_due j d (path_over qs s n from ++ n.relationship t q ∷ []) p (rel z (n.table t) (n.relationship t q)).remote) (entry_due j c (qs ++ q ∷ []) p (rel s t q).remote)
          go true many at = absurd at
          go false one at =
              let here : At types p (type.Sort x.remote) = subst (λ k. At types k (type.Sort x.remote)) place at in
              let leads = alike.leads t q x seen is (type_seen s a r of_role p (type.Sort x.remote) here) in
              let ends : path_end (qs ++ q ∷ []) s from ≡ (rel s t q).remote = end_more qs from q ∙ ap (λ u. (rel s u q).remote) end in
              let path : path_over (qs ++ q ∷ []) s n from ≡ path_over qs s n from ++ n.relationship t q ∷ [] =
              path_more qs from q ∙ ap (λ u. path_over qs s n from ++ n.relationship u q ∷ []) end in
              let there : n.table (rel s t q).remote ≡ (rel z (n.table t) (n.relationship t q)).remote = ap n.table leads.0 ∙ sym leads.1 in
              let inner = entry_read (qs ++ q ∷ []) p (rel s t q).remote (subst (λ w. At types p (type.Sort w)) (sym leads.0) here) ends in
              subst (λ y. SortsRead from y (entry_due j c (qs ++ q ∷ []) p (rel s t q).remote)) (ap₂ (λ l u. entry_due j d l p u) path there) inner

      origin_read : (qs : List ℕ) (t : ℕ) (ty : TypeRefTree) (o : ArgOrigin) → a.seen t ≡ true → Reaches types ty (sort_target a t o) → path_end qs s from ≡ t
          → SortsRead from
          (by_origin (λ deeper q u. entry_due j d deeper q u) j d (path_over qs s n from) (n.table t) (base ty) (arg_origin_over n t o))
          (by_origin (λ deeper q u. entry_due j c deeper q u) j c qs t (base ty) o)
      origin_read qs t ty (stands.Column k) seen at end = go (a.column t k) refl at
        where
          go : (b : Bool) → a.column t k ≡ b → Reaches types ty (where_holds b (to type.Directions)) → SortsRead from (column_sort (path_over qs s n from) (n.column t k) j) (column_sort qs k j)
          go true permitted at = column_read qs t k j end permitted
          go false permitted at = absurd at
      origin_read qs t ty (stands.Relationship q) seen at end = through_read qs t q (base ty) (a.rel t q) refl seen ty at refl end
      origin_read qs t ty o seen at end = absurd at

      member_read : (qs : List ℕ) (p t : ℕ) (name : List ℕ) → At types p (type.Sort t) → path_end qs s from ≡ t
          → SortsRead from (member_due (λ deeper q u. entry_due j d deeper q u) j d (path_over qs s n from) (n.table t) (input_field_of (schema_over n r) p name))
          (member_due (λ deeper q u. entry_due j c deeper q u) j c qs t (input_field_of r p name))
      member_read qs p t name at end =
          subst (λ y. SortsRead from y (member_due (λ deeper q u. entry_due j c deeper q u) j c qs t (input_field_of r p name)))
          (ap (member_due (λ deeper q u. entry_due j d deeper q u) j d (path_over qs s n from) (n.table t)) (sym (input_over n r p (type.Sort t) at name))) (go (input_field_of r p name) refl)
        where
          go : (x : Option ArgTree) → input_field_of r p name ≡ x
              → SortsRead from
              (member_due (λ deeper q u. entry_due j d deeper q u) j d (path_over qs s n from) (n.table t) (option_map (arg_over n t) x))
              (member_due (λ deeper q u. entry_due j c deeper q u) j c qs t x)
          go None is = record { over = refl; used = λ ks e. cc }
          go (Some x) is = origin_read qs t x.ty x.origin (type_seen s a r of_role p (type.Sort t) at) (input_found s a r of_role p (type.Sort t) name x at is).reaches end

    mutual
      entry_read : (j : JsonTree) (qs : List ℕ) (p t : ℕ) → At types p (type.Sort t) → path_end qs s from ≡ t
          → SortsRead from (entry_due j d (path_over qs s n from) p (n.table t)) (entry_due j c qs p t)
      entry_read null qs p t at end = record { over = refl; used = λ ks e. cc }
      entry_read (bool b) qs p t at end = record { over = refl; used = λ ks e. cc }
      entry_read (int m) qs p t at end = record { over = refl; used = λ ks e. cc }
      entry_read (str x) qs p t at end = record { over = refl; used = λ ks e. cc }
      entry_read (arr js) qs p t at end = record { over = refl; used = λ ks e. cc }
      entry_read (obj ms) qs p t at end = members_read ms qs p t at end

      members_read : (ms : MemberTrees) (qs : List ℕ) (p t : ℕ) → At types p (type.Sort t) → path_end qs s from ≡ t
          → SortsRead from (members_due ms d (path_over qs s n from) p (n.table t)) (members_due ms c qs p t)
      members_read no_member qs p t at end = none_read from
      members_read (member name j ms) qs p t at end =
          both_read from (member_due (λ deeper q u. entry_due j d deeper q u) j d (path_over qs s n from) (n.table t) (input_field_of (schema_over n r) p name))
          (member_due (λ deeper q u. entry_due j c deeper q u) j c qs t (input_field_of r p name))
          (members_due ms d (path_over qs s n from) p (n.table t)) (members_due ms c qs p t)
          (member_read j (λ l q u at end. entry_read j l q u at end) qs p t name at end) (members_read ms qs p t at end)

  -- entries one after the other
  entries_read : (p t : ℕ) → At types p (type.Sort t) → (js : List JsonTree) → SortsRead t (entries_due d p (n.table t) js) (entries_due c p t js)
  entries_read p t at [] = none_read t
  entries_read p t at (j ∷ js) =
      both_read t (entry_due j d [] p (n.table t)) (entry_due j c [] p t) (entries_due d p (n.table t) js) (entries_due c p t js) (entry_read t j [] p t at refl) (entries_read p t at js)

  -- no more than 100
  within_read : (t : ℕ) (y x : Read (List SortKey)) → SortsRead t y x → SortsRead t (and_then within_limit y) (and_then within_limit x)
  within_read t y x h = record {
    over = then_over (map (sort_over s n t)) (map (sort_over s n t)) within_limit within_limit x y h.over (λ ks e. few ks);
    used = λ ls e. let one = then_ok within_limit x ls e in subst (Each (PlainPermitted t)) (same one.0 ls one.2) (h.used one.0 one.1);
  }
    where
      few : (ks : List SortKey) → within_limit (map (sort_over s n t) ks) ≡ mapped (map (sort_over s n t)) (within_limit ks)
      few ks = ap (λ l. cond (nat_lt 100 l) (Err (Rule SortEntries)) (Ok (map (sort_over s n t) ks))) (length-map ks (sort_over s n t)) ∙ go (nat_lt 100 (length ks))
        where
          go : (b : Bool) → cond b (Err (Rule SortEntries)) (Ok (map (sort_over s n t) ks)) ≡ mapped (map (sort_over s n t)) (cond b (Err (Rule SortEntries)) (Ok ks))
          go true = refl
          go false = refl

      same : (ks ls : List SortKey) → within_limit ks ≡ Ok ls → ks ≡ ls
      same ks ls e = go (nat_lt 100 (length ks)) e
        where
          go : (b : Bool) → cond b (Err (Rule SortEntries)) (Ok ks) ≡ Ok ls → ks ≡ ls
          go true e = cc
          go false e = cc

  -- ---- the argument

  by_sorts_read : (u v : ℕ) (j : JsonTree) (ty : TypeRefTree) (o : ArgOrigin) → Reaches types ty (list_target (Some u) o)
      → SortsRead u (by_sorts d (n.table u) j (base ty) (arg_origin_over n v o)) (by_sorts c u j (base ty) o)
  by_sorts_read u v j ty stands.OrderBy at = within_read u (entries_due d (base ty) (n.table u) (items_in j)) (entries_due c (base ty) u (items_in j)) (entries_read (base ty) u at (items_in j))
  by_sorts_read u v j ty (stands.Column e) at = none_read u
  by_sorts_read u v j ty (stands.Relationship e) at = none_read u
  by_sorts_read u v j ty o at = none_read u

  pub order_by_read : (u v : ℕ) (o : Option Given) → ((g : Given) → o ≡ Some g → ArgFits types (list_target (Some u)) g.arg)
      → SortsRead u (order_by_due d (n.table u) (option_map (given_over n v) o)) (order_by_due c u o)
  order_by_read u v None h = none_read u
  order_by_read u v (Some g) h = by_sorts_read u v g.value g.arg.ty g.arg.origin (h g refl).reaches
