-- Bound filters and masks: they are conditions over their tables without session names, as high as what was bound.
use Rattle.std.proofs.Common.{◌≡◌, ◌∙◌, refl, sym, ap, subst, ℕ, suc, max, List, [], ◌∷◌, length, map, Bool, true, ◌&&◌, ◌≤◌, nat_lt, Option, Some, None, Result, Ok, Err, is_some, option_map, option_and_then, slice_get}
use Rattle.std.specs.List.{list_all}
use Rattle.std.proofs.lemmas.Bool.{and_parts, and_from, le-leb, false≢true}
use Rattle.std.proofs.lemmas.Option.{get_or_from_slice_get}
use Rattle.std.specs.Result.{result_ok}
use Rattle.hq_base.specs.Due.{mapped}
use Rattle.hq_base.specs.Refused.{text_of}
use Rattle.hq_base.specs.Lists.{Each}
use Rattle.hq_base.specs.declared.value.Ty.{Ty}
use Rattle.hq_base.specs.declared.value.Val.{Val}
use Rattle.hq_model.specs.Bexp.{BexpTree, always, and_of, or_of, not_of, test, through, exists_in, two_columns, BexpTrees, no_bexp, bexp, operands_of, bexps_of, depth, depth_of_all, never}
use Rattle.hq_model.specs.Binding.{variable, constant, constant_of, bound_operand, bound_each, constants, constants_of, bound_operands, bound, bound_all, bound_masks, bound_permission}
use Rattle.hq_model.specs.Filters.{column_ty, test_fits, operand_fits, is_test, of_type, is_filter, are_filters}
use Rattle.hq_model.specs.Fits.{fits}
use Rattle.hq_model.specs.Laws.{IsLowFilter, IsMask, IsPermission}
use Rattle.hq_model.specs.Meta.{MetaTree}
use Rattle.hq_model.specs.Permission.{Mask, Permission, permission}
use Rattle.hq_model.specs.Schema.{Schema, schema_of, table, column, no_column, rel}
use Rattle.hq_model.specs.SessionLists.{element_value, element_values, elements_of, list_want}
use Rattle.hq_model.specs.Tests.{arity, has_arity, takes, takes_many, applies, reads}
use Rattle.hq_model.specs.declared.test.Arity.{Arity}
use Rattle.hq_model.specs.declared.test.Arity.TheVariants.{Nothing, One, Many}
use Rattle.hq_model.specs.declared.test.Test.{Test}
use Rattle.hq_model.specs.declared.bexp.Operand.{Operand}
use Rattle.hq_model.specs.declared.bexp.Operand.TheVariants.{Const, Session}
use Rattle.hq_model.specs.declared.bexp.Operands.{Operands}
use Rattle.hq_model.specs.declared.bexp.Operands.TheVariants as operands
use Rattle.hq_model.specs.declared.role.Role.{Role}
use Rattle.hq_model.specs.declared.session.Var.{Var}
use Rattle.hq_model.specs.declared.table.Column.{Column}
use Rattle.hq_model.specs.declared.table.Table.{Table}
use Rattle.hq_model.specs.declared.want.Want.{Want}
use Rattle.hq_request_tree.specs.Request.{BoundTree}
use Rattle.hq_request_tree.specs.Conditions.{is_constant, is_bound, are_bound, is_condition}
use Rattle.hq_request_tree.specs.WellFormed.{is_bound_mask, is_bound_table}
use Rattle.hq_request_build.specs.Bound.{of_table, bound_of, bound_due, bounds_due}
use Rattle.hq_model.proofs.Tests.{reads_fit}
use Rattle.hq_model.proofs.Permitting.{permission_fits}
use Rattle.hq_laws_request.proofs.Formed.BuildingSteps.{mapped_ok, then_ok}

-- ---- operands

module _ (read : List ℕ → Result Val Want) (holds : Operand → Bool) (given_holds : (text : List ℕ) (v : Val) → read text ≡ Ok v → holds (Const v) ≡ true) (vars : List Var) where
  abbrev IsBound : Operand → Type 0
  IsBound o = (holds o ≡ true) × (is_constant o ≡ true)

  operand_bound : (o p : Operand) → holds o ≡ true → bound_operand read vars o ≡ Ok p → IsBound p
  operand_bound (Const v) p h e = let same : Const v ≡ p = cc in subst IsBound same (h, refl)
  operand_bound (Session name) p h e = by (variable vars name) e
    where
      given : (text : List ℕ) (r : Result Val Want) → read text ≡ r → constant name r ≡ Ok p → IsBound p
      given text (Ok v) is e = let same : Const v ≡ p = cc in subst IsBound same (given_holds text v is, refl)
      given text (Err w) is e = cc

      by : (x : Option (List ℕ)) → constant_of read name x ≡ Ok p → IsBound p
      by None e = cc
      by (Some text) e = given text (read text) refl e

  operands_bound : (os ps : List Operand) → list_all holds os ≡ true → bound_each read vars os ≡ Ok ps → (list_all holds ps ≡ true) × (list_all is_constant ps ≡ true)
  operands_bound [] ps h e = let same : [] ≡ ps = cc in subst (λ l. (list_all holds l ≡ true) × (list_all is_constant l ≡ true)) same (refl, refl)
  operands_bound (o ∷ os) ps h e =
      let parts = and_parts (holds o) (list_all holds os) h in
      let one = then_ok (λ b. mapped (λ bs. b ∷ bs) (bound_each read vars os)) (bound_operand read vars o) ps e in
      let two = mapped_ok (λ bs. one.0 ∷ bs) (bound_each read vars os) ps one.2 in
      let here = operand_bound o one.0 parts.0 one.1 in
      let later = operands_bound os two.0 parts.1 two.1 in
      subst (λ l. (list_all holds l ≡ true) × (list_all is_constant l ≡ true)) two.2 (
        and_from (holds one.0) (list_all holds two.0) here.0 later.0,
        and_from (is_constant one.0) (list_all is_constant two.0) here.1 later.1,
      )

-- what is bound of operands is as many
bound_length : (read : List ℕ → Result Val Want) (vars : List Var) (os ps : List Operand) → bound_each read vars os ≡ Ok ps → length ps ≡ length os
bound_length read vars [] ps e = let same : [] ≡ ps = cc in ap length (sym same)
bound_length read vars (o ∷ os) ps e =
    let one = then_ok (λ b. mapped (λ bs. b ∷ bs) (bound_each read vars os)) (bound_operand read vars o) ps e in
    let two = mapped_ok (λ bs. one.0 ∷ bs) (bound_each read vars os) ps one.2 in
    ap length (sym two.2) ∙ ap suc (bound_length read vars os two.0 two.1)

-- ---- the operands of a test

-- what is bound of the operands of a test of a type's column are constants that fit it
abbrev TestBound : Test → Ty → Operands → Type 0
TestBound t ty vs = (is_test t vs ty ≡ true) × (list_all is_constant (operands_of vs) ≡ true)

list_test : (t : Test) (ty : Ty) (vs : List Operand) → takes t (length vs) ≡ true → applies t ty ≡ true
    → (list_all (operand_fits t ty) vs ≡ true) × (list_all is_constant vs ≡ true) → TestBound t ty (operands.List vs)
list_test t ty vs counted of_type_is f =
    (and_from (takes t (length vs) && applies t ty) (list_all (operand_fits t ty) vs) (and_from (takes t (length vs)) (applies t ty) counted of_type_is) f.0, f.1)

-- a test that takes a list takes any number
list_taken : (a : Arity) (n : ℕ) → takes_many a ≡ true → has_arity a n ≡ true
list_taken Nothing n h = absurd (false≢true h)
list_taken One n h = absurd (false≢true h)
list_taken Many n h = refl

-- constants that are read of elements fit the test
values_fit : (t : Test) (ty : Ty) (es : List (List ℕ)) (vs : List Val) → element_values t ty es ≡ Some vs
    → (list_all (operand_fits t ty) (map Const vs) ≡ true) × (list_all is_constant (map Const vs) ≡ true)
values_fit t ty [] vs e = let same : [] ≡ vs = cc in subst (λ l. (list_all (operand_fits t ty) (map Const l) ≡ true) × (list_all is_constant (map Const l) ≡ true)) same (refl, refl)
values_fit t ty (x ∷ es) vs e = by (element_value t ty x) (element_values t ty es) refl (λ more f. values_fit t ty es more f) e
  where
    one_fits : (o : Option (List ℕ)) (v : Val) → option_and_then (λ text. result_ok (reads t ty text)) o ≡ Some v → test_fits t ty v ≡ true
    one_fits None v f = cc
    one_fits (Some text) v f = read (reads t ty text) refl f
      where
        read : (r : Result Val Want) → reads t ty text ≡ r → result_ok r ≡ Some v → test_fits t ty v ≡ true
        read (Ok w) is g = let same : w ≡ v = cc in subst (λ z. test_fits t ty z ≡ true) same (reads_fit t ty text w is)
        read (Err w) is g = cc

    by : (o : Option Val) (rest : Option (List Val)) → element_value t ty x ≡ o
        →
        ((more : List Val) → rest ≡ Some more
        → (list_all (operand_fits t ty) (map Const more) ≡ true) × (list_all is_constant (map Const more) ≡ true))
        → option_and_then (λ v. option_map (λ ws. v ∷ ws) rest) o ≡ Some vs → (list_all (operand_fits t ty) (map Const vs) ≡ true) × (list_all is_constant (map Const vs) ≡ true)
    by None rest is later f = cc
    by (Some v) None is later f = cc
    by (Some v) (Some more) is later f =
        let same : v ∷ more ≡ vs = cc in
        let tail = later more refl in
        subst (λ l. (list_all (operand_fits t ty) (map Const l) ≡ true) × (list_all is_constant (map Const l) ≡ true)) same
        (and_from (test_fits t ty v) (list_all (operand_fits t ty) (map Const more)) (one_fits (result_ok (text_of x)) v is) tail.0, tail.1)

-- what a variable lists
list_bound : (t : Test) (ty : Ty) (name : List ℕ) (o : Option (List ℕ)) (ps : List Operand) → constants_of t ty name o ≡ Ok ps
    → (list_all (operand_fits t ty) ps ≡ true) × (list_all is_constant ps ≡ true)
list_bound t ty name None ps e = cc
list_bound t ty name (Some text) ps e = by (elements_of text) refl e
  where
    with_values : (es : List (List ℕ)) (o : Option (List Val)) → element_values t ty es ≡ o → constants name (list_want ty) o ≡ Ok ps
        → (list_all (operand_fits t ty) ps ≡ true) × (list_all is_constant ps ≡ true)
    with_values es None is f = cc
    with_values es (Some vs) is f = let same : map Const vs ≡ ps = cc in subst (λ l. (list_all (operand_fits t ty) l ≡ true) × (list_all is_constant l ≡ true)) same (values_fit t ty es vs is)

    by : (o : Option (List (List ℕ))) → elements_of text ≡ o
        → constants name (list_want ty) (option_and_then (element_values t ty) o) ≡ Ok ps
        → (list_all (operand_fits t ty) ps ≡ true) × (list_all is_constant ps ≡ true)
    by None is f = cc
    by (Some es) is f = with_values es (element_values t ty es) refl f

test_bound : (t : Test) (ty : Ty) (vars : List Var) (os ps : Operands) → is_test t os ty ≡ true → bound_operands t ty vars os ≡ Ok ps → TestBound t ty ps
test_bound t ty vars (operands.List vs) ps h e =
    let parts = and_parts (takes t (length vs) && applies t ty) (list_all (operand_fits t ty) vs) h in
    let taken = and_parts (takes t (length vs)) (applies t ty) parts.0 in
    let one = mapped_ok operands.List (bound_each (reads t ty) vars vs) ps e in
    let f = operands_bound (reads t ty) (operand_fits t ty) (reads_fit t ty) vars vs one.0 parts.1 one.1 in
    let counted : takes t (length one.0) ≡ true = ap (takes t) (bound_length (reads t ty) vars vs one.0 one.1) ∙ taken.0 in
    subst (TestBound t ty) one.2 (list_test t ty one.0 counted taken.1 f)
test_bound t ty vars (operands.Session name) ps h e =
    let parts = and_parts (takes_many (arity t) && applies t ty) (list_all (operand_fits t ty) (Session name ∷ [])) h in
    let taken = and_parts (takes_many (arity t)) (applies t ty) parts.0 in
    let one = mapped_ok operands.List (constants_of t ty name (variable vars name)) ps e in
    subst (TestBound t ty) one.2 (list_test t ty one.0 (list_taken (arity t) (length one.0) taken.0) taken.1 (list_bound t ty name (variable vars name) one.0 one.1))

-- ---- expressions

module _ (s : Schema) (vars : List Var) where
  -- what is bound of an expression over table t
  pub record Bound (t : ℕ) (b x : BexpTree) : Type 0 where
    pub fit : is_filter x s t ≡ true
    pub constant : is_bound x ≡ true
    pub deep : depth x ≡ depth b

  record AllBound (t : ℕ) (bs : BexpTrees) (xs : List BexpTree) : Type 0 where
    fit : are_filters (bexps_of xs) s t ≡ true
    constant : are_bound (bexps_of xs) ≡ true
    deep : depth_of_all (bexps_of xs) ≡ depth_of_all bs

  -- the type of a column that passes a test
  column_is : (t k : ℕ) (holds : Ty → Bool) → of_type holds (column_ty s t k) ≡ true → (column_ty s t k ≡ Some (column s t k).ty) × (holds (column s t k).ty ≡ true)
  column_is t k holds h = by (slice_get (table s t).columns k) refl h
    where
      by : (o : Option Column) → slice_get (table s t).columns k ≡ o → of_type holds (option_map (λ (d : Column). d.ty) o) ≡ true
          → (column_ty s t k ≡ Some (column s t k).ty) × (holds (column s t k).ty ≡ true)
      by None is h = cc
      by (Some d) is h =
          let same : column s t k ≡ d = get_or_from_slice_get (table s t).columns k d no_column is in
          (ap (option_map (λ (d : Column). d.ty)) is ∙ ap (λ (d : Column). Some d.ty) (sym same), ap (λ (d : Column). holds d.ty) same ∙ h)

  mutual
    pub filter_bound : (b : BexpTree) (t : ℕ) → is_filter b s t ≡ true → (x : BexpTree) → bound b s vars t ≡ Ok x → Bound t b x
    filter_bound always t h x e = let same : always ≡ x = cc in subst (Bound t always) same (record { fit = refl; constant = refl; deep = refl })
    filter_bound (and_of bs) t h x e =
        let one = mapped_ok (λ xs. and_of (bexps_of xs)) (bound_all bs s vars t) x e in
        let all = filters_bound bs t h one.0 one.1 in
        subst (Bound t (and_of bs)) one.2 (record { fit = all.fit; constant = all.constant; deep = ap suc all.deep })
    filter_bound (or_of bs) t h x e =
        let one = mapped_ok (λ xs. or_of (bexps_of xs)) (bound_all bs s vars t) x e in
        let all = filters_bound bs t h one.0 one.1 in
        subst (Bound t (or_of bs)) one.2 (record { fit = all.fit; constant = all.constant; deep = ap suc all.deep })
    filter_bound (not_of b) t h x e =
        let one = mapped_ok not_of (bound b s vars t) x e in
        let inner = filter_bound b t h one.0 one.1 in
        subst (Bound t (not_of b)) one.2 (record { fit = inner.fit; constant = inner.constant; deep = ap suc inner.deep })
    filter_bound (test k tested vs negated) t h x e =
        let ty = (column s t k).ty in
        let is = column_is t k (is_test tested vs) h in
        let one = mapped_ok (λ os. test k tested os negated) (bound_operands tested ty vars vs) x e in
        let f = test_bound tested ty vars vs one.0 is.1 one.1 in
        subst (Bound t (test k tested vs negated)) one.2 (record { fit = ap (of_type (is_test tested one.0)) is.0 ∙ f.0; constant = f.1; deep = refl })
    filter_bound (through r b) t h x e =
        let parts = and_parts (is_some (slice_get (table s t).rels r)) (is_filter b s (rel s t r).remote) h in
        let one = mapped_ok (through r) (bound b s vars (rel s t r).remote) x e in
        let inner = filter_bound b (rel s t r).remote parts.1 one.0 one.1 in
        subst (Bound t (through r b)) one.2 (record {
          fit = and_from (is_some (slice_get (table s t).rels r)) (is_filter one.0 s (rel s t r).remote) parts.0 inner.fit;
          constant = inner.constant;
          deep = ap suc inner.deep;
        })
    filter_bound (exists_in u b) t h x e =
        let parts = and_parts (nat_lt u (length s)) (is_filter b s u) h in
        let one = mapped_ok (exists_in u) (bound b s vars u) x e in
        let inner = filter_bound b u parts.1 one.0 one.1 in
        subst (Bound t (exists_in u b)) one.2 (record { fit = and_from (nat_lt u (length s)) (is_filter one.0 s u) parts.0 inner.fit; constant = inner.constant; deep = ap suc inner.deep })
    filter_bound (two_columns l op r) t h x e = let same : two_columns l op r ≡ x = cc in subst (Bound t (two_columns l op r)) same (record { fit = h; constant = refl; deep = refl })

    filters_bound : (bs : BexpTrees) (t : ℕ) → are_filters bs s t ≡ true → (xs : List BexpTree) → bound_all bs s vars t ≡ Ok xs → AllBound t bs xs
    filters_bound no_bexp t h xs e = let same : [] ≡ xs = cc in subst (AllBound t no_bexp) same (record { fit = refl; constant = refl; deep = refl })
    filters_bound (bexp b bs) t h xs e =
        let parts = and_parts (is_filter b s t) (are_filters bs s t) h in
        let one = then_ok (λ x. mapped (λ xs. x ∷ xs) (bound_all bs s vars t)) (bound b s vars t) xs e in
        let two = mapped_ok (λ xs. one.0 ∷ xs) (bound_all bs s vars t) xs one.2 in
        let here = filter_bound b t parts.0 one.0 one.1 in
        let later = filters_bound bs t parts.1 two.0 two.1 in
        subst (AllBound t (bexp b bs)) two.2 (record {
          fit = and_from (is_filter one.0 s t) (are_filters (bexps_of two.0) s t) here.fit later.fit;
          constant = and_from (is_bound one.0) (are_bound (bexps_of two.0)) here.constant later.constant;
          deep = ap (λ n. max n (depth_of_all (bexps_of two.0))) here.deep ∙ ap (λ n. max (depth b) n) later.deep;
        })

-- ---- permissions

module _ (tables : List Table) (m : MetaTree) (metadata_fits : fits tables m ≡ true) (role : Role) (vars : List Var) where
  abbrev s : Schema
  s = schema_of tables m

  -- a filter of a permission, bound, is a condition
  condition_of : (t : ℕ) (b x : BexpTree) → IsLowFilter s t b → bound b s vars t ≡ Ok x → is_condition 301 x s t ≡ true
  condition_of t b x low e =
      let is = filter_bound s vars b t low.0 x e in
      let deep : depth x ≤ 301 = subst (λ n. n ≤ 301) (sym is.deep) low.1 in
      and_from _ _ (and_from _ _ is.fit is.constant) (le-leb (depth x) 301 deep)

  -- so are its masks
  masks_bound : (t : ℕ) (ms ks : List Mask) → Each (IsMask s t) ms → bound_masks ms s vars t ≡ Ok ks → list_all (is_bound_mask s t) ks ≡ true
  masks_bound t [] ks h e = let same : [] ≡ ks = cc in ap (list_all (is_bound_mask s t)) (sym same)
  masks_bound t (k ∷ ms) ks h e =
      let one = then_ok (λ shown. mapped (λ rest. record { column = k.column; shown = shown } ∷ rest) (bound_masks ms s vars t)) (bound k.shown s vars t) ks e in
      let two = mapped_ok (λ rest. record { column = k.column; shown = one.0 } ∷ rest) (bound_masks ms s vars t) ks one.2 in
      subst (λ l. list_all (is_bound_mask s t) l ≡ true) two.2
      (and_from _ _ (and_from _ _ h.0.0 (condition_of t k.shown one.0 h.0.1 one.1)) (masks_bound t ms two.0 h.1 two.1))

  -- a permission on a table, bound
  permission_bound : (t : ℕ) (p q : Permission) → IsPermission s t p → bound_permission p s vars t ≡ Ok q → is_bound_table s (of_table t q) ≡ true
  permission_bound t p q h e =
      let one = then_ok (λ f. mapped (λ ks. record p { filter = f; masks = ks }) (bound_masks p.masks s vars t)) (bound p.filter s vars t) q e in
      let two = mapped_ok (λ ks. record p { filter = one.0; masks = ks }) (bound_masks p.masks s vars t) q one.2 in
      subst (λ x. is_bound_table s (of_table t x) ≡ true) two.2 (and_from _ _ (condition_of t p.filter one.0 h.filter one.1) (masks_bound t p.masks two.0 h.masks two.1))

  entry_bound : (t : ℕ) (b : BoundTree) → bound_due role m s vars t ≡ Ok b → is_bound_table s b ≡ true
  entry_bound t b e = by (permission role m t) refl e
    where
      by : (o : Option Permission) → permission role m t ≡ o → bound_of o s vars t ≡ Ok b → is_bound_table s b ≡ true
      by None is e = let none : BoundTree = record { table = t; filter = never; masks = [] } in let same : none ≡ b = cc in subst (λ x. is_bound_table s x ≡ true) same refl
      by (Some p) is e =
          let one = mapped_ok (of_table t) (bound_permission p s vars t) b e in
          subst (λ x. is_bound_table s x ≡ true) one.2 (permission_bound t p one.0 (permission_fits tables m role t metadata_fits p is) one.1)

  pub entries_bound : (ts : List ℕ) (bs : List BoundTree) → bounds_due role m s vars ts ≡ Ok bs → list_all (is_bound_table s) bs ≡ true
  entries_bound [] bs e = let same : [] ≡ bs = cc in ap (list_all (is_bound_table s)) (sym same)
  entries_bound (t ∷ ts) bs e =
      let one = then_ok (λ b. mapped (λ more. b ∷ more) (bounds_due role m s vars ts)) (bound_due role m s vars t) bs e in
      let two = mapped_ok (λ more. one.0 ∷ more) (bounds_due role m s vars ts) bs one.2 in
      subst (λ l. list_all (is_bound_table s) l ≡ true) two.2 (and_from (is_bound_table s one.0) (list_all (is_bound_table s) two.0) (entry_bound t one.0 one.1) (entries_bound ts two.0 two.1))
