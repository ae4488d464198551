-- A filter and a mask are equal, up to the aliases inside EXISTS, at all aliases; and so are their conjuncts.
use Rattle.std.proofs.Common.{◌≡◌, ℕ, ◌+◌, ◌<◌, ◌≤◌, ◌^◌, List, [], ◌∷◌, ◌++◌, map, Bool, true, false, cond, refl, arith, ℤ, Ordering, Less, Equal, Greater}
use Rattle.std.proofs.lemmas.Cmp.{int_cmp_total}
use Rattle.std.specs.Ordering.{ordering_reverse}
use Rattle.std.specs.Ordering.{int_cmp, bool_cmp, is_eq}
use Rattle.std.proofs.lemmas.Bool.{and_parts}
use Rattle.hq_base.specs.Lists.{Zip}
use Rattle.hq_base.specs.declared.value.Ty.{Ty}
use Rattle.hq_base.specs.declared.value.Val.{Val}
use Rattle.hq_base.specs.declared.value.Val.TheVariants as val
use Rattle.hq_model.specs.Bexp.{BexpTree, always, and_of, or_of, not_of, test, through, exists_in, two_columns, BexpTrees, no_bexp, bexp, operands_of}
use Rattle.hq_model.specs.Schema.{Schema, table, rel}
use Rattle.hq_model.specs.Tests.{arity, is_of_nothing}
use Rattle.hq_model.specs.declared.bexp.Operand.{Operand}
use Rattle.hq_model.specs.declared.bexp.Operand.TheVariants.{Const, Session}
use Rattle.hq_model.specs.declared.meta.Pair.{Pair}
use Rattle.hq_model.specs.declared.table.Column.{Column}
use Rattle.hq_model.specs.declared.test.Arity.{Arity}
use Rattle.hq_model.specs.declared.test.Arity.TheVariants.{Nothing, One, Many}
use Rattle.hq_model.specs.declared.test.Test.{Test}
use Rattle.hq_model.proofs.Tests.{op_same, test_same}
use Rattle.hq_sql_tree.specs.declared.expr.ColumnForm.{ColumnForm}
use Rattle.hq_sql_tree.proofs.Columns.{form_same}
use Rattle.hq_sql_tree.specs.Tree as tree
use Rattle.hq_sql_tree.specs.Tree.{ExprTree, PredTree, PredTrees, preds_of}
use Rattle.hq_translation.specs.Names.{table_alias, unit_name}
use Rattle.hq_translation.specs.Looks.{own_look, type_in, tested_at, tested_form, compared_form, name_of}
use Rattle.hq_translation.proofs.TextLiterals.{of_either}
use Rattle.hq_translation.specs.Conditions.{literal, operand_literal, joined_by_and, joined_by_or, with_member, where_of, negation_if, literals_for, test_of}
use Rattle.hq_translation.specs.Predicates.{link_members, link, numbers, numbers_all, predicate, predicates, filter_mode, own_numbers, own_predicate}
use Rattle.hq_translation.proofs.Names.{same_text, table_aliases_differ}
use Rattle.hq_confine_rules.specs.Conjuncts.{opened, all_opened}
use Rattle.hq_confine_rules.specs.Renamed.{Renaming, stands_for, is_alike_expr, are_alike_exprs, is_alike, are_alike, is_alike_filter}

-- ---- the same

same_bool : (b : Bool) → is_eq (bool_cmp b b) ≡ true
same_bool true = refl
same_bool false = refl

same_int : (n : ℤ) → is_eq (int_cmp n n) ≡ true
same_int n =
    let go : (o : Ordering) → o ≡ ordering_reverse o → is_eq o ≡ true = elim [ Less ↦ λ e. cc | Equal ↦ λ e. refl | Greater ↦ λ e. cc ] in
    go (int_cmp n n) (int_cmp_total.antisymm n n)

module _ (r : Renaming) where
  column_alike : (a b name : List ℕ) (form : ColumnForm) → stands_for r a b ≡ true → is_alike_expr r (tree.column a name form) (tree.column b name form) ≡ true
  column_alike a b name form e = rw (e, same_text name, form_same form) refl

  literal_alike : (ty : Ty) (v : Val) → is_alike_expr r (literal ty v) (literal ty v) ≡ true
  literal_alike ty val.Null = refl
  literal_alike ty (val.Int n) = same_int n
  literal_alike ty (val.Text s) = of_either (λ e. is_alike_expr r e e ≡ true) ty s (same_text s) (same_text s)
  literal_alike ty (val.Bool b) = same_bool b

  operand_alike : (ty : Ty) (v : Operand) → is_alike_expr r (operand_literal ty v) (operand_literal ty v) ≡ true
  operand_alike ty (Const v) = literal_alike ty v
  operand_alike ty (Session name) = refl

  operands_alike : (ty : Ty) (vs : List Operand) → are_alike_exprs r (map (operand_literal ty) vs) (map (operand_literal ty) vs) ≡ true
  operands_alike ty [] = refl
  operands_alike ty (v ∷ vs) = rw (operand_alike ty v) (operands_alike ty vs)

  literals_alike : (ty : Ty) (k : Arity) (vs : List Operand) → are_alike_exprs r (literals_for ty k vs) (literals_for ty k vs) ≡ true
  literals_alike ty Nothing vs = refl
  literals_alike ty One [] = refl
  literals_alike ty One (v ∷ vs) = rw (operand_alike ty v) refl
  literals_alike ty Many vs = operands_alike ty vs

  test_alike : (ty : Ty) (e f : ExprTree) (t : Test) (vs : List Operand) (negated : Bool) → is_alike_expr r e f ≡ true → is_alike r (test_of ty e t vs negated) (test_of ty f t vs negated) ≡ true
  test_alike ty e f t vs negated h =
      let here : is_alike r (tree.test e t (literals_for ty (arity t) vs)) (tree.test f t (literals_for ty (arity t) vs)) ≡ true = rw (h, test_same t) (literals_alike ty (arity t) vs) in
      let turned : (b : Bool)
      → is_alike r (negation_if b (tree.test e t (literals_for ty (arity t) vs)))
      (negation_if b (tree.test f t (literals_for ty (arity t) vs)))
      ≡ true =
      elim [ true ↦ here | false ↦ here ] in
      let nothing : (b : Bool) → is_alike r (cond b tree.always tree.never) (cond b tree.always tree.never) ≡ true = elim [ true ↦ refl | false ↦ refl ] in
      let go : (b : Bool)
      → is_alike r (cond b (cond negated tree.always tree.never) (negation_if negated (tree.test e t (literals_for ty (arity t) vs))))
      (cond b (cond negated tree.always tree.never) (negation_if negated (tree.test f t (literals_for ty (arity t) vs))))
      ≡ true =
      elim [ true ↦ nothing negated | false ↦ turned negated ] in
      go (is_of_nothing t vs)

  -- lists of conditions, one by one
  abbrev pub Alike : PredTree → PredTree → Type 0
  Alike p q = is_alike r p q ≡ true

  list_alike : (ps qs : List PredTree) → Zip Alike ps qs → are_alike r (preds_of ps) (preds_of qs) ≡ true
  list_alike [] [] h = refl
  list_alike [] (q ∷ qs) h = absurd h
  list_alike (p ∷ ps) [] h = absurd h
  list_alike (p ∷ ps) (q ∷ qs) h = rw h.0 (list_alike ps qs h.1)

  and_alike : (ps qs : List PredTree) → Zip Alike ps qs → is_alike r (joined_by_and ps) (joined_by_and qs) ≡ true
  and_alike [] [] h = refl
  and_alike [] (q ∷ qs) h = absurd h
  and_alike (p ∷ ps) [] h = absurd h
  and_alike (p ∷ []) (q ∷ []) h = h.0
  and_alike (p ∷ []) (q ∷ (v ∷ qs)) h = absurd h.1
  and_alike (p ∷ (u ∷ ps)) (q ∷ []) h = absurd h.1
  and_alike (p ∷ (u ∷ ps)) (q ∷ (v ∷ qs)) h = list_alike (p ∷ (u ∷ ps)) (q ∷ (v ∷ qs)) h

  or_alike : (ps qs : List PredTree) → Zip Alike ps qs → is_alike r (joined_by_or ps) (joined_by_or qs) ≡ true
  or_alike [] [] h = refl
  or_alike [] (q ∷ qs) h = absurd h
  or_alike (p ∷ ps) [] h = absurd h
  or_alike (p ∷ []) (q ∷ []) h = h.0
  or_alike (p ∷ []) (q ∷ (v ∷ qs)) h = absurd h.1
  or_alike (p ∷ (u ∷ ps)) (q ∷ []) h = absurd h.1
  or_alike (p ∷ (u ∷ ps)) (q ∷ (v ∷ qs)) h = list_alike (p ∷ (u ∷ ps)) (q ∷ (v ∷ qs)) h

  -- what is left out of a WHERE is left out of both
  member_alike : (p q : PredTree) (ps qs : List PredTree) → Alike p q → Zip Alike ps qs → Zip Alike (with_member p ps) (with_member q qs)
  member_alike tree.always tree.always ps qs h z = z
  member_alike tree.never tree.never ps qs h z = (h, z)
  member_alike (tree.test e t es) (tree.test f u fs) ps qs h z = (h, z)
  member_alike (tree.negation p) (tree.negation q) ps qs h z = (h, z)
  member_alike (tree.all_of x) (tree.all_of y) ps qs h z = (h, z)
  member_alike (tree.any_of x) (tree.any_of y) ps qs h z = (h, z)
  member_alike (tree.exists x) (tree.exists y) ps qs h z = (h, z)
  member_alike _ _ ps qs h z = cc

  where_alike : (ps qs : List PredTree) → Zip Alike ps qs → is_alike_filter r (where_of ps) (where_of qs) ≡ true
  where_alike [] [] h = refl
  where_alike [] (q ∷ qs) h = absurd h
  where_alike (p ∷ ps) [] h = absurd h
  where_alike (p ∷ ps) (q ∷ qs) h = and_alike (p ∷ ps) (q ∷ qs) h

link_alike : (r : Renaming) (columns remote : List Column) (p q n m : ℕ) → stands_for r (table_alias p) (table_alias q) ≡ true → stands_for r (table_alias n) (table_alias m) ≡ true → (xs : List Pair)
    → Zip (Alike r) (link_members columns remote p n xs) (link_members columns remote q m xs)
link_alike r columns remote p q n m own far [] = tt
link_alike r columns remote p q n m own far (x ∷ xs) = (
  rw (
    column_alike r (table_alias n) (table_alias m) (name_of remote x.remote) (compared_form (type_in remote x.remote)) far,
    column_alike r (table_alias p) (table_alias q) (name_of columns x.own) (compared_form (type_in columns x.own)) own,
  )
      refl,
  link_alike r columns remote p q n m own far xs,
)

-- an inner alias stands for its own, and hides none of an outer number
inner_stands : (r : Renaming) (n m : ℕ) → stands_for ((table_alias n, table_alias m) ∷ r) (table_alias n) (table_alias m) ≡ true
inner_stands r n m = rw (same_text (table_alias n), same_text (table_alias m)) refl

outer_stands : (r : Renaming) (p q n m : ℕ) → p < n → q < m → n < 2 ^ 64 → m < 2 ^ 64 → stands_for r (table_alias p) (table_alias q) ≡ true
    → stands_for ((table_alias n, table_alias m) ∷ r) (table_alias p) (table_alias q) ≡ true
outer_stands r p q n m lt lu b c h = rw (table_aliases_differ p n lt b, table_aliases_differ q m lu c, h) refl

module _ (s : Schema) where
  mutual
    pub own_alike : (b : BexpTree) (r : Renaming) (t p q n m : ℕ) → stands_for r (table_alias p) (table_alias q) ≡ true → p < n → q < m
        → n + own_numbers b s t ≤ 2 ^ 64 → m + own_numbers b s t ≤ 2 ^ 64
        → is_alike r (own_predicate b s t p n) (own_predicate b s t q m) ≡ true
    own_alike always r t p q n m h lt lu bn bm = refl
    own_alike (and_of bs) r t p q n m h lt lu bn bm =
        and_alike r (predicates bs s (filter_mode s) (own_look (table s t).columns p) t p n)
        (predicates bs s (filter_mode s) (own_look (table s t).columns q) t q m) (owns_alike bs r t p q n m h lt lu bn bm)
    own_alike (or_of bs) r t p q n m h lt lu bn bm =
        or_alike r (predicates bs s (filter_mode s) (own_look (table s t).columns p) t p n)
        (predicates bs s (filter_mode s) (own_look (table s t).columns q) t q m) (owns_alike bs r t p q n m h lt lu bn bm)
    own_alike (not_of b) r t p q n m h lt lu bn bm = own_alike b r t p q n m h lt lu bn bm
    own_alike (test c tested vs negated) r t p q n m h lt lu bn bm =
        test_alike r (type_in (table s t).columns c) (tested_at (table s t).columns (own_look (table s t).columns p c) c tested)
        (tested_at (table s t).columns (own_look (table s t).columns q c) c tested) tested (operands_of vs) negated
        (column_alike r (table_alias p) (table_alias q) (own_look (table s t).columns p c).name
        (tested_form tested (type_in (table s t).columns c)) h)
    own_alike (through k b) r t p q n m h lt lu bn bm =
        let u : ℕ = (rel s t k).remote in
        let within : Renaming = (table_alias n, table_alias m) ∷ r in
        let far = inner_stands r n m in
        let own = outer_stands r p q n m lt lu (omega arith) (omega arith) h in
        let linked =
        and_alike within (link_members (table s t).columns (table s u).columns p n (rel s t k).pairs)
        (link_members (table s t).columns (table s u).columns q m (rel s t k).pairs)
        (link_alike within (table s t).columns (table s u).columns p q n m own far (rel s t k).pairs) in
        let P : PredTree = predicate b s (filter_mode s) (own_look (table s u).columns n) u n (n + 1 + 0 + 0) in
        let Q : PredTree = predicate b s (filter_mode s) (own_look (table s u).columns m) u m (m + 1 + 0 + 0) in
        let inner : is_alike within P Q ≡ true = own_alike b within u n m (n + 1 + 0 + 0) (m + 1 + 0 + 0) far (omega arith) (omega arith) (omega arith) (omega arith) in
        let kept =
        where_alike within _ _
        (member_alike within (link s t (rel s t k) p n) (link s t (rel s t k) q m) (with_member tree.always (with_member P []))
        (with_member tree.always (with_member Q [])) linked (member_alike within P Q [] [] inner tt)) in
        rw (same_text (table s u).schema, same_text (table s u).name, same_text unit_name) kept
    own_alike (exists_in u b) r t p q n m h lt lu bn bm =
        let within : Renaming = (table_alias n, table_alias m) ∷ r in
        let far = inner_stands r n m in
        let P : PredTree = predicate b s (filter_mode s) (own_look (table s u).columns n) u n (n + 1 + 0 + 0) in
        let Q : PredTree = predicate b s (filter_mode s) (own_look (table s u).columns m) u m (m + 1 + 0 + 0) in
        let inner : is_alike within P Q ≡ true = own_alike b within u n m (n + 1 + 0 + 0) (m + 1 + 0 + 0) far (omega arith) (omega arith) (omega arith) (omega arith) in
        let kept = where_alike within (with_member P []) (with_member Q []) (member_alike within P Q [] [] inner tt) in
        rw (same_text (table s u).schema, same_text (table s u).name, same_text unit_name) kept
    own_alike (two_columns a op b) r t p q n m h lt lu bn bm =
        let columns : List Column = (table s t).columns in
        let left = column_alike r (table_alias p) (table_alias q) (name_of columns a) (compared_form (type_in columns a)) h in
        let right = column_alike r (table_alias p) (table_alias q) (name_of columns b) (compared_form (type_in columns b)) h in
        rw (left, op_same op, right) refl

    owns_alike : (bs : BexpTrees) (r : Renaming) (t p q n m : ℕ) → stands_for r (table_alias p) (table_alias q) ≡ true → p < n → q < m
        → n + numbers_all bs s (filter_mode s) t ≤ 2 ^ 64 → m + numbers_all bs s (filter_mode s) t ≤ 2 ^ 64
        → Zip (Alike r) (predicates bs s (filter_mode s) (own_look (table s t).columns p) t p n) (predicates bs s (filter_mode s) (own_look (table s t).columns q) t q m)
    owns_alike no_bexp r t p q n m h lt lu bn bm = tt
    owns_alike (bexp b bs) r t p q n m h lt lu bn bm =
        let k : ℕ = numbers b s (filter_mode s) t in
        (own_alike b r t p q n m h lt lu (omega arith) (omega arith), owns_alike bs r t p q (n + k) (m + k) h (omega arith) (omega arith) (omega arith) (omega arith))

-- ---- conjuncts of conditions that are equal so

zip_append : (r : Renaming) (ps qs us vs : List PredTree) → Zip (Alike r) ps qs → Zip (Alike r) us vs → Zip (Alike r) (ps ++ us) (qs ++ vs)
zip_append r [] [] us vs h g = g
zip_append r [] (q ∷ qs) us vs h g = absurd h
zip_append r (p ∷ ps) [] us vs h g = absurd h
zip_append r (p ∷ ps) (q ∷ qs) us vs h g = (h.0, zip_append r ps qs us vs h.1 g)

mutual
  pub opened_alike : (r : Renaming) (p q : PredTree) → is_alike r p q ≡ true → Zip (Alike r) (opened p) (opened q)
  opened_alike r tree.always tree.always h = tt
  opened_alike r tree.never tree.never h = (h, tt)
  opened_alike r (tree.test e t es) (tree.test f u fs) h = (h, tt)
  opened_alike r (tree.negation p) (tree.negation q) h = (h, tt)
  opened_alike r (tree.all_of ps) (tree.all_of qs) h = all_opened_alike r ps qs h
  opened_alike r (tree.any_of ps) (tree.any_of qs) h = (h, tt)
  opened_alike r (tree.exists s) (tree.exists u) h = (h, tt)
  opened_alike r _ _ h = cc

  all_opened_alike : (r : Renaming) (ps qs : PredTrees) → are_alike r ps qs ≡ true → Zip (Alike r) (all_opened ps) (all_opened qs)
  all_opened_alike r tree.no_pred tree.no_pred h = tt
  all_opened_alike r (tree.pred p ps) (tree.pred q qs) h =
      let parts = and_parts (is_alike r p q) (are_alike r ps qs) h in
      zip_append r (opened p) (opened q) (all_opened ps) (all_opened qs) (opened_alike r p q parts.0) (all_opened_alike r ps qs parts.1)
  all_opened_alike r _ _ h = cc
