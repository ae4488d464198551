-- The join of a mask, part by part.
use Rattle.std.proofs.Common.{◌≡◌, ℕ, List, [], ◌∷◌, length, Bool, true, false, cond, ◌&&◌, ◌==◌, Option, Some, None, is_none, bytes_eq, refl, sym, ap, ◌∙◌, subst}
use Rattle.std.specs.List.{list_all}
use Rattle.std.proofs.lemmas.Bool.{and_parts}
use Rattle.hq_model.specs.Grants.{Grants, grant}
use Rattle.hq_model.specs.Schema.{Schema}
use Rattle.hq_sql_tree.specs.declared.expr.ColumnForm.{ColumnForm}
use Rattle.hq_sql_tree.specs.Tree as tree
use Rattle.hq_sql_tree.specs.Tree.{ExprTree, OutTree, SelectTree, FromTree, FilterTree, PredTree}
use Rattle.hq_sql_tree.specs.Form.{is_one, is_no_join}
use Rattle.hq_confine_rules.specs.Conjuncts.{conjuncts}
use Rattle.hq_confine_rules.specs.Members.{is_one_of, stand_among, mask_conjuncts, has_mask, is_permitted, shows_masked, shows_in, shows_one, shows_only, is_mask_join}
use Rattle.hq_confine_rules.specs.Origins.{Shape, scan, outputs, Shapes, shape_at, column_place}
use Rattle.hq_confine_rules.specs.Renamed.{alias_of}
use Rattle.hq_confine_rules.proofs.Alike.{nil_is, none_is, no_join_is}

-- rows over One with a masked column of a scan in scope
pub record MaskForm (s : Schema) (g : Grants) (scope : Shapes) (q : SelectTree) : Type 0 where
  pub one : List ℕ
  pub alias : List ℕ
  pub name : List ℕ
  pub form : ColumnForm
  pub out : List ℕ
  pub condition : FilterTree
  pub t : ℕ
  pub c : ℕ
  pub is : q ≡ tree.rows [] (record { value = tree.column alias name form; name = out } ∷ []) (tree.one one) tree.no_join condition [] None None
  pub other : bytes_eq one alias ≡ false
  pub at : shape_at scope alias ≡ scan t
  pub column : column_place s t name ≡ Some c
  pub permitted : is_permitted (grant g t) c ≡ true
  pub stand : stand_among (conjuncts condition) (mask_conjuncts s g t c) alias ≡ true
  pub ones : list_all (is_one_of (mask_conjuncts s g t c) alias) (conjuncts condition) ≡ true

module _ (s : Schema) (g : Grants) (scope : Shapes) where
  -- its parts but the rows
  record Shown (one alias name : List ℕ) (condition : FilterTree) : Type 0 where
    t : ℕ
    c : ℕ
    other : bytes_eq one alias ≡ false
    at : shape_at scope alias ≡ scan t
    column : column_place s t name ≡ Some c
    permitted : is_permitted (grant g t) c ≡ true
    stand : stand_among (conjuncts condition) (mask_conjuncts s g t c) alias ≡ true
    ones : list_all (is_one_of (mask_conjuncts s g t c) alias) (conjuncts condition) ≡ true

  shown_of : (one alias name : List ℕ) (condition : FilterTree) → shows_in s g alias name (conjuncts condition) (shape_at ((one, outputs []) ∷ scope) alias) ≡ true → Shown one alias name condition
  shown_of one alias name condition h =
      let all : List PredTree = conjuncts condition in
      let columns : (t : ℕ) (o : Option ℕ) → bytes_eq one alias ≡ false → shape_at scope alias ≡ scan t → column_place s t name ≡ o
      → shows_masked s g alias all t o ≡ true → Shown one alias name condition =
      λ t. elim [
        | None ↦ λ ne e q k. cc
        | Some c ↦ λ ne e q k.
            let three =
            and_parts (is_permitted (grant g t) c && has_mask (grant g t) c && stand_among all (mask_conjuncts s g t c) alias)
            (list_all (is_one_of (mask_conjuncts s g t c) alias) all) k in
            let two = and_parts (is_permitted (grant g t) c && has_mask (grant g t) c) (stand_among all (mask_conjuncts s g t c) alias) three.0 in
            let one_part = and_parts (is_permitted (grant g t) c) (has_mask (grant g t) c) two.0 in
            record { t = t; c = c; other = ne; at = e; column = q; permitted = one_part.0; stand = two.1; ones = three.1 }
      ] in
      let shapes : (sh : Shape) → bytes_eq one alias ≡ false → shape_at scope alias ≡ sh → shows_in s g alias name all sh ≡ true → Shown one alias name condition =
      elim [ scan t ↦ λ ne e k. columns t (column_place s t name) ne e refl k | outputs os ↦ λ ne e k. cc ] in
      let go : (b : Bool) → bytes_eq one alias ≡ b → shows_in s g alias name all (cond b (outputs []) (shape_at scope alias)) ≡ true → Shown one alias name condition =
      elim [ true ↦ λ e k. cc | false ↦ λ e k. shapes (shape_at scope alias) e refl k ] in
      go (bytes_eq one alias) refl h

  pub mask_form : (q : SelectTree) → is_mask_join s g scope q ≡ true → MaskForm s g scope q
  mask_form (tree.fold out inner alias) h = cc
  mask_form (tree.rows distinct outs from joins condition keys limit offset) h =
      let all : List PredTree = conjuncts condition in
      let f =
      and_parts ((length distinct == 0) && is_one from && is_no_join joins && (length keys == 0) && is_none limit && is_none offset)
      (shows_only s g ((alias_of from, outputs []) ∷ scope) all outs) h in
      let e = and_parts ((length distinct == 0) && is_one from && is_no_join joins && (length keys == 0) && is_none limit) (is_none offset) f.0 in
      let d = and_parts ((length distinct == 0) && is_one from && is_no_join joins && (length keys == 0)) (is_none limit) e.0 in
      let c = and_parts ((length distinct == 0) && is_one from && is_no_join joins) (length keys == 0) d.0 in
      let b = and_parts ((length distinct == 0) && is_one from) (is_no_join joins) c.0 in
      let a = and_parts (length distinct == 0) (is_one from) b.0 in
      let bare : tree.rows distinct outs from joins condition keys limit offset ≡ tree.rows [] outs from tree.no_join condition [] None None =
      ap (λ x. tree.rows x outs from joins condition keys limit offset) (nil_is distinct a.0) ∙ ap (λ x. tree.rows [] outs from x condition keys limit offset) (no_join_is joins b.1)
      ∙ ap (λ x. tree.rows [] outs from tree.no_join condition x limit offset) (nil_is keys c.1) ∙ ap (λ x. tree.rows [] outs from tree.no_join condition [] x offset) (none_is limit d.1)
      ∙ ap (λ x. tree.rows [] outs from tree.no_join condition [] None x) (none_is offset e.1) in
      let values : (one : List ℕ) (out : List ℕ) (v : ExprTree) → shows_one s g ((one, outputs []) ∷ scope) all v ≡ true
      → MaskForm s g scope (tree.rows [] (record { value = v; name = out } ∷ []) (tree.one one) tree.no_join condition [] None None) =
      λ one out. elim [
        | tree.column alias name form ↦ λ k.
            let x = shown_of one alias name condition k in
            record {
              one = one;
              alias = alias;
              name = name;
              form = form;
              out = out;
              condition = condition;
              t = x.t;
              c = x.c;
              is = refl;
              other = x.other;
              at = x.at;
              column = x.column;
              permitted = x.permitted;
              stand = x.stand;
              ones = x.ones;
            }
        | tree.int n ↦ λ k. cc
        | tree.text n ↦ λ k. cc
        | tree.uuid n ↦ λ k. cc
        | tree.bool n ↦ λ k. cc
        | tree.object ps ↦ λ k. cc
        | tree.aggregate n ↦ λ k. cc
      ] in
      let listed : (one : List ℕ) (os : List OutTree) → shows_only s g ((one, outputs []) ∷ scope) all os ≡ true
      → MaskForm s g scope (tree.rows [] os (tree.one one) tree.no_join condition [] None None) =
      λ one. elim [
        | [] ↦ λ k. cc
        | o ∷ os ↦
            (let more : (rest : List OutTree) → shows_only s g ((one, outputs []) ∷ scope) all (o ∷ rest) ≡ true
            → MaskForm s g scope (tree.rows [] (o ∷ rest) (tree.one one) tree.no_join condition [] None None) =
            elim [ [] ↦ λ k. values one o.name o.value k | p ∷ ps ↦ λ k. cc ] in
            more os)
      ] in
      let sources : (x : FromTree) → is_one x ≡ true → shows_only s g ((alias_of x, outputs []) ∷ scope) all outs ≡ true
      → MaskForm s g scope (tree.rows [] outs x tree.no_join condition [] None None) =
      elim [ tree.table schema name alias ↦ λ q k. cc | tree.sub q alias ↦ λ e k. cc | tree.one alias ↦ λ q k. listed alias outs k ] in
      subst (MaskForm s g scope) (sym bare) (sources from a.1 f.1)
