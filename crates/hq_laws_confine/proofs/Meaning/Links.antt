-- A whole link is true of rows exactly where they are linked.
use Rattle.std.proofs.Common.{◌≡◌, ℕ, List, [], ◌∷◌, Bool, true, false, ◌&&◌, ◌||◌, Option, Some, None, bytes_eq, refl, sym, ap, ap₂, ◌∙◌}
use Rattle.std.specs.List.{list_all, list_any}
use Rattle.std.proofs.lemmas.Bool.{and_parts}
use Rattle.std.proofs.lemmas.Slice.Eq.{bytes_eq-Decides}
use Rattle.hq_model.specs.Database.{Row}
use Rattle.hq_model.specs.Logic.{is_true, equal}
use Rattle.hq_model.specs.Schema.{Schema, table}
use Rattle.hq_model.specs.Seen.{linked_by, row_cell}
use Rattle.hq_model.specs.declared.meta.Pair.{Pair}
use Rattle.hq_model.specs.declared.op.Op.TheVariants.{Eq}
use Rattle.hq_model.specs.declared.test.Test.TheVariants.{Compare}
use Rattle.hq_sql_tree.specs.Tree as tree
use Rattle.hq_sql_tree.specs.Tree.{ExprTree, PredTree}
use Rattle.hq_sql_tree.specs.Meaning.{cell_named, Scope, World, nothing, named_row, truth_at}
use Rattle.hq_translation.specs.Looks.{name_of}
use Rattle.hq_translation.specs.Names.{table_alias}
use Rattle.hq_translation.proofs.Names.{Differ, Narrow, with_alias_same, shows_row}
use Rattle.hq_confine_rules.specs.Members.{Equation, equation_between, equation, is_equation_of, is_for_pair}
use Rattle.hq_confine_rules.proofs.Alike.{is_so}

some_is : {A : Type 0} (x y : A) → Some x ≡ Some y → x ≡ y
some_is x y h = cc

-- the truth of an equation
abbrev pub equation_truth : Equation → Scope → PredTree → World → Type 0
equation_truth q x c w = truth_at c w x ≡ equal (cell_named (x q.remote_alias) q.remote_name) (cell_named (x q.own_alias) q.own_name)

between_truth : (v : ExprTree) (es : List ExprTree) (q : Equation) → equation_between v es ≡ Some q → (w : World) (x : Scope) → equation_truth q x (tree.test v (Compare Eq) es) w
between_truth (tree.column a n form) (tree.column b m other ∷ []) q h w x =
    let found : Equation = record { remote_alias = a; remote_name = n; own_alias = b; own_name = m } in
    let is : found ≡ q = some_is found q h in
    ap (λ (z : Equation). equal (cell_named (x z.remote_alias) z.remote_name) (cell_named (x z.own_alias) z.own_name)) is
between_truth _ _ q h w x = cc

pub equation_means : (c : PredTree) (q : Equation) → equation c ≡ Some q → (w : World) (x : Scope) → equation_truth q x c w
equation_means (tree.test v (Compare Eq) es) q h w x = between_truth v es q h w x
equation_means _ q h w x = cc

-- a column under its name
name_cell : (s : Schema) (t : ℕ) (row : Row) (c : ℕ) → Differ (table s t).columns → Narrow s t row → cell_named (named_row (table s t).columns row) (name_of (table s t).columns c) ≡ row_cell row c
name_cell s t row c differ narrow =
    ap (λ r. cell_named r (name_of (table s t).columns c)) (sym (with_alias_same nothing (table_alias 0) (named_row (table s t).columns row))) ∙ shows_row s nothing t 0 row differ narrow c

module _ (s : Schema) (w : World) (t u : ℕ) (a b : List ℕ) (far own : Row) (x : Scope) (far_at : x a ≡ named_row (table s t).columns far) (own_at : x b ≡ named_row (table s u).columns own)
    (far_cells : (c : ℕ) → cell_named (named_row (table s t).columns far) (name_of (table s t).columns c) ≡ row_cell far c)
    (own_cells : (c : ℕ) → cell_named (named_row (table s u).columns own) (name_of (table s u).columns c) ≡ row_cell own c) where
  -- the equation of a pair
  pair_means : (c : PredTree) (q : Equation) → equation c ≡ Some q → (p : Pair) → is_equation_of s t u a b p q ≡ true → is_so w x c ≡ is_true (equal (row_cell far p.remote) (row_cell own p.own))
  pair_means c q h p k =
      let four =
      and_parts (bytes_eq q.remote_alias a && bytes_eq q.own_alias b && bytes_eq (name_of (table s t).columns p.remote) q.remote_name)
      (bytes_eq (name_of (table s u).columns p.own) q.own_name) k in
      let three = and_parts (bytes_eq q.remote_alias a && bytes_eq q.own_alias b) (bytes_eq (name_of (table s t).columns p.remote) q.remote_name) four.0 in
      let two = and_parts (bytes_eq q.remote_alias a) (bytes_eq q.own_alias b) three.0 in
      let at_a : q.remote_alias ≡ a = (bytes_eq-Decides q.remote_alias a).0 two.0 in
      let at_b : q.own_alias ≡ b = (bytes_eq-Decides q.own_alias b).0 two.1 in
      let far_name : name_of (table s t).columns p.remote ≡ q.remote_name = (bytes_eq-Decides (name_of (table s t).columns p.remote) q.remote_name).0 three.1 in
      let own_name : name_of (table s u).columns p.own ≡ q.own_name = (bytes_eq-Decides (name_of (table s u).columns p.own) q.own_name).0 four.1 in
      let left : cell_named (x q.remote_alias) q.remote_name ≡ row_cell far p.remote =
      ap₂ (λ i n. cell_named (x i) n) at_a (sym far_name) ∙ ap (λ r. cell_named r (name_of (table s t).columns p.remote)) far_at
      ∙ far_cells p.remote in
      let right : cell_named (x q.own_alias) q.own_name ≡ row_cell own p.own =
      ap₂ (λ i n. cell_named (x i) n) at_b (sym own_name) ∙ ap (λ r. cell_named r (name_of (table s u).columns p.own)) own_at
      ∙ own_cells p.own in
      ap is_true (equation_means c q h w x ∙ ap₂ equal left right)

  found_pair : (p : Pair) (all : List PredTree) → list_any (λ c. is_for_pair s t u a b p (equation c)) all ≡ true
      → list_all (is_so w x) all ≡ true → is_true (equal (row_cell far p.remote) (row_cell own p.own)) ≡ true
  found_pair p [] f h = cc
  found_pair p (c ∷ all) f h =
      let parts = and_parts (is_so w x c) (list_all (is_so w x) all) h in
      let here : (o : Option Equation) → equation c ≡ o → is_for_pair s t u a b p o ≡ true → is_true (equal (row_cell far p.remote) (row_cell own p.own)) ≡ true =
      elim [ None ↦ λ e k. cc | Some q ↦ λ e k. sym (pair_means c q e p k) ∙ parts.0 ] in
      let go : (d : Bool) → is_for_pair s t u a b p (equation c) ≡ d
      → (d || list_any (λ y. is_for_pair s t u a b p (equation y)) all) ≡ true
      → is_true (equal (row_cell far p.remote) (row_cell own p.own)) ≡ true =
      elim [ true ↦ λ e g. here (equation c) refl e | false ↦ λ e g. found_pair p all g parts.1 ] in
      go (is_for_pair s t u a b p (equation c)) refl f

  -- where all conjuncts are true, and each pair has its equation among them, the rows are linked
  pub linked_so : (ps : List Pair) (all : List PredTree)
      → list_all (λ p. list_any (λ c. is_for_pair s t u a b p (equation c)) all) ps ≡ true → list_all (is_so w x) all ≡ true
      → linked_by ps own far ≡ true
  linked_so [] all f h = refl
  linked_so (p ∷ ps) all f h =
      let parts = and_parts (list_any (λ c. is_for_pair s t u a b p (equation c)) all) (list_all (λ y. list_any (λ c. is_for_pair s t u a b y (equation c)) all) ps) f in
      let here : is_true (equal (row_cell far p.remote) (row_cell own p.own)) ≡ true = found_pair p all parts.0 h in
      rw here (linked_so ps all parts.1 h)

  -- and where they are, the equation of each pair is true
  pub so_linked : (ps : List Pair) (c : PredTree) (q : Equation) → equation c ≡ Some q → list_any (λ p. is_equation_of s t u a b p q) ps ≡ true → linked_by ps own far ≡ true → is_so w x c ≡ true
  so_linked [] c q e f h = cc
  so_linked (p ∷ ps) c q e f h =
      let parts = and_parts (is_true (equal (row_cell far p.remote) (row_cell own p.own))) (linked_by ps own far) h in
      let go : (d : Bool) → is_equation_of s t u a b p q ≡ d → (d || list_any (λ y. is_equation_of s t u a b y q) ps) ≡ true → is_so w x c ≡ true =
      elim [ true ↦ λ k g. pair_means c q e p k ∙ parts.0 | false ↦ λ k g. so_linked ps c q e g parts.1 ] in
      go (is_equation_of s t u a b p q) refl f

-- the cells of a row of a table whose names differ
pub row_names : (s : Schema) (t : ℕ) (row : Row) → Differ (table s t).columns → Narrow s t row → (c : ℕ)
    → cell_named (named_row (table s t).columns row) (name_of (table s t).columns c) ≡ row_cell row c
row_names s t row differ narrow c = name_cell s t row c differ narrow
