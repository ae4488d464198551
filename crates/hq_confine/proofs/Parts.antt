-- The faults of rows, part by part.
use Rattle.std.proofs.Common.{◌≡◌, ◌∙◌, ℕ, List, [], ◌∷◌, ◌++◌, Bool, Option, refl, sym, ap, ap₂, append_assoc}
use Rattle.hq_model.specs.Grants.{Grants}
use Rattle.hq_model.specs.Schema.{Schema}
use Rattle.hq_sql_tree.specs.Tree as tree
use Rattle.hq_sql_tree.specs.Tree.{ExprTree, OrderTree, OutTree, SelectTree, FromTree, JoinTrees, FilterTree, PredTree, orders_of}
use Rattle.hq_confine_rules.specs.Conjuncts.{conjuncts}
use Rattle.hq_confine_rules.specs.Faults.{outputs_of, from_shapes, joined_shapes, is_exempt, is_unordered, select_faults, from_faults, joins_faults, where_faults, worse, worst}
use Rattle.hq_confine_rules.specs.Origins.{Origin, Shapes, outputs}
use Rattle.hq_confine_rules.specs.Uses.{Fault, expr_faults, exprs_faults, outs_faults, orders_faults, shows_order}
use Rattle.hq_confine.specs.Parts.{inner_faults, scanned_faults}
use Rattle.hq_confine_uses.proofs.Worst.{worse_none, worst_append, worst_of_two}

module _ (s : Schema) (g : Grants) where
  -- the worst fault of a FROM is that of its select or of its scan
  from_parts : (around inside : Shapes) (all : List PredTree) (keys : List OrderTree) (unordered : Bool) (from : FromTree)
      → worse (worst (inner_faults s g around from)) (worst (scanned_faults s g inside all keys unordered from)) ≡ worst (from_faults s g around inside all keys unordered from)
  from_parts around inside all keys unordered (tree.table schema name alias) = refl
  from_parts around inside all keys unordered (tree.sub select alias) = worse_none (worst (inner_faults s g around (tree.sub select alias)))
  from_parts around inside all keys unordered (tree.one alias) = refl

  -- the worst fault of rows by those of their parts
  pub rows_fault : (scope inside : Shapes) (counts : Bool) (distinct : List ExprTree) (outs : List OutTree) (from : FromTree) (joins : JoinTrees) (condition : FilterTree)
      (keys : List OrderTree) (limit offset : Option ℕ)
      → (all : List PredTree) (front inner scanned joined kept sorted : Option Fault)
      → inside ≡ joined_shapes s g (from_shapes s g scope from) joins → all ≡ conjuncts condition
      → front ≡ worst (exprs_faults s g inside distinct ++ outs_faults s g inside outs) → inner ≡ worst (inner_faults s g scope from)
      → scanned ≡ worst (scanned_faults s g inside all keys (is_unordered counts distinct limit offset) from) → joined ≡ worst (joins_faults s g (from_shapes s g scope from) joins)
      → kept ≡ worst (where_faults s g inside (is_exempt s g inside all from) condition) → sorted ≡ worst (orders_faults s g inside 0 (orders_of keys))
      → worse front (worse (worse inner scanned) (worse joined (worse kept sorted))) ≡ worst (select_faults s g scope counts (tree.rows distinct outs from joins condition keys limit offset))
  rows_fault scope inside counts distinct outs from joins condition keys limit offset all front inner scanned joined kept sorted inside_is all_is a b c d e f =
      let unordered : Bool = is_unordered counts distinct limit offset in
      let A : List Fault = exprs_faults s g inside distinct in
      let B : List Fault = outs_faults s g inside outs in
      let C : List Fault = from_faults s g scope inside all keys unordered from in
      let D : List Fault = joins_faults s g (from_shapes s g scope from) joins in
      let E : List Fault = where_faults s g inside (is_exempt s g inside all from) condition in
      let F : List Fault = orders_faults s g inside 0 (orders_of keys) in
      let scan : worse inner scanned ≡ worst C = ap₂ worse b c ∙ from_parts scope inside all keys unordered from in
      let last : worse joined (worse kept sorted) ≡ worst (D ++ (E ++ F)) = worst_of_two joined (worse kept sorted) D (E ++ F) d (worst_of_two kept sorted E F e f) in
      let behind : worse (worse inner scanned) (worse joined (worse kept sorted)) ≡ worst (C ++ (D ++ (E ++ F))) =
      worst_of_two (worse inner scanned) (worse joined (worse kept sorted)) C (D ++ (E ++ F)) scan last in
      worst_of_two front (worse (worse inner scanned) (worse joined (worse kept sorted))) (A ++ B) (C ++ (D ++ (E ++ F))) a behind
      ∙ ap worst (append_assoc A B (C ++ (D ++ (E ++ F))))
      ∙ ap₂ (λ (i : Shapes) (l : List PredTree). worst
      (exprs_faults s g i distinct ++
      (outs_faults s g i outs ++
      (from_faults s g scope i l keys unordered from ++
      (joins_faults s g (from_shapes s g scope from) joins ++ (where_faults s g i (is_exempt s g i l from) condition ++ orders_faults s g i 0 (orders_of keys))))))) inside_is all_is

  -- the worst fault of a fold by those of its output and of its rows
  pub fold_fault : (scope : Shapes) (counts : Bool) (out : OutTree) (inner : SelectTree) (alias : List ℕ) (os : List (List ℕ × Origin)) (shown : Bool) (fault within : Option Fault)
      → os ≡ outputs_of s g scope inner → shown ≡ shows_order out.value → fault ≡ worse (worst (expr_faults s g ((alias, outputs os) ∷ scope) out.value)) within
      → within ≡ worst (select_faults s g scope shown inner)
      → fault ≡ worst (select_faults s g scope counts (tree.fold out inner alias))
  fold_fault scope counts out inner alias os shown fault within os_is shown_is is within_is =
      is
      ∙ ap₂ worse (ap (λ (l : List (List ℕ × Origin)). worst (expr_faults s g ((alias, outputs l) ∷ scope) out.value)) os_is)
      (within_is ∙ ap (λ (b : Bool). worst (select_faults s g scope b inner)) shown_is)
      ∙ sym (worst_append (expr_faults s g ((alias, outputs (outputs_of s g scope inner)) ∷ scope) out.value) (select_faults s g scope (shows_order out.value) inner))
