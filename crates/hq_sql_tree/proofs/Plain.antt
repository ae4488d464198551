-- The form of a statement, part by part.
use Rattle.std.proofs.Common.{◌≡◌, refl, List, [], ◌∷◌, length, ◌==◌, Option, Some, None, is_none, false, ◌&&◌, ℕ, arith}
use Rattle.std.proofs.lemmas.Bool.{ne_eqb}
use Rattle.hq_sql_tree.specs.Tree as tree
use Rattle.hq_sql_tree.specs.Tree.{ExprTree, OutTree, FromTree, JoinTrees, FilterTree, OrderTree}
use Rattle.hq_sql_tree.specs.Form.{is_no_filter}
use Rattle.hq_sql_tree.specs.WellFormed.{is_object_output, is_statement_form}
use Rattle.hq_sql_tree.specs.Form.{is_one}

pub plain_form : (distinct : List ExprTree) (outs : List OutTree) (from : FromTree) (joins : JoinTrees) (condition : FilterTree) (keys : List OrderTree) (limit offset : Option ℕ)
    → is_statement_form (tree.rows distinct outs from joins condition keys limit offset)
    ≡ (is_one from && is_no_filter condition && (length keys == 0) && is_none limit && is_none offset && is_object_output outs)
plain_form distinct outs (tree.table schema name alias) joins condition keys limit offset = refl
plain_form distinct outs (tree.sub s alias) joins condition keys limit offset = refl
plain_form distinct outs (tree.one alias) joins (tree.filter p) keys limit offset = refl
plain_form distinct outs (tree.one alias) joins tree.no_filter (k ∷ ks) limit offset =
    let some : (length (k ∷ ks) == 0) ≡ false = ne_eqb (length (k ∷ ks)) 0 (λ e. absurd (omega arith)) in rw some refl
plain_form distinct outs (tree.one alias) joins tree.no_filter [] (Some n) offset = refl
plain_form distinct outs (tree.one alias) joins tree.no_filter [] None (Some n) = refl
plain_form distinct outs (tree.one alias) joins tree.no_filter [] None None = refl
