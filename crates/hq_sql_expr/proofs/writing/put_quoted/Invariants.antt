use Rattle.std.proofs.Common.{◌≡◌, ◌++◌, drop, ◌∷◌, []}
use Rattle.hq_sql_tree.specs.Spelling.{doubled}
use Rattle.hq_sql_expr.proofs.writing.put_quoted.Given as goal

abbrev pub invariant-loop-b : goal.invariant-loop-b
invariant-loop-b l = l.out.items ++ (doubled l.quote (drop l.b-index l.bytes) ++ l.quote ∷ []) ≡ l.initial.out.items ++ (doubled l.quote l.bytes ++ l.quote ∷ [])
