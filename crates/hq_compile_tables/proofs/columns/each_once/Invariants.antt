use Rattle.std.proofs.Common.{◌≡◌, [], drop}
use Rattle.hq_translation.specs.Looks.{add_all}
use Rattle.hq_compile_tables.proofs.columns.each_once.Given as goal

abbrev pub invariant-loop-column : goal.invariant-loop-column
invariant-loop-column l = add_all (drop l.column-index l.columns) l.once ≡ add_all l.columns []
