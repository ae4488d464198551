use Rattle.std.proofs.Common.{◌≡◌, drop}
use Rattle.hq_sql_tree.specs.Word.{all_tests, test_word}
use Rattle.hq_sql_expr.specs.Reading.{first_word}
use Rattle.hq_sql_text.proofs.tested.test_of.Given as goal

-- the operator of none of those before stands here
abbrev pub invariant-loop-test : goal.invariant-loop-test
invariant-loop-test l = first_word test_word (drop l.test-index l.test-items) l.bytes ≡ first_word test_word all_tests l.bytes
