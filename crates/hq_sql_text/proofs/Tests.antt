-- Tests by their operators. Each fact is computed for each test; that of a comparison and that of LIKE are opened by clauses of their
-- own, so that the last clause goes over all others.
use Rattle.std.proofs.Common.{◌≡◌, ℕ, false, List, ◌++◌, Some, None, refl}
use Rattle.hq_model.specs.declared.test.Test.{Test}
use Rattle.hq_model.specs.declared.test.Test.TheVariants as test
use Rattle.hq_model.specs.declared.op.Op.TheVariants as op
use Rattle.hq_sql_tree.specs.Word.{word_text, all_tests, test_word}
use Rattle.hq_sql_expr.specs.Reading.{after, cast_form_at}
use Rattle.hq_sql_expr.proofs.Again as expressions
use Rattle.hq_sql_expr.proofs.Sound.{Sound, Spelled}
use Rattle.hq_sql_expr.proofs.Words.{first_word_takes}
use Rattle.hq_sql_text.specs.Reading.{joint_next, test_at}

-- what is read is spelled so
pub test_at_takes : Sound test_at (Spelled (λ t. word_text (test_word t)) (λ t. Unit {0}))
unfolding test_at
test_at_takes = first_word_takes test_word all_tests

-- what may follow the value of a test: it goes on neither as an expression nor as a member of AND or OR
abbrev pub Asks : List ℕ → Type 0
Asks rest = expressions.Ends rest × (joint_next rest ≡ false)

pub test_asks : (t : Test) (rest : List ℕ) → Asks (word_text (test_word t) ++ rest)
unfolding word_text after
test_asks (test.Compare op.Eq) rest = ((refl, refl), refl)
test_asks (test.Like false) rest = ((refl, refl), refl)
test_asks _ rest = ((refl, refl), refl)

-- and it does not tell that a column is written by its text
pub test_no_cast : (t : Test) (rest : List ℕ) → cast_form_at (word_text (test_word t) ++ rest) ≡ None
unfolding word_text after
test_no_cast (test.Compare op.Eq) rest = refl
test_no_cast (test.Like false) rest = refl
test_no_cast _ rest = refl

-- what is spelled so is read again
pub test_again : (t : Test) (rest : List ℕ) → test_at (word_text (test_word t) ++ rest) ≡ Some (t, rest)
unfolding test_at word_text after
test_again (test.Compare op.Eq) rest = refl
test_again (test.Like false) rest = refl
test_again _ rest = refl
