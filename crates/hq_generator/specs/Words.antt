-- Words of the program.
use Rattle.std.specs.Borrow.{Bor}
use Rattle.std.specs.Prelude.{ℕ, List, Bool, not}
use Rattle.hq_base.specs.Text.{has_zero}

abbrev pub word_text : Bor (List ℕ) → List ℕ
word_text word = word.now

-- a word without a zero byte
abbrev pub is_clean : Bor (List ℕ) → Bool
is_clean word = not (has_zero word.now)
