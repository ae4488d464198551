-- A list that is written member by member.
use Rattle.std.specs.Prelude.{ℕ, zero, suc, List, []}
use Rattle.hq_sql_tree.specs.declared.word.Word.{Word}
use Rattle.hq_sql_tree.specs.Word.{word_text}

-- what stands before the member at this index
abbrev pub before : Word → (index : ℕ) → List ℕ
before w zero = []
before w (suc i) = word_text w
