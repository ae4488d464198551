-- The first of some values whose word stands next.
use Rattle.std.proofs.Common.{ℕ, List, [], ◌∷◌, refl}
use Rattle.hq_sql_tree.specs.declared.word.Word.{Word}
use Rattle.hq_sql_tree.specs.Word.{word_text}
use Rattle.hq_sql_expr.specs.Reading.{first_word}
use Rattle.hq_sql_expr.proofs.Sound.{Sound, Spelled, sound_choose_end, sound_nothing}

module _ {A : Type 0} (word_of : A → Word) where
  -- what is read is spelled so
  abbrev OneWord : List ℕ → A → Type 0
  OneWord = Spelled (λ x. word_text (word_of x)) (λ x. Unit {0})

  pub first_word_takes : (xs : List A) → Sound (first_word word_of xs) OneWord
  first_word_takes [] = sound_nothing {A = A} OneWord
  first_word_takes (x ∷ xs) = sound_choose_end (word_of x) x OneWord (refl, tt) (first_word word_of xs) (first_word_takes xs)
