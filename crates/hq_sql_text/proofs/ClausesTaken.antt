-- Clauses that hold no select: what is read is spelled so.
use Rattle.std.proofs.Common.{◌≡◌, ℕ, zero, suc, ◌^◌, true, List, [], ◌∷◌, ◌++◌, map, Option, Some, None, refl, ap}
use Rattle.std.specs.Prelude.{nat_lt}
use Rattle.std.specs.List.{AllByRecursion}
use Rattle.std.specs.Fmt.{decimal}
use Rattle.hq_sql_tree.specs.declared.word.Word.{Word}
use Rattle.hq_sql_tree.specs.declared.word.Word.TheVariants as word
use Rattle.hq_sql_tree.specs.Word.{word_text}
use Rattle.hq_sql_tree.specs.Tree.{ExprTree}
use Rattle.hq_sql_tree.specs.Form.{is_count}
use Rattle.hq_sql_tree.specs.Spelling.{clause_text, distinct_text, number_text}
use Rattle.hq_sql_expr.specs.Reading.{◌>>=◌, Reader, below, all_many, number_at, closed_exprs}
use Rattle.hq_sql_expr.proofs.Sound.{Sound, Spelled, sound_last, sound_choose, sound_pure, sound_wider}
use Rattle.hq_sql_expr.proofs.Listed.{AllGood, list_text}
use Rattle.hq_sql_expr.proofs.Numbers.{number_takes}
use Rattle.hq_sql_expr.proofs.Closed.{FitsClosed, closed_list_text, closed_exprs_take}
use Rattle.hq_sql_text.specs.Reading.{clause_with, distinct_at, count_at}
use Rattle.hq_sql_text.proofs.Fits.{FitsDistinct}

-- ---- a list behind a word

module _ {A : Type 0} (first between : Word) (item : Reader A) (spelled : A → List ℕ) (Good : A → Type 0) where
  abbrev pub clause_spelled : List A → List ℕ
  clause_spelled xs = clause_text first between (map spelled xs)

  some_listed : (b : List ℕ) (xs : List A) → Spelled (list_text item between spelled Good) (AllGood Good) b xs → Spelled clause_spelled (AllByRecursion Good) (word_text first ++ b) xs
  some_listed b [] r = absurd r.1
  some_listed b (x ∷ xs) r = (ap (λ t. word_text first ++ t) r.0, r.1)

  pub clause_takes : Sound (all_many item between) (Spelled (list_text item between spelled Good) (AllGood Good))
      → Sound (clause_with first between item) (Spelled clause_spelled (AllByRecursion Good))
  clause_takes items_take =
      sound_choose first (λ rest. all_many item between rest) (Spelled clause_spelled (AllByRecursion Good))
      (sound_wider (all_many item between) (Spelled (list_text item between spelled Good) (AllGood Good))
      (λ b xs. Spelled clause_spelled (AllByRecursion Good) (word_text first ++ b) xs) some_listed items_take)
      (λ bytes. Some ([], bytes))
      (sound_pure [] (Spelled clause_spelled (AllByRecursion Good)) (refl, tt))

-- ---- DISTINCT ON

abbrev OneDistinct : ℕ → List ℕ → List ExprTree → Type 0
OneDistinct d = Spelled distinct_text (FitsDistinct d)

some_distinct : (d : ℕ) (b : List ℕ) (es : List ExprTree) → Spelled (closed_list_text word.CloseDistinct) (FitsClosed d) b es → OneDistinct d (word_text word.DistinctOn ++ b) es
some_distinct zero b es r = absurd r.1
some_distinct (suc d) b [] r = absurd r.1
some_distinct (suc d) b (e ∷ es) r = (ap (λ t. word_text word.DistinctOn ++ t) r.0, r.1)

pub distinct_takes : (d : ℕ) → Sound (distinct_at d) (OneDistinct d)
distinct_takes d =
    sound_choose word.DistinctOn (λ rest. below (closed_exprs word.CloseDistinct) d rest) (OneDistinct d)
    (sound_wider (below (closed_exprs word.CloseDistinct) d) (Spelled (closed_list_text word.CloseDistinct) (FitsClosed d))
    (λ b es. OneDistinct d (word_text word.DistinctOn ++ b) es) (some_distinct d) (closed_exprs_take word.CloseDistinct d))
    (λ bytes. Some ([], bytes))
    (sound_pure [] (OneDistinct d) (refl, tt))

-- ---- LIMIT and OFFSET

abbrev OneCount : Word → List ℕ → Option ℕ → Type 0
OneCount w = Spelled (number_text w) (λ n. is_count n ≡ true)

pub count_takes : (w : Word) → Sound (count_at w) (OneCount w)
count_takes w =
    sound_choose w (λ rest. number_at rest >>= λ n. Some (Some n.0, n.1)) (OneCount w)
    (sound_last number_at (λ n. Some n) decimal (λ n. nat_lt n (2 ^ 64) ≡ true) (λ b n. OneCount w (word_text w ++ b) n) (λ n is. (refl, is)) number_takes)
    (λ bytes. Some (None, bytes))
    (sound_pure None (OneCount w) (refl, refl))
