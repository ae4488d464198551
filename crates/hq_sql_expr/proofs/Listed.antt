-- Lists with a word between: what is read is spelled so, and what is spelled so is read.
use Rattle.std.proofs.Common.{◌≡◌, ℕ, zero, suc, ◌+◌, ◌<◌, ◌≤◌, List, [], ◌∷◌, ◌++◌, length, map, Some, None, refl, append_assoc, arith}
use Rattle.std.proofs.lemmas.List.{append-nil, length-append}
use Rattle.std.specs.List.{AllByRecursion}
use Rattle.hq_sql_tree.specs.declared.word.Word.{Word}
use Rattle.hq_sql_tree.specs.Word.{word_text}
use Rattle.hq_sql_tree.specs.Spelling.{each_after, separated}
use Rattle.hq_sql_expr.specs.Reading.{◌>>=◌, Reader, after, choose, many, all_many}
use Rattle.hq_sql_expr.proofs.Sound.{Sound, Spelled, sound_next, sound_last, sound_choose, sound_pure, sound_nothing, after_again}

-- one or more, each good
abbrev pub AllGood : {A : Type 0} → (A → Type 0) → List A → Type 0
AllGood Good [] = ⊥
AllGood Good (x ∷ xs) = Good x × AllByRecursion Good xs

module _ {A : Type 0} (item : Reader A) (w : Word) (spelled : A → List ℕ) (Good : A → Type 0) where
  abbrev pub list_text : List A → List ℕ
  list_text xs = separated w (map spelled xs)

  more : (x : A) → Good x → (xs : List A) → AllGood Good xs → Spelled list_text (AllGood Good) (spelled x ++ (word_text w ++ list_text xs)) (x ∷ xs)
  more x good [] all = absurd all
  more x good (y ∷ ys) all = (refl, (good, all))

  many_takes : Sound item (Spelled spelled Good) → (n : ℕ) → Sound (many item w n) (Spelled list_text (AllGood Good))
  unfolding many
  many_takes sound_item zero = sound_nothing (Spelled list_text (AllGood Good))
  many_takes sound_item (suc n) =
      sound_next item (λ x bytes. choose (after w bytes) (λ rest. many item w n rest >>= λ xs. Some (x ∷ xs.0, xs.1)) (Some (x ∷ [], bytes))) spelled Good (Spelled list_text (AllGood Good)) sound_item
      (λ x good. sound_choose w (λ rest. many item w n rest >>= λ xs. Some (x ∷ xs.0, xs.1)) (λ b ys. Spelled list_text (AllGood Good) (spelled x ++ b) ys)
      (sound_last (many item w n) (λ xs. x ∷ xs) list_text (AllGood Good) (λ b ys. Spelled list_text (AllGood Good) (spelled x ++ (word_text w ++ b)) ys) (more x good) (many_takes sound_item n))
      (λ bytes. Some (x ∷ [], bytes))
      (sound_pure (x ∷ []) (λ b ys. Spelled list_text (AllGood Good) (spelled x ++ b) ys) (refl, (good, tt))))

  pub all_many_takes : Sound item (Spelled spelled Good) → Sound (all_many item w) (Spelled list_text (AllGood Good))
  all_many_takes sound_item = record { takes = λ bytes. (many_takes sound_item (length bytes + 1)).takes bytes }

  module _ (Follows : List ℕ → Type 0)
      (item_again : (x : A) (rest : List ℕ) → Good x → Follows rest → item (spelled x ++ rest) ≡ Some (x, rest))
      (word_follows : (rest : List ℕ) → Follows (word_text w ++ rest)) (word_some : 0 < length (word_text w)) where
    many_again : (xs : List A) (x : A) (rest : List ℕ) (n : ℕ) → Good x → AllByRecursion Good xs → Follows rest → after w rest ≡ None → length xs < n
        → many item w n (list_text (x ∷ xs) ++ rest) ≡ Some (x ∷ xs, rest)
    unfolding many
    many_again xs x rest zero good all follows none h = absurd (omega arith)
    many_again [] x rest (suc n) good all follows none h = rw (append-nil (spelled x), item_again x rest good follows, none) refl
    many_again (y ∷ ys) x rest (suc n) good all follows none h =
        let later = list_text (y ∷ ys) ++ rest in
        let regrouped : list_text (x ∷ y ∷ ys) ++ rest ≡ spelled x ++ (word_text w ++ later) = simp append_assoc in
        rw (regrouped, item_again x (word_text w ++ later) good (word_follows later), after_again w later, many_again ys y rest n all.0 all.1 follows none (omega arith)) refl

    enough : (xs : List A) → length xs ≤ length (each_after w (map spelled xs))
    enough [] = omega arith
    enough (x ∷ xs) = omega (arith, enough xs, length-append (word_text w) (spelled x ++ each_after w (map spelled xs)), length-append (spelled x) (each_after w (map spelled xs)))

    pub all_many_again : (x : A) (xs : List A) (rest : List ℕ) → Good x → AllByRecursion Good xs → Follows rest → after w rest ≡ None
        → all_many item w (list_text (x ∷ xs) ++ rest) ≡ Some (x ∷ xs, rest)
    all_many_again x xs rest good all follows none =
        let size = enough xs in
        many_again xs x rest (length (list_text (x ∷ xs) ++ rest) + 1) good all follows none
        (omega (arith, size, length-append (list_text (x ∷ xs)) rest, length-append (spelled x) (each_after w (map spelled xs))))
