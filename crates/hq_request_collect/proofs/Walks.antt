-- Walks that stop where nothing more may come: `here` has the nodes of an item, `F` those of all of a list.
use Rattle.std.proofs.Common.{◌≡◌, ◌∙◌, sym, ap, ℕ, ◌+◌, ◌<◌, length, drop, get_or, List, ◌∷◌, Option, Some, None}
use Rattle.std.proofs.lemmas.List.{at_drop_more}
use Rattle.hq_request_collect.specs.Size.{less}
use Rattle.hq_request_collect.proofs.Less.{less_then, less_stops}

module _ {A : Type 0} (here : A → ℕ) (F : List A → ℕ) (first : (x : A) (xs : List A) → F (x ∷ xs) ≡ here x + F xs) where
  -- what may come behind an item and the others
  at_place : (xs : List A) (i : ℕ) (x : A) (now : ℕ) → i < length xs → x ≡ get_or xs i x → less (F (drop i xs)) now ≡ less (here x + F (drop (i + 1) xs)) now
  at_place xs i x now below is =
      ap (λ n. less n now) (at_drop_more F xs i x below ∙ ap (λ y. F (y ∷ drop (i + 1) xs)) (sym is) ∙ first x (drop (i + 1) xs))

  -- an item is counted, and the walk goes on behind it
  pub counts_on : (xs : List A) (i : ℕ) (x : A) (now k : ℕ) (whole : Option ℕ) → whole ≡ less (F (drop i xs)) now → i < length xs → x ≡ get_or xs i x
      → less (here x) now ≡ Some k → whole ≡ less (F (drop (i + 1) xs)) k
  counts_on xs i x now k whole so_far below is given =
      so_far ∙ at_place xs i x now below is ∙ less_then (here x) (F (drop (i + 1) xs)) now k given

  -- an item is too much, and so are all
  pub counts_out : (xs : List A) (i : ℕ) (x : A) (now : ℕ) (whole : Option ℕ) → whole ≡ less (F (drop i xs)) now → i < length xs → x ≡ get_or xs i x
      → less (here x) now ≡ None → whole ≡ None
  counts_out xs i x now whole so_far below is given =
      so_far ∙ at_place xs i x now below is ∙ less_stops (here x) (F (drop (i + 1) xs)) now given
