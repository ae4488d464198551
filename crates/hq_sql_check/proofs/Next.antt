-- The next item of a list that is gone over: tests of all, and what is found on the way.
use Rattle.std.proofs.Common.{◌≡◌, ◌∙◌, sym, ap, ℕ, ◌≤◌, List, [], ◌++◌, append_assoc, drop, length}
use Rattle.std.proofs.lemmas.List.{at_drop_all, append-nil}
pub use Rattle.hq_base.proofs.Loops.{piece_more, map_more as taken_more}

-- at the end of the list all is found
pub piece_end : {A B : Type 0} (F : List A → List B) (xs : List A) (i : ℕ) (found whole : List B) → F [] ≡ [] → length xs ≤ i → found ++ F (drop i xs) ≡ whole → found ≡ whole
piece_end F xs i found whole none over so_far = sym (append-nil found) ∙ ap (λ l. found ++ l) (sym (at_drop_all F xs i over ∙ none)) ∙ so_far

-- three pieces that were added one behind the other
pub three_pieces : {A : Type 0} (old first second third a b c : List A) → first ≡ old ++ a → second ≡ first ++ b → third ≡ second ++ c → third ≡ old ++ (a ++ (b ++ c))
three_pieces old first second third a b c f s t = rw (t, s, f) (simp append_assoc)
