-- Texts of aggregates: what they begin with. Each fact is computed for each aggregate; one has a clause of its own, so that the last
-- clause goes over all others.
use Rattle.std.proofs.Common.{◌≡◌, ℕ, ◌≤◌, Bool, true, false, ◌&&◌, not, List, ◌∷◌, ◌++◌, Some, None, refl, arith, lit≤}
use Rattle.std.specs.Prelude.{◌==◌, nat_lt}
use Rattle.std.proofs.lemmas.Bool.{ne_eqb, ltb-true}
use Rattle.hq_base.specs.declared.aggregate.Aggregate.{Aggregate}
use Rattle.hq_base.specs.declared.aggregate.Aggregate.TheVariants.{Max}
use Rattle.hq_sql_tree.specs.Word.{word_text, aggregate_word}
use Rattle.hq_sql_tree.specs.Tree as tree
use Rattle.hq_sql_tree.specs.Tree.{ExprTree, AggTree}
use Rattle.hq_sql_tree.specs.Spelling.{expr_text}
use Rattle.hq_sql_expr.specs.declared.head.Head.{Head}
use Rattle.hq_sql_expr.specs.declared.head.Head.TheVariants as head
use Rattle.hq_sql_expr.specs.Reading.{◌>>=◌, Reader, after, strip, head_at, expr_with}
use Rattle.hq_sql_expr.proofs.Form.{and_both}

-- the words of aggregates over a column's values, each read as its own
pub head_taken : (a : Aggregate) (rest : List ℕ) → head_at (word_text (aggregate_word a) ++ rest) ≡ Some (head.Take a, rest)
unfolding head_at after word_text
head_taken Max rest = refl
head_taken _ rest = refl

pub with_taken : (inside : Head → Reader ExprTree) (a : Aggregate) (rest : List ℕ)
    → expr_with inside (word_text (aggregate_word a) ++ rest) ≡ (head_at (word_text (aggregate_word a) ++ rest) >>= λ x. inside x.0 x.1)
unfolding expr_with after word_text
with_taken inside Max rest = refl
with_taken inside _ rest = refl

-- a byte that no text of an aggregate begins with: neither a small letter nor the C of COALESCE
abbrev is_apart : ℕ → Bool
is_apart c = nat_lt c 97 && not (67 == c)

other_byte : (b c : ℕ) (t w : List ℕ) → (b == c) ≡ false → strip (c ∷ w) (b ∷ t) ≡ None
other_byte b c t w e = rw e refl

small_letter : (b c : ℕ) (t w : List ℕ) → 97 ≤ b → is_apart c ≡ true → strip (c ∷ w) (b ∷ t) ≡ None
small_letter b c t w small apart =
    let below = ltb-true c 97 (and_both (nat_lt c 97) (not (67 == c)) apart).0 in
    other_byte b c t w (ne_eqb b c (λ e. absurd (omega arith)))

not_true : (b : Bool) → not b ≡ true → b ≡ false
not_true true e = absurd cc
not_true false e = refl

-- so it is followed by no such text
pub agg_apart : (a : AggTree) (c : ℕ) (w rest : List ℕ) → is_apart c ≡ true → strip (c ∷ w) (expr_text (tree.aggregate a) ++ rest) ≡ None
unfolding word_text
agg_apart tree.count_all c w rest apart = small_letter 99 c _ w (lit≤ tt) apart
agg_apart (tree.count e true) c w rest apart = small_letter 99 c _ w (lit≤ tt) apart
agg_apart (tree.count e false) c w rest apart = small_letter 99 c _ w (lit≤ tt) apart
agg_apart (tree.take Max e) c w rest apart = small_letter _ c _ w (lit≤ tt) apart
agg_apart (tree.take _ e) c w rest apart = small_letter _ c _ w (lit≤ tt) apart
agg_apart (tree.json_agg e os) c w rest apart = other_byte 67 c _ w (not_true (67 == c) (and_both (nat_lt c 97) (not (67 == c)) apart).1)
