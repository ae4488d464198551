-- One parenthesis further in.
use Rattle.std.proofs.Common.{◌≡◌, ℕ, zero, suc, ◌-◌, ◌<◌, List, refl, ap, ◌∙◌}
use Rattle.hq_sql_expr.specs.Reading.{below}
use Rattle.hq_sql_expr.proofs.Below.{below_is}
use Rattle.hq_sql_text.specs.Reading.{inside_at, inside_with, pred_at, pred_with, select_at, select_with}

pub pred_is : (d : ℕ) → pred_at d ≡ pred_with (below inside_at d) (below select_at d)
unfolding pred_at
pred_is zero = refl
pred_is (suc d) = refl

pub select_is : (d : ℕ) → select_at d ≡ select_with d (below select_at d) (pred_with (below inside_at d) (below select_at d))
unfolding select_at
select_is zero = refl
select_is (suc d) = refl

pub select_below_is : (d : ℕ) (bytes : List ℕ) → 0 < d → below select_at d bytes ≡ select_with (d - 1) (below select_at (d - 1)) (pred_with (below inside_at (d - 1)) (below select_at (d - 1))) bytes
select_below_is d bytes lt = below_is select_at d bytes lt ∙ ap (λ s. s bytes) (select_is (d - 1))

pub inside_below_is : (d : ℕ) (bytes : List ℕ) → 0 < d → below inside_at d bytes ≡ inside_with (d - 1) (pred_with (below inside_at (d - 1)) (below select_at (d - 1))) bytes
inside_below_is d bytes lt = below_is inside_at d bytes lt ∙ ap (λ p. inside_with (d - 1) p bytes) (pred_is (d - 1))
