-- One parenthesis further in.
use Rattle.std.proofs.Common.{◌≡◌, ℕ, zero, suc, ◌-◌, ◌<◌, List, refl, ap, arith, sym, ◌∙◌}
use Rattle.hq_sql_expr.specs.declared.head.Head.{Head}
use Rattle.hq_sql_expr.specs.Reading.{Reader, below, expr_at, expr_with, ordered_at, ordered_with, inside_at, inside_with, listed_at}

pub below_is : {A : Type 0} (p : ℕ → Reader A) (d : ℕ) (bytes : List ℕ) → 0 < d → below p d bytes ≡ p (d - 1) bytes
below_is p zero bytes lt = absurd (omega arith)
below_is p (suc d) bytes lt = let e : suc d - 1 ≡ d = omega arith in ap (λ k. p k bytes) (sym e)

pub expr_is : (d : ℕ) → expr_at d ≡ expr_with (λ h. below (inside_at h) d)
unfolding expr_at
expr_is zero = refl
expr_is (suc d) = refl

pub ordered_is : (d : ℕ) → ordered_at d ≡ below listed_at d
unfolding ordered_at
ordered_is zero = refl
ordered_is (suc d) = refl

pub inside_below_is : (h : Head) (d : ℕ) (bytes : List ℕ) → 0 < d → below (inside_at h) d bytes ≡ inside_with (expr_with (λ g. below (inside_at g) (d - 1))) (below listed_at (d - 1)) h bytes
inside_below_is h d bytes lt =
    below_is (inside_at h) d bytes lt ∙ ap (λ e. inside_with e (ordered_at (d - 1)) h bytes) (expr_is (d - 1))
    ∙ ap (λ o. inside_with (expr_with (λ g. below (inside_at g) (d - 1))) o h bytes) (ordered_is (d - 1))

pub listed_below_is : (d : ℕ) (bytes : List ℕ) → 0 < d → below listed_at d bytes ≡ ordered_with (expr_with (λ g. below (inside_at g) (d - 1))) bytes
listed_below_is d bytes lt = below_is listed_at d bytes lt ∙ ap (λ e. ordered_with e bytes) (expr_is (d - 1))
