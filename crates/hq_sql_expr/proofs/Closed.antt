-- Lists of expressions inside a parenthesis, and the word that closes them.
use Rattle.std.proofs.Common.{◌≡◌, ℕ, zero, suc, ◌+◌, ◌≤◌, true, List, [], ◌∷◌, ◌++◌, map, Some, None, refl, append_assoc, arith}
use Rattle.std.specs.List.{AllByRecursion, list_all}
use Rattle.std.proofs.lemmas.Bool.{le-leb}
use Rattle.std.specs.Prelude.{length, nat_le}
use Rattle.hq_sql_tree.specs.declared.word.Word.{Word}
use Rattle.hq_sql_tree.specs.declared.word.Word.TheVariants as word
use Rattle.hq_sql_tree.specs.Word.{word_text}
use Rattle.hq_sql_tree.specs.Tree.{ExprTree}
use Rattle.hq_sql_tree.specs.Spelling.{separated, expr_text}
use Rattle.hq_sql_tree.specs.Form.{is_expr, expr_depth, greatest, expr_fits}
use Rattle.hq_sql_expr.specs.Reading.{◌>>=◌, below, after, all_many, expr_at, argument_with, closed_exprs}
use Rattle.hq_sql_expr.proofs.Sound.{Sound, Spelled, sound_next, sound_end, sound_nothing, after_again}
use Rattle.hq_sql_expr.proofs.Listed.{AllGood, list_text}
use Rattle.hq_sql_expr.proofs.Fits.{FitsExpr}
use Rattle.hq_sql_expr.proofs.Exprs.{expr_takes, exprs_take, argument_takes, closed_text}
use Rattle.hq_sql_expr.proofs.Again.{Ends, expr_again, argument_again, exprs_again}
use Rattle.hq_sql_expr.proofs.Form.{and_both, both_and, fits_expr, expr_told}

-- one or more, where a parenthesis may open around them
abbrev pub FitsClosed : ℕ → List ExprTree → Type 0
FitsClosed zero es = ⊥
FitsClosed (suc d) es = AllGood (λ e. FitsExpr e d) es

abbrev pub closed_list_text : Word → List ExprTree → List ℕ
closed_list_text close es = separated word.Comma (map expr_text es) ++ word_text close

-- ---- what is read is spelled so

pub closed_expr_takes : (d : ℕ) → Sound (argument_with (expr_at d)) (Spelled closed_text (λ e. FitsExpr e d))
closed_expr_takes d = argument_takes d (expr_at d) (expr_takes d)

closed_takes : (close : Word) (d : ℕ) → Sound (closed_exprs close d) (Spelled (closed_list_text close) (AllGood (λ e. FitsExpr e d)))
unfolding closed_exprs
closed_takes close d =
    sound_next (all_many (expr_at d) word.Comma) (λ es bytes. after close bytes >>= λ rest. Some (es, rest))
    (list_text (expr_at d) word.Comma expr_text (λ e. FitsExpr e d)) (AllGood (λ e. FitsExpr e d))
    (Spelled (closed_list_text close) (AllGood (λ e. FitsExpr e d))) (exprs_take d)
    (λ es good. sound_end close es (λ b x. Spelled (closed_list_text close) (AllGood (λ e. FitsExpr e d)) (separated word.Comma (map expr_text es) ++ b) x) (refl, good))

pub closed_exprs_take : (close : Word) (d : ℕ) → Sound (below (closed_exprs close) d) (Spelled (closed_list_text close) (FitsClosed d))
closed_exprs_take close zero = sound_nothing {A = List ExprTree} (Spelled (closed_list_text close) (FitsClosed zero))
closed_exprs_take close (suc d) = closed_takes close d

-- ---- what is spelled so is read

pub closed_expr_again : (d : ℕ) (e : ExprTree) (rest : List ℕ) → FitsExpr e d → argument_with (expr_at d) ((expr_text e ++ word_text word.Close) ++ rest) ≡ Some (e, rest)
closed_expr_again d e rest fits = argument_again d (expr_at d) (expr_again d) e rest fits

-- the word may follow an expression, and begins otherwise than a comma does
abbrev pub Closes : Word → Type 0
Closes close = (rest : List ℕ) → Ends (word_text close ++ rest) × (after word.Comma (word_text close ++ rest) ≡ None)

pub close_in_closes : Closes word.CloseIn
unfolding word_text after
close_in_closes rest = ((refl, refl), refl)

pub close_distinct_closes : Closes word.CloseDistinct
unfolding word_text after
close_distinct_closes rest = ((refl, refl), refl)

closed_again : (closing : Word) (d : ℕ) (es : List ExprTree) (rest : List ℕ) → Closes closing → AllGood (λ e. FitsExpr e d) es
    → closed_exprs closing d (closed_list_text closing es ++ rest) ≡ Some (es, rest)
unfolding closed_exprs
closed_again closing d [] rest closes good = absurd good
closed_again closing d (e ∷ es) rest closes good =
    let listed = separated word.Comma (map expr_text (e ∷ es)) in
    let end = word_text closing ++ rest in
    let k = closes rest in
    rw (append_assoc listed (word_text closing) rest, exprs_again d e es end good.0 good.1 k.0 k.1, after_again closing rest) refl

pub closed_exprs_again : (closing : Word) (d : ℕ) (es : List ExprTree) (rest : List ℕ) → Closes closing → FitsClosed d es
    → below (closed_exprs closing) d (closed_list_text closing es ++ rest) ≡ Some (es, rest)
closed_exprs_again closing zero es rest closes fits = absurd fits
closed_exprs_again closing (suc d) es rest closes fits = closed_again closing d es rest closes fits

-- ---- what the form, the depth and the values say

pub fits_exprs : (d : ℕ) (es : List ExprTree) → list_all is_expr es ≡ true → greatest (map expr_depth es) ≤ d → list_all expr_fits es ≡ true → AllByRecursion (λ e. FitsExpr e d) es
fits_exprs d [] form depth fits = tt
fits_exprs d (e ∷ es) form depth fits =
    let f = and_both (is_expr e) (list_all is_expr es) form in
    let v = and_both (expr_fits e) (list_all expr_fits es) fits in
    (fits_expr e d f.0 (omega arith) v.0, fits_exprs d es f.1 (omega arith) v.1)

pub exprs_told : (d : ℕ) (es : List ExprTree) → AllByRecursion (λ e. FitsExpr e d) es → (list_all is_expr es ≡ true) × (greatest (map expr_depth es) ≤ d) × (list_all expr_fits es ≡ true)
exprs_told d [] h = (refl, omega arith, refl)
exprs_told d (e ∷ es) h =
    let k = expr_told e d h.0 in
    let l = exprs_told d es h.1 in
    let le : expr_depth e ≤ d = k.1 in
    let more : greatest (map expr_depth es) ≤ d = l.1 in
    (both_and (is_expr e) (list_all is_expr es) k.0 l.0, omega arith, both_and (expr_fits e) (list_all expr_fits es) k.2 l.2)

pub fits_closed : (d : ℕ) (es : List ExprTree) → nat_le 1 (length es) ≡ true → list_all is_expr es ≡ true → 1 + greatest (map expr_depth es) ≤ d → list_all expr_fits es ≡ true → FitsClosed d es
fits_closed zero es some form depth fits = absurd (omega arith)
fits_closed (suc d) [] some form depth fits = absurd cc
fits_closed (suc d) (e ∷ es) some form depth fits = fits_exprs d (e ∷ es) form (omega arith) fits

pub closed_told : (d : ℕ) (es : List ExprTree) → FitsClosed d es
    → (nat_le 1 (length es) ≡ true) × (list_all is_expr es ≡ true) × (1 + greatest (map expr_depth es) ≤ d) × (list_all expr_fits es ≡ true)
closed_told zero es h = absurd h
closed_told (suc d) [] h = absurd h
closed_told (suc d) (e ∷ es) h =
    let k = exprs_told d (e ∷ es) h in
    let le : greatest (map expr_depth (e ∷ es)) ≤ d = k.1 in
    (le-leb 1 (length (e ∷ es)) (omega arith), k.0, omega arith, k.2)
