-- The operands of a test, by how many it takes: their form, depth and values, and their text both ways.
use Rattle.std.proofs.Common.{◌≡◌, ◌∙◌, sym, ap, ℕ, ◌+◌, ◌≤◌, Bool, true, false, not, List, [], ◌∷◌, ◌++◌, map, length, Some, refl, arith}
use Rattle.std.specs.List.{list_all}
use Rattle.std.proofs.lemmas.Bool.{le-leb, ne_eqb, false≢true}
use Rattle.std.proofs.lemmas.List.{append-nil}
use Rattle.hq_model.specs.Tests.{arity, has_arity, takes, is_of_nothing}
use Rattle.hq_model.specs.declared.test.Test.{Test}
use Rattle.hq_model.specs.declared.test.Test.TheVariants.{Among}
use Rattle.hq_model.specs.declared.test.Arity.{Arity}
use Rattle.hq_model.specs.declared.test.Arity.TheVariants.{Nothing, One, Many}
use Rattle.hq_sql_tree.specs.declared.word.Word.TheVariants as word
use Rattle.hq_sql_tree.specs.Word.{word_text, arity_close}
use Rattle.hq_sql_tree.specs.Tree.{ExprTree}
use Rattle.hq_sql_tree.specs.Form.{is_expr, expr_depth, greatest, expr_fits, arity_parens, list_parens}
use Rattle.hq_sql_tree.specs.Spelling.{expr_text}
use Rattle.hq_sql_expr.specs.Reading.{expr_at, argument_with}
use Rattle.hq_sql_expr.proofs.Sound.{Sound, Spelled, sound_last, sound_end, after_again}
use Rattle.hq_sql_expr.proofs.Fits.{FitsExpr}
use Rattle.hq_sql_expr.proofs.Exprs.{closed_text}
use Rattle.hq_sql_expr.proofs.Form.{and_both, both_and, fits_expr, expr_told}
use Rattle.hq_sql_expr.proofs.Closed.{closed_list_text, closed_expr_takes, closed_exprs_take, closed_expr_again, closed_exprs_again, close_in_closes, fits_closed, closed_told}
use Rattle.hq_sql_text.specs.Reading.{operands_at}
use Rattle.hq_sql_text.proofs.Fits.{FitsOperands}

pub not_true : (b : Bool) → not b ≡ true → b ≡ false
not_true true e = absurd cc
not_true false e = refl

pub not_false : (b : Bool) → b ≡ false → not b ≡ true
not_false true e = absurd cc
not_false false e = refl

-- ---- from the form, the depth and the values to the relation, and back

-- a list of none
abbrev is_none_of : Arity → List ExprTree → Bool
is_none_of Many [] = true
is_none_of _ _ = false

nothing_is : (t : Test) (es : List ExprTree) → is_of_nothing t es ≡ is_none_of (arity t) es
nothing_is Among [] = refl
nothing_is Among (e ∷ es) = refl
nothing_is _ es = refl

fits_arity : (a : Arity) (d : ℕ) (es : List ExprTree)
    → has_arity a (length es) ≡ true → is_none_of a es ≡ false → list_all is_expr es ≡ true → arity_parens a + greatest (map expr_depth es) ≤ d → list_all expr_fits es ≡ true → FitsOperands a d es
fits_arity Nothing d [] as_many some form depth fits = tt
fits_arity Nothing d (e ∷ es) as_many some form depth fits = absurd (false≢true (sym (ne_eqb (length (e ∷ es)) 0 (λ k. absurd (omega arith))) ∙ as_many))
fits_arity One d [] as_many some form depth fits = absurd cc
fits_arity One d (e ∷ []) as_many some form depth fits = fits_expr e d (and_both (is_expr e) true form).0 (omega arith) (and_both (expr_fits e) true fits).0
fits_arity One d (e ∷ f ∷ es) as_many some form depth fits = absurd (false≢true (sym (ne_eqb (length (e ∷ f ∷ es)) 1 (λ k. absurd (omega arith))) ∙ as_many))
fits_arity Many d [] as_many some form depth fits = absurd cc
fits_arity Many d (e ∷ es) as_many some form depth fits = fits_closed d (e ∷ es) (le-leb 1 (length (e ∷ es)) (omega arith)) form depth fits

pub fits_operands : (t : Test) (d : ℕ) (es : List ExprTree)
    → takes t (length es) ≡ true → is_of_nothing t es ≡ false → list_all is_expr es ≡ true
    → list_parens t + greatest (map expr_depth es) ≤ d → list_all expr_fits es ≡ true → FitsOperands (arity t) d es
fits_operands t d es as_many some form depth fits = fits_arity (arity t) d es as_many (sym (nothing_is t es) ∙ some) form depth fits

arity_told : (a : Arity) (d : ℕ) (es : List ExprTree) → FitsOperands a d es
    → (has_arity a (length es) ≡ true) × (is_none_of a es ≡ false) × (list_all is_expr es ≡ true) × (arity_parens a + greatest (map expr_depth es) ≤ d) × (list_all expr_fits es ≡ true)
arity_told Nothing d [] h = (refl, refl, refl, omega arith, refl)
arity_told Nothing d (e ∷ es) h = absurd h
arity_told One d [] h = absurd h
arity_told One d (e ∷ []) h =
    let k = expr_told e d h in
    let le : expr_depth e ≤ d = k.1 in
    (refl, refl, both_and (is_expr e) true k.0 refl, omega arith, both_and (expr_fits e) true k.2 refl)
arity_told One d (e ∷ f ∷ es) h = absurd h
arity_told Many d [] h = absurd (false≢true (closed_told d [] h).0)
arity_told Many d (e ∷ es) h = let k = closed_told d (e ∷ es) h in (refl, refl, k.1, k.2, k.3)

pub operands_told : (t : Test) (d : ℕ) (es : List ExprTree) → FitsOperands (arity t) d es
    → (takes t (length es) ≡ true) × (is_of_nothing t es ≡ false) × (list_all is_expr es ≡ true) × (list_parens t + greatest (map expr_depth es) ≤ d) × (list_all expr_fits es ≡ true)
operands_told t d es h = let k = arity_told (arity t) d es h in (k.0, nothing_is t es ∙ k.1, k.2, k.3, k.4)

-- ---- the text

-- one operand and what closes it
one_text : (e : ExprTree) → closed_text e ≡ closed_list_text word.Close (e ∷ [])
one_text e = ap (λ t. t ++ word_text word.Close) (sym (append-nil (expr_text e)))

-- what is read is spelled so
pub operands_take : (a : Arity) (d : ℕ) → Sound (operands_at a d) (Spelled (closed_list_text (arity_close a)) (FitsOperands a d))
operands_take Nothing d = sound_end word.Close [] (Spelled (closed_list_text word.Close) (FitsOperands Nothing d)) (refl, tt)
operands_take One d =
    sound_last (argument_with (expr_at d)) (λ e. e ∷ []) closed_text (λ e. FitsExpr e d)
    (Spelled (closed_list_text word.Close) (FitsOperands One d)) (λ e fits. (one_text e, fits)) (closed_expr_takes d)
operands_take Many d = closed_exprs_take word.CloseIn d

-- what is spelled so is read again
pub operands_again : (a : Arity) (d : ℕ) (es : List ExprTree) (rest : List ℕ) → FitsOperands a d es → operands_at a d (closed_list_text (arity_close a) es ++ rest) ≡ Some (es, rest)
operands_again Nothing d [] rest fits = rw (after_again word.Close rest) refl
operands_again Nothing d (e ∷ es) rest fits = absurd fits
operands_again One d [] rest fits = absurd fits
operands_again One d (e ∷ []) rest fits = rw (append-nil (expr_text e), closed_expr_again d e rest fits) refl
operands_again One d (e ∷ f ∷ es) rest fits = absurd fits
operands_again Many d es rest fits = closed_exprs_again word.CloseIn d es rest close_in_closes fits
