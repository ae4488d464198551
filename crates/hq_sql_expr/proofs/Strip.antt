-- What follows a word.
use Rattle.std.proofs.Common.{◌≡◌, ℕ, Bool, true, false, ◌&&◌, cond, eqb, List, [], ◌∷◌, length, take, drop, Option, Some, None, option_map, ◌+◌, Bor, refl, sym, ap, ◌∙◌}
use Rattle.std.specs.Prelude.{MatchOption}
use lib.Pointwise.{pointwise}
use Rattle.hq_sql_expr.specs.Reading.{strip}

and_both : (a b : Bool) → (a && b) ≡ true → (a ≡ true) × (b ≡ true)
and_both true b e = (refl, e)
and_both false b e = absurd cc

and_not : (a b : Bool) (x : Option (List ℕ)) → (a && b) ≡ false → (b ≡ false → x ≡ None) → cond a x None ≡ None
and_not true b x e h = h e
and_not false b x e h = refl

pub strip_yes : (w bytes : List ℕ) → pointwise eqb (take (length w) bytes) w ≡ true → strip w bytes ≡ Some (drop (length w) bytes)
strip_yes [] bytes e = refl
strip_yes (w ∷ ws) [] e = absurd cc
strip_yes (w ∷ ws) (b ∷ bytes) e = let p = and_both (eqb b w) (pointwise eqb (take (length ws) bytes) ws) e in rw p.0 (strip_yes ws bytes p.1)

pub strip_no : (w bytes : List ℕ) → pointwise eqb (take (length w) bytes) w ≡ false → strip w bytes ≡ None
strip_no [] bytes e = absurd cc
strip_no (w ∷ ws) [] e = refl
strip_no (w ∷ ws) (b ∷ bytes) e = and_not (eqb b w) (pointwise eqb (take (length ws) bytes) ws) (strip ws bytes) e (strip_no ws bytes)

-- what a prefix that is stripped gives
pub strip_is : (w bytes : List ℕ) (r : Option (Bor (List ℕ)))
    → MatchOption r (pointwise eqb (take (length w) bytes) w ≡ false)
    (λ x. (pointwise eqb (take (length w) bytes) w ≡ true) × (x.now ≡ drop (length w) bytes) × (length x.now + length w ≡ length bytes))
    → option_map (λ x. x.now) r ≡ strip w bytes
strip_is w bytes None h = sym (strip_no w bytes h)
strip_is w bytes (Some x) h = ap (λ t. Some t) h.1 ∙ sym (strip_yes w bytes h.0)
