-- Reading a quoted word, byte by byte.
use Rattle.std.proofs.Common.{◌≡◌, ℕ, List, [], ◌∷◌, ◌++◌, Option, Some, None, Bool, true, false, cond, eqb, refl, sym, ap, ◌∙◌, append_assoc}
use Rattle.std.proofs.lemmas.List.{append-nil}
use Rattle.hq_sql_expr.specs.Reading.{strip, unquoted, with_first}

-- what was read before, and what is still read
abbrev pub with_front : List ℕ → Option (List ℕ × List ℕ) → Option (List ℕ × List ℕ)
with_front front None = None
with_front front (Some x) = Some (front ++ x.0, x.1)

regroup : (front : List ℕ) (b : ℕ) (read : Option (List ℕ × List ℕ)) → with_front front (with_first b read) ≡ with_front (front ++ b ∷ []) read
regroup front b None = refl
regroup front b (Some x) = ap (λ t. Some (t, x.1)) (sym (append_assoc front (b ∷ []) x.0))

cond_some : (b : Bool) (x y : List ℕ) → cond b (Some x) None ≡ Some y → (b ≡ true) × (x ≡ y)
cond_some true x y e = (refl, cc)
cond_some false x y e = absurd cc

cond_none : (b : Bool) (x : List ℕ) → cond b (Some x) None ≡ None → b ≡ false
cond_none true x e = absurd cc
cond_none false x e = refl

module _ (q : ℕ) (front : List ℕ) (total : Option (List ℕ × List ℕ)) where
  pub at_end : with_front front (unquoted q []) ≡ total → total ≡ None
  unfolding unquoted
  at_end h = sym h

  pub at_byte : (b : ℕ) (tail : List ℕ) → eqb b q ≡ false → with_front front (unquoted q (b ∷ tail)) ≡ total → with_front (front ++ b ∷ []) (unquoted q tail) ≡ total
  unfolding unquoted
  at_byte b [] e h = rw e at h
  at_byte b (c ∷ tail) e h = sym (regroup front b (unquoted q (c ∷ tail))) ∙ (rw e at h)

  pub at_twice : (b : ℕ) (tail more : List ℕ) → eqb b q ≡ true → strip (q ∷ []) tail ≡ Some more
      → with_front front (unquoted q (b ∷ tail)) ≡ total → with_front (front ++ q ∷ []) (unquoted q more) ≡ total
  unfolding unquoted
  at_twice b [] more e s h = absurd cc
  at_twice b (c ∷ tail) more e s h =
      let k = cond_some (eqb c q) tail more s in
      ap (λ t. with_front (front ++ q ∷ []) (unquoted q t)) (sym k.1) ∙ sym (regroup front q (unquoted q tail)) ∙ (rw (e, k.0) at h)

  pub at_done : (b : ℕ) (tail : List ℕ) → eqb b q ≡ true → strip (q ∷ []) tail ≡ None → with_front front (unquoted q (b ∷ tail)) ≡ total → total ≡ Some (front, tail)
  unfolding unquoted
  at_done b [] e s h = sym (rw e at h) ∙ ap (λ t. Some (t, [])) (append-nil front)
  at_done b (c ∷ tail) e s h =
      let k = cond_none (eqb c q) tail s in
      sym (rw (e, k) at h) ∙ ap (λ t. Some (t, c ∷ tail)) (append-nil front)
