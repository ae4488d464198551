-- One step of the walks that write the shown columns and the relationships of one kind.
use Rattle.std.proofs.Common.{◌≡◌, ◌∙◌, ℕ, suc, ◌+◌, List, [], ◌∷◌, map, filter, Bool, true, false, not, cond, refl, ap, sym, arith}
use Rattle.std.proofs.lemmas.Bool.{false≢true}
use mathlib.Core.Bool.{beq}
use Rattle.hq_copy_text.specs.Lists.{those}
use Rattle.hq_model.specs.Schema.{numbered}
use Rattle.hq_model.specs.declared.meta.Rel.{Rel}

module _ {A V : Type 0} (p : ℕ → Bool) (f : ℕ → V) (i : ℕ) (x : A) (rest : List A) where
  -- the next place passes the test
  pub place_passes : p i ≡ true → map f (filter p (numbered (λ place y. place) i (x ∷ rest))) ≡ f i ∷ map f (filter p (numbered (λ place y. place) (i + 1) rest))
  place_passes h =
      let next : suc i ≡ i + 1 = omega arith in
      let later = filter p (numbered (λ (place : ℕ) (y : A). place) (suc i) rest) in
      ap (λ b. map f (cond b (i ∷ later) later)) h ∙ ap (λ k. f i ∷ map f (filter p (numbered (λ (place : ℕ) (y : A). place) k rest))) next

  -- or does not
  pub place_fails : p i ≡ false → map f (filter p (numbered (λ place y. place) i (x ∷ rest))) ≡ map f (filter p (numbered (λ place y. place) (i + 1) rest))
  place_fails h =
      let next : suc i ≡ i + 1 = omega arith in
      let later = filter p (numbered (λ (place : ℕ) (y : A). place) (suc i) rest) in
      ap (λ b. map f (cond b (i ∷ later) later)) h ∙ ap (λ k. map f (filter p (numbered (λ (place : ℕ) (y : A). place) k rest))) next

module _ {V : Type 0} (f : Rel → V) (r : Rel) (rest : List Rel) where
  -- a relationship of the kind
  pub of_kind : (many : Bool) → beq r.many many ≡ true → map f (those many (r ∷ rest)) ≡ f r ∷ map f (those many rest)
  of_kind true h =
      let go : (b : Bool) → r.many ≡ b → beq b true ≡ true → map f (cond r.many (r ∷ filter (λ x. x.many) rest) (filter (λ x. x.many) rest)) ≡ f r ∷ map f (filter (λ x. x.many) rest) =
      elim [ true ↦ λ e g. ap (λ b. map f (cond b (r ∷ filter (λ x. x.many) rest) (filter (λ x. x.many) rest))) e | false ↦ λ e g. absurd (false≢true g) ] in
      go r.many refl h
  of_kind false h =
      let go : (b : Bool) → r.many ≡ b → beq b false ≡ true
      → map f (cond (not r.many) (r ∷ filter (λ x. not x.many) rest) (filter (λ x. not x.many) rest))
      ≡ f r ∷ map f (filter (λ x. not x.many) rest) =
      elim [ true ↦ λ e g. absurd (false≢true g) | false ↦ λ e g. ap (λ b. map f (cond (not b) (r ∷ filter (λ x. not x.many) rest) (filter (λ x. not x.many) rest))) e ] in
      go r.many refl h

  -- and one of the other kind
  pub of_other : (many : Bool) → beq r.many many ≡ false → map f (those many (r ∷ rest)) ≡ map f (those many rest)
  of_other true h =
      let go : (b : Bool) → r.many ≡ b → beq b true ≡ false → map f (cond r.many (r ∷ filter (λ x. x.many) rest) (filter (λ x. x.many) rest)) ≡ map f (filter (λ x. x.many) rest) =
      elim [ true ↦ λ e g. absurd (false≢true (sym g)) | false ↦ λ e g. ap (λ b. map f (cond b (r ∷ filter (λ x. x.many) rest) (filter (λ x. x.many) rest))) e ] in
      go r.many refl h
  of_other false h =
      let go : (b : Bool) → r.many ≡ b → beq b false ≡ false → map f (cond (not r.many) (r ∷ filter (λ x. not x.many) rest) (filter (λ x. not x.many) rest)) ≡ map f (filter (λ x. not x.many) rest) =
      elim [ true ↦ λ e g. ap (λ b. map f (cond (not b) (r ∷ filter (λ x. not x.many) rest) (filter (λ x. not x.many) rest))) e | false ↦ λ e g. absurd (false≢true (sym g)) ] in
      go r.many refl h
