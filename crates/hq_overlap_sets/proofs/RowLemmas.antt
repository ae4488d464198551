-- Rows of a list of rows, of which one is changed.
use Rattle.std.proofs.Common.{◌≡◌, ◌∙◌, ℕ, zero, suc, ◌+◌, ◌<◌, List, [], ◌∷◌, ◌++◌, length, get_or, set, ◌⊎◌, inl, inr, sym, refl, ap, subst, arith}
use Rattle.std.specs.Prelude.{Vec}
use Rattle.std.specs.declared.alloc.Global.{Global}
use Rattle.std.specs.List.{Contains}
use Rattle.std.proofs.lemmas.List.Elements.{Contains-append_left, Contains-append_right, Contains-push}
use Rattle.hq_overlap_sets.specs.Rows.{row_at}
use Rattle.hq_overlap_sets.proofs.Tests.{no_member, contains_cases, contains_first}

-- what stands in two lists one after the other stands in one of them
pub split_member : (xs ys : List ℕ) (s : ℕ) → Contains (xs ++ ys) s → Contains xs s ⊎ Contains ys s
split_member [] ys s h = inr h
split_member (x ∷ xs) ys s h =
    (elim (contains_cases x (xs ++ ys) s h) [
      | inl same ↦ inl (subst (Contains (x ∷ xs)) same (contains_first x xs))
      | inr behind ↦ (elim (split_member xs ys s behind) [
        | inl left ↦ inl (Contains-append_right (x ∷ []) xs s left)
        | inr right ↦ inr right
      ])
    ])

-- a number of a list of one
pub only_one : (x s : ℕ) → Contains (x ∷ []) s → x ≡ s
only_one x s h =
    (elim (contains_cases x [] s h) [
      | inl same ↦ same
      | inr none ↦ absurd (no_member s none)
    ])

-- a row that is in the list
row_here : (rows : List (Vec ℕ Global)) (at : ℕ) (v : Vec ℕ Global) → at < length rows → v ≡ get_or rows at v → row_at rows at ≡ v.items
row_here [] at v h e = absurd (omega arith)
row_here (r ∷ rows) zero v h e = ap (λ (w : Vec ℕ Global). w.items) (sym e)
row_here (r ∷ rows) (suc at) v h e = row_here rows at v (omega arith) e

-- what stands in a row after one was set
pub set_rows : (rows : List (Vec ℕ Global)) (at : ℕ) (v : Vec ℕ Global) (c s : ℕ) → Contains (row_at (set rows at v) c) s → Contains (row_at rows c) s ⊎ ((at ≡ c) × Contains v.items s)
set_rows [] at v c s h = inl h
set_rows (r ∷ rows) zero v zero s h = inr (refl, h)
set_rows (r ∷ rows) zero v (suc c) s h = inl h
set_rows (r ∷ rows) (suc at) v zero s h = inl h
set_rows (r ∷ rows) (suc at) v (suc c) s h =
    (elim (set_rows rows at v c s h) [
      | inl old ↦ inl old
      | inr new ↦ inr (ap suc new.0, new.1)
    ])

set_kept : (rows : List (Vec ℕ Global)) (at : ℕ) (v : Vec ℕ Global) → ((s : ℕ) → Contains (row_at rows at) s → Contains v.items s)
    → (c s : ℕ) → Contains (row_at rows c) s → Contains (row_at (set rows at v) c) s
set_kept [] at v f c s h = h
set_kept (r ∷ rows) zero v f zero s h = f s h
set_kept (r ∷ rows) zero v f (suc c) s h = h
set_kept (r ∷ rows) (suc at) v f zero s h = h
set_kept (r ∷ rows) (suc at) v f (suc c) s h = set_kept rows at v f c s h

row_set : (rows : List (Vec ℕ Global)) (at : ℕ) (v : Vec ℕ Global) → at < length rows → row_at (set rows at v) at ≡ v.items
row_set [] at v h = absurd (omega arith)
row_set (r ∷ rows) zero v h = refl
row_set (r ∷ rows) (suc at) v h = row_set rows at v (omega arith)

-- a row that grew
module _ (rows : List (Vec ℕ Global)) (at : ℕ) (old new : Vec ℕ Global) (more : List ℕ) (inside : at < length rows) (is : old ≡ get_or rows at old) (grown : new.items ≡ old.items ++ more) where
  grown_only : (c s : ℕ) → Contains (row_at rows c) s ⊎ ((at ≡ c) × Contains new.items s) → Contains (row_at rows c) s ⊎ ((at ≡ c) × Contains more s)
  grown_only c s (inl before) = inl before
  grown_only c s (inr now) =
      (elim (split_member old.items more s (subst (λ (xs : List ℕ). Contains xs s) grown now.1)) [
        | inl left ↦ inl (subst (λ (n : ℕ). Contains (row_at rows n) s) now.0 (subst (λ (xs : List ℕ). Contains xs s) (sym (row_here rows at old inside is)) left))
        | inr right ↦ inr (now.0, right)
      ])

  pub extended : (c s : ℕ) → Contains (row_at (set rows at new) c) s → Contains (row_at rows c) s ⊎ ((at ≡ c) × Contains more s)
  extended c s h = grown_only c s (set_rows rows at new c s h)

  has_old : (s : ℕ) → Contains (row_at rows at) s → Contains new.items s
  has_old s h = subst (λ (xs : List ℕ). Contains xs s) (sym grown) (Contains-append_left old.items more s (subst (λ (xs : List ℕ). Contains xs s) (row_here rows at old inside is) h))

  pub still_in : (c s : ℕ) → Contains (row_at rows c) s → Contains (row_at (set rows at new) c) s
  still_in c s h = set_kept rows at new has_old c s h

-- a row that has one number more
module _ (rows : List (Vec ℕ Global)) (at : ℕ) (old new : Vec ℕ Global) (x : ℕ) (inside : at < length rows) (is : old ≡ get_or rows at old) (grown : new.items ≡ old.items ++ (x ∷ [])) where
  pub pushed_in : Contains (row_at (set rows at new) at) x
  pushed_in = subst (λ (xs : List ℕ). Contains xs x) (sym (row_set rows at new inside ∙ grown)) (Contains-push old.items x)

  one_more : (c s : ℕ) → Contains (row_at rows c) s ⊎ ((at ≡ c) × Contains (x ∷ []) s) → Contains (row_at rows c) s ⊎ ((at ≡ c) × (x ≡ s))
  one_more c s (inl before) = inl before
  one_more c s (inr now) = inr (now.0, only_one x s now.1)

  pub pushed_only : (c s : ℕ) → Contains (row_at (set rows at new) c) s → Contains (row_at rows c) s ⊎ ((at ≡ c) × (x ≡ s))
  pushed_only c s h = one_more c s (extended rows at old new (x ∷ []) inside is grown c s h)

-- a row that was cleared
cleared_only : (rows : List (Vec ℕ Global)) (at c s : ℕ) (new : Vec ℕ Global) → new.items ≡ [] → Contains (row_at rows c) s ⊎ ((at ≡ c) × Contains new.items s) → Contains (row_at rows c) s
cleared_only rows at c s new none (inl before) = before
cleared_only rows at c s new none (inr now) = absurd (no_member s (subst (λ (xs : List ℕ). Contains xs s) none now.1))

pub cleared : (rows : List (Vec ℕ Global)) (at : ℕ) (new : Vec ℕ Global) → new.items ≡ [] → (c s : ℕ) → Contains (row_at (set rows at new) c) s → Contains (row_at rows c) s
cleared rows at new none c s h = cleared_only rows at c s new none (set_rows rows at new c s h)

-- rows without numbers, and one more
abbrev pub NoneIn : List (Vec ℕ Global) → Type 0
NoneIn rows = (c s : ℕ) → Contains (row_at rows c) s → ⊥

pub none_more : (rows : List (Vec ℕ Global)) (v : Vec ℕ Global) → v.items ≡ [] → NoneIn rows → NoneIn (rows ++ (v ∷ []))
none_more [] v none before zero s h = no_member s (subst (λ (xs : List ℕ). Contains xs s) none h)
none_more [] v none before (suc c) s h = no_member s h
none_more (r ∷ rows) v none before zero s h = before zero s h
none_more (r ∷ rows) v none before (suc c) s h = none_more rows v none (λ d t m. before (suc d) t m) c s h

pub no_rows : NoneIn []
no_rows c s h = no_member s h
