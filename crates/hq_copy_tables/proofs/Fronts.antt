-- Places in lists, and the sources of tables.
use Rattle.std.proofs.Common.{◌≡◌, ◌∙◌, ℕ, ◌+◌, suc, List, [], ◌∷◌, ◌++◌, Bool, true, false, cond, Option, Some, None, refl, ap, arith}
use Rattle.hq_model.specs.View.{places_from}
use Rattle.hq_copy_definition.specs.Sources.{Source, with_source}
use Rattle.hq_model.specs.Meta.{TrackedTree}
use Rattle.hq_model.specs.Permission.{Permission}

-- a source stands before others
pub with_source_front : (k : TrackedTree) (p : Option Permission) (os : List Source) → with_source k p os ≡ with_source k p [] ++ os
with_source_front k None os = refl
with_source_front k (Some p) os = refl

-- a place stands before those that follow, where a test is true of the item there
pub places_front : {A : Type 0} (test : A → Bool) (k : ℕ) (x : A) (xs : List A) → places_from test k (x ∷ xs) ≡ cond (test x) (k ∷ []) [] ++ places_from test (k + 1) xs
places_front test k x xs =
    let one : suc k ≡ k + 1 = omega arith in
    let go : (b : Bool) → cond b (k ∷ places_from test (suc k) xs) (places_from test (suc k) xs) ≡ cond b (k ∷ []) [] ++ places_from test (suc k) xs = elim [ true ↦ refl | false ↦ refl ] in
    go (test x) ∙ ap (λ (n : ℕ). cond (test x) (k ∷ []) [] ++ places_from test n xs) one
