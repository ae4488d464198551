-- Lists of rows that are lent.
use Rattle.std.proofs.Common.{◌≡◌, ◌∙◌, ℕ, List, [], ◌∷◌, map, refl, ap, Bool, true, false, cond, is_gt}
use Rattle.std.specs.Borrow.{Bor}
use Rattle.std.specs.Ordering.{on}
use Rattle.std.specs.declared.cmp.Ordering.{Ordering}
use Rattle.hq_base.specs.Lists.{put, sort}
use Rattle.hq_copy_filter.specs.Lent.{rows_of}
use Rattle.hq_model.specs.Database.{Row}
use Rattle.hq_model.specs.Permitted.{columns_cmp}

module _ {A B : Type 0} (f : A → B) (R : B → B → Ordering) where
  map_put : (x : A) (ys : List A) → map f (put (on f R) x ys) ≡ put R (f x) (map f ys)
  map_put x [] = refl
  map_put x (y ∷ ys) =
      let go : (b : Bool) → map f (cond b (y ∷ put (on f R) x ys) (x ∷ (y ∷ ys))) ≡ cond b (f y ∷ put R (f x) (map f ys)) (f x ∷ (f y ∷ map f ys)) =
      elim [ true ↦ ap (λ l. f y ∷ l) (map_put x ys) | false ↦ refl ] in
      go (is_gt (R (f x) (f y)))

  -- what sorted items are made into is sorted
  pub map_sort : (xs : List A) → map f (sort (on f R) xs) ≡ sort R (map f xs)
  map_sort [] = refl
  map_sort (x ∷ xs) = map_put x (sort (on f R) xs) ∙ ap (put R (f x)) (map_sort xs)

pub sorted_rows : (cs : List ℕ) (xs ys : List (Bor Row)) → ys ≡ sort (on (λ row. row.now) (columns_cmp cs)) xs → rows_of ys ≡ sort (columns_cmp cs) (rows_of xs)
sorted_rows cs xs ys e = ap rows_of e ∙ map_sort (λ row. row.now) (columns_cmp cs) xs
