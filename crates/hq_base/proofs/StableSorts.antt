-- std's stable sorts ensure that what they give is the sort of the definitions.
use Rattle.std.proofs.Common.{◌≡◌, suc, ◌+◌, List, [], ◌∷◌, filter, Bool, true, false, cond, not, ◌&&◌, refl, sym, ap, ◌∙◌, arith, Ordering, Less, Equal, Greater, is_gt, is_eq, is_lt}
use Rattle.std.specs.Cmp.{IsTotalOrder}
use Rattle.std.specs.Ordering.{ordering_reverse}
use Rattle.std.specs.List.Sorted.{IsSortedBy, IsStableBy, ties}
use Rattle.std.proofs.lemmas.Cmp.{upto, alike_right, tied_itself}
use Rattle.hq_base.specs.Lists.{Each, Before, Ascends, sort}
use Rattle.hq_base.proofs.Lists.{each_weaken, each_passes}
use Rattle.hq_base.proofs.Sorts.{ascends_sort, sort_ascending, sort_filter}

module _ {A : Type 0} {R : A → A → Ordering} (o : IsTotalOrder R) where
  abbrev less : A → A → Bool
  less x y = is_lt (R x y)

  abbrev tie : A → A → Bool
  tie x y = ties less x y

  -- a tie is an Equal
  tie_equal : (x y : A) → tie x y ≡ is_eq (R x y)
  tie_equal x y =
      let go : (p : Ordering) → (not (is_lt p) && not (is_lt (ordering_reverse p))) ≡ is_eq p = elim [ Less ↦ refl | Equal ↦ refl | Greater ↦ refl ] in
      rw (o.antisymm y x) (go (R x y))

  tie_here : (x : A) → tie x x ≡ true
  tie_here x = tie_equal x x ∙ rw (tied_itself o x) refl

  not_above : (x y : A) → less y x ≡ false → Before R x y
  not_above x y h =
      let go : (p : Ordering) → is_lt (ordering_reverse p) ≡ false → is_gt p ≡ false = elim [ Less ↦ λ e. refl | Equal ↦ λ e. refl | Greater ↦ λ e. cc ] in
      go (R x y) (rw (← o.antisymm y x) h)

  -- what is below one of an ascending list ties with none of it
  still_less : (z y x : A) → R z y ≡ Less → Before R y x → R z x ≡ Less
  still_less z y x e h =
      let go : (p : Ordering) → R y x ≡ p → is_gt p ≡ false → R z x ≡ Less =
      elim [ Less ↦ λ q g. o.trans z y x e q | Equal ↦ λ q g. sym (alike_right o y x z q) ∙ e | Greater ↦ λ q g. cc ] in
      go (R y x) refl h

  none_ties : (z y : A) (ys : List A) → R z y ≡ Less → Each (Before R y) ys → filter (tie z) ys ≡ []
  none_ties z y [] e h = refl
  none_ties z y (x ∷ ys) e h = rw (tie_equal z x, still_less z y x e h.0) (none_ties z y ys e h.1)

  none_ties_all : (z y : A) (ys : List A) → R z y ≡ Less → Each (Before R y) ys → filter (tie z) (y ∷ ys) ≡ []
  none_ties_all z y ys e h = rw (tie_equal z y, e) (none_ties z y ys e h)

  first_ties : (z : A) (zs : List A) → filter (tie z) (z ∷ zs) ≡ z ∷ filter (tie z) zs
  first_ties z zs = rw (tie_here z) refl

  -- ascending lists whose ties are the same are one
  pub one_order : (ys zs : List A) → Ascends R ys → Ascends R zs → ((x : A) → filter (tie x) ys ≡ filter (tie x) zs) → ys ≡ zs
  one_order [] [] a b same = refl
  one_order [] (z ∷ zs) a b same = let e = same z ∙ first_ties z zs in cc
  one_order (y ∷ ys) [] a b same = let e = sym (same y) ∙ first_ties y ys in cc
  one_order (y ∷ ys) (z ∷ zs) a b same =
      let back : (p : Ordering) → R y z ≡ p → R z y ≡ ordering_reverse p = λ p q. o.antisymm z y ∙ ap ordering_reverse q in
      let head : y ≡ z =
      let go : (p : Ordering) → R y z ≡ p → y ≡ z =
      elim [
        | Less ↦ λ q. let e = sym (first_ties y ys) ∙ same y ∙ none_ties_all y z zs q b.0 in cc
        | Equal ↦ λ q.
            let t : tie y z ≡ true = tie_equal y z ∙ ap is_eq q in
            let f : filter (tie y) (z ∷ zs) ≡ z ∷ filter (tie y) zs = rw t refl in
            let e = sym (first_ties y ys) ∙ same y ∙ f in
            cc
        | Greater ↦ λ q. let e = sym (first_ties z zs) ∙ sym (same z) ∙ none_ties_all z y ys (back Greater q) a.0 in cc
      ] in
      go (R y z) refl in
      let rest : (x : A) → filter (tie x) ys ≡ filter (tie x) zs =
      λ x.
      let s : cond (tie x y) (y ∷ filter (tie x) ys) (filter (tie x) ys) ≡ cond (tie x y) (y ∷ filter (tie x) zs) (filter (tie x) zs) =
      same x ∙ ap (λ v. cond (tie x v) (v ∷ filter (tie x) zs) (filter (tie x) zs)) (sym head) in
      let go : (c : Bool) → cond c (y ∷ filter (tie x) ys) (filter (tie x) ys) ≡ cond c (y ∷ filter (tie x) zs) (filter (tie x) zs)
      → filter (tie x) ys ≡ filter (tie x) zs =
      elim [ true ↦ λ e. cc | false ↦ λ e. e ] in
      go (tie x y) s in
      let tails = one_order ys zs a.1 b.1 rest in
      cc

  -- elements that all tie with x are in order
  all_tie : (x : A) (l : List A) → Each (λ y. tie x y ≡ true) l → Ascends R l
  all_tie x [] h = tt
  all_tie x (y ∷ l) h =
      let eq : (z : A) → tie x z ≡ true → R x z ≡ Equal =
      λ z t. let go : (p : Ordering) → is_eq p ≡ true → p ≡ Equal = elim [ Less ↦ λ e. cc | Equal ↦ λ e. refl | Greater ↦ λ e. cc ] in go (R x z) (sym (tie_equal x z) ∙ t) in
      (each_weaken (λ z. tie x z ≡ true) (Before R y) (λ z t. rw (sym (o.congr x y z (eq y h.0)) ∙ eq z t) refl) l h.1, all_tie x l h.1)

  -- a sort keeps the order of items that tie
  sort_stable : (x : A) (l : List A) → filter (tie x) (sort R l) ≡ filter (tie x) l
  sort_stable x l = sort_filter o (tie x) l ∙ sort_ascending o (filter (tie x) l) (all_tie x (filter (tie x) l) (each_passes (tie x) l))

  ascends_from : (ys : List A) → IsSortedBy less ys → Ascends R ys
  ascends_from [] s = tt
  ascends_from (y ∷ []) s = (tt, tt)
  ascends_from (y ∷ (z ∷ zs)) s =
      let rest = ascends_from (z ∷ zs) (λ k d low h. let e : suc k + 1 ≡ suc (k + 1) = omega arith in let g = s (suc k) d (omega arith) (omega arith) in rw e at g) in
      let here = not_above y z (s 0 y (omega arith) (omega arith)) in
      ((here, each_weaken (Before R z) (Before R y) (λ v g. upto o y z v here g) zs rest.0), rest)

  -- the clauses `sorted` and `stable` of std's sorts
  pub std_sort : (xs ys : List A) → IsSortedBy less ys → IsStableBy less xs ys → ys ≡ sort R xs
  std_sort xs ys sorted stable = one_order ys (sort R xs) (ascends_from ys sorted) (ascends_sort o xs) (λ x. stable x ∙ sym (sort_stable x xs))
