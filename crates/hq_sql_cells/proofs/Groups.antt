-- The first of each group in one pass, where the list ascends by what the groups share.
use Rattle.std.proofs.Common.{◌≡◌, ◌+◌, ◌≤◌, arith, length, map, drop, List, [], ◌∷◌, filter, Bool, true, false, cond, not, Option, Some, None, refl, sym, ap, ◌∙◌, Ordering, Less, Equal, Greater, is_eq, is_gt}
use Rattle.std.specs.Cmp.{IsTotalOrder}
use Rattle.std.proofs.lemmas.Cmp.{alike_right}
use Rattle.std.specs.Prelude.{ℕ}
use Rattle.std.specs.Ordering.{on}
use Rattle.std.proofs.Math.ListN.{drop_of_length-le}
use Rattle.hq_base.specs.Aggregates.{is_taken}
use Rattle.hq_base.specs.Cells.{CellTree, cell_cmp, same_cell}
use Rattle.hq_base.specs.Lists.{Each, Before, Ascends, firsts, sort}
use Rattle.hq_base.proofs.Lists.{each_filter, each_firsts}
use Rattle.hq_base.proofs.Orders.{cell_cmp_total}
use Rattle.hq_base.proofs.Sorts.{ascends_filter, sort_map}
use Rattle.hq_sql_cells.specs.View.{cell_view}
use Rattle.hq_sql_cells.specs.declared.cell.Cell.{Cell}

-- what a test keeps of the items that a weaker test keeps is what it keeps of all
filter_weaker : {A : Type 0} (p q : A → Bool) → ((x : A) → p x ≡ true → q x ≡ true) → (xs : List A) → filter p (filter q xs) ≡ filter p xs
filter_weaker p q w [] = refl
filter_weaker p q w (x ∷ xs) =
    let later = filter_weaker p q w xs in
    let kept : (b c : Bool) → p x ≡ b → q x ≡ c → filter p (cond c (x ∷ filter q xs) (filter q xs)) ≡ cond b (x ∷ filter p xs) (filter p xs) =
    elim [
      | true ↦ elim [ true ↦ λ e f. rw e (ap (λ l. x ∷ l) later) | false ↦ λ e f. let g = w x e in cc ]
      | false ↦ elim [ true ↦ λ e f. rw e later | false ↦ λ e f. later ]
    ] in
    kept (p x) (q x) refl refl

-- one pass: an item is passed over where it is of the group of the last one kept
abbrev pub pass : {A : Type 0} → (A → A → Bool) → A → List A → List A
pass same x [] = []
pass same x (y ∷ ys) = cond (same x y) (pass same x ys) (y ∷ pass same y ys)

-- the same where none may have been kept
abbrev pub pass_from : {A : Type 0} → (A → A → Bool) → Option A → List A → List A
pass_from same (Some x) ys = pass same x ys
pass_from same None [] = []
pass_from same None (y ∷ ys) = y ∷ pass same y ys

module _ {A : Type 0} {R : A → A → Ordering} (o : IsTotalOrder R) where
  abbrev same : A → A → Bool
  same x y = is_eq (R x y)

  abbrev other : A → A → Bool
  other x y = not (same x y)

  still : (z y x : A) → R z y ≡ Less → Before R y x → R z x ≡ Less
  still z y x e h =
      let go : (p : Ordering) → R y x ≡ p → is_gt p ≡ false → R z x ≡ Less =
      elim [ Less ↦ λ q g. o.trans z y x e q | Equal ↦ λ q g. sym (alike_right o y x z q) ∙ e | Greater ↦ λ q g. cc ] in
      go (R y x) refl h

  none_same : (x y : A) → R x y ≡ Less → (ys : List A) → Each (Before R y) ys → filter (other x) ys ≡ ys
  none_same x y e [] h = refl
  none_same x y e (z ∷ zs) h = rw (still x y z e h.0) (ap (λ l. z ∷ l) (none_same x y e zs h.1))

  pass_is : (x : A) (ys : List A) → Each (Before R x) ys → Ascends R ys → filter (other x) (firsts same ys) ≡ pass same x ys
  pass_is x [] h a = refl
  pass_is x (y ∷ ys) h a =
      let F = firsts same ys in
      let G = filter (other y) F in
      let behind : Each (Before R y) G = each_filter (Before R y) (other y) F (each_firsts (Before R y) same ys a.0) in
      let go : (p : Ordering) → R x y ≡ p → is_gt p ≡ false → cond (not (is_eq p)) (y ∷ filter (other x) G) (filter (other x) G) ≡ cond (is_eq p) (pass same x ys) (y ∷ pass same y ys) =
      elim [
        | Less ↦ λ e g. ap (λ l. y ∷ l) (none_same x y e G behind ∙ pass_is y ys a.0 a.1)
        | Equal ↦ λ e g. filter_weaker (other x) (other y) (λ z k. sym (ap (λ v. not (is_eq v)) (o.congr x y z e)) ∙ k) F ∙ pass_is x ys h.1 a.1
        | Greater ↦ λ e g. cc
      ] in
      go (R x y) refl h.0

  -- the first of each group of a list that ascends is what one pass keeps
  pub firsts_in_one_pass : (xs : List A) → Ascends R xs → firsts same xs ≡ pass_from same None xs
  firsts_in_one_pass [] a = refl
  firsts_in_one_pass (x ∷ xs) a = ap (λ l. x ∷ l) (pass_is x xs a.0 a.1)

-- ---- cells that aggregates take

-- cells that are sorted by what they are seen as are the sort of what they are seen as
pub sorted_cells : (xs ys : List Cell) → ys ≡ sort (on cell_view cell_cmp) xs → map cell_view ys ≡ sort cell_cmp (map cell_view xs)
sorted_cells xs ys is = ap (map cell_view) is ∙ sym (sort_map cell_view cell_cmp xs)

-- the number of groups, once the pass has come to the end
pub groups_end : (n i : ℕ) (last : Option CellTree) (cs : List Cell) → length cs ≤ i
    → n + length (pass_from same_cell last (filter is_taken (map cell_view (drop i cs)))) ≡ length (pass_from same_cell None (filter is_taken (map cell_view cs)))
    → Ascends cell_cmp (map cell_view cs) → n ≡ length (firsts same_cell (filter is_taken (map cell_view cs)))
groups_end n i last cs over h up =
    let none : (l : Option CellTree) → length (pass_from same_cell l []) ≡ 0 = elim [ None ↦ refl | Some x ↦ refl ] in
    let at_end : n ≡ length (pass_from same_cell None (filter is_taken (map cell_view cs))) =
    let g : n + length (pass_from same_cell last (filter is_taken (map cell_view (drop i cs)))) ≡ n = rw (drop_of_length-le cs over) (rw (none last) (omega arith)) in
    sym g ∙ h in
    at_end ∙ ap length (sym (firsts_in_one_pass cell_cmp_total (filter is_taken (map cell_view cs)) (ascends_filter cell_cmp is_taken (map cell_view cs) up)))
