-- Places sorted by the names at them: the first of a name is the first place of that name, and halving finds it.
use Rattle.std.proofs.Common.{◌≡◌, ◌∙◌, refl, sym, ap, ℕ, suc, ◌+◌, ◌-◌, ◌<◌, List, [], ◌∷◌, ◌++◌, length, map, take, drop, get_or, Bool, true, false, cond, Option, Some, None, Ordering, Less, Equal, Greater, is_gt, is_eq, append_assoc, length-append, bytes_eq, subst, unwrap_or, arith}
use Rattle.std.specs.Prelude.{find, position}
use Rattle.std.specs.Cmp.Lexicographic.{slice_cmp}
use Rattle.std.specs.List.{range_with_len, position_from}
use Rattle.std.specs.Option.{option_or}
use Rattle.std.specs.Ordering.{nat_cmp, on, ordering_reverse}
use Rattle.std.proofs.lemmas.Cmp.{nat_list_cmp_total, on_total, tied_itself}
use Rattle.std.proofs.lemmas.Iterator.Adapters.{position_from-zero}
use Rattle.std.proofs.lemmas.List.{take-append-drop, take_rest}
use Rattle.std.proofs.lemmas.List.Folds.{find-append}
use Rattle.std.proofs.lemmas.Map.Text.{is_eq-slice_cmp}
use Rattle.std.proofs.lemmas.Slice.Eq.{bytes_eq-Decides}
use Rattle.std.proofs.Math.Seq.{get_or-append_seam, drop-cons}
use Rattle.hq_base.specs.Lists.{Each, put, sort, Before, Ascends}
use Rattle.hq_base.proofs.Sorts.{ascends_sort, sort_map_on}
use Rattle.hq_schema.specs.Sorted.{name_at, by_name, places_by_name, places_of, numbered}

-- ---- the first that passes a test

-- what none passes is not found
find_none : {A : Type 0} (p : A → Bool) (xs : List A) → Each (λ x. p x ≡ false) xs → find p xs ≡ None
find_none p [] h = refl
find_none p (x ∷ xs) h = rw h.0 (find_none p xs h.1)

-- a sort that never turns two items that pass finds the same first one
module _ {A : Type 0} (R : A → A → Ordering) (p : A → Bool) (keeps : (x y : A) → p x ≡ true → p y ≡ true → is_gt (R x y) ≡ false) where
  find_put : (x : A) (ys : List A) → find p (put R x ys) ≡ cond (p x) (Some x) (find p ys)
  find_put x [] = refl
  find_put x (y ∷ ys) =
      let later = find_put x ys in
      let placed : (b c d : Bool) → is_gt (R x y) ≡ b → p x ≡ c → p y ≡ d → find p (cond b (y ∷ put R x ys) (x ∷ (y ∷ ys))) ≡ cond c (Some x) (cond d (Some y) (find p ys)) =
      elim [
        | true ↦ elim [
          | true ↦ elim [
            | true ↦ λ b c d. let e = keeps x y c d in cc
            | false ↦ λ b c d. rw d (later ∙ ap (λ v. cond v (Some x) (find p ys)) c)
          ]
          | false ↦ elim [ true ↦ λ b c d. rw d refl | false ↦ λ b c d. rw d (later ∙ ap (λ v. cond v (Some x) (find p ys)) c) ]
        ]
        | false ↦ elim [ true ↦ λ d' b c d. rw c refl | false ↦ elim [ true ↦ λ b c d. rw (c, d) refl | false ↦ λ b c d. rw (c, d) refl ] ]
      ] in
      placed (is_gt (R x y)) (p x) (p y) refl refl refl

  pub find_sort : (xs : List A) → find p (sort R xs) ≡ find p xs
  find_sort [] = refl
  find_sort (x ∷ xs) = find_put x (sort R xs) ∙ ap (λ o. cond (p x) (Some x) o) (find_sort xs)

-- ---- an item of an ascending list: what stands before it and behind it

each_item : {A : Type 0} (P : A → Type 0) (before : List A) (x : A) (after : List A) → Each P (before ++ x ∷ after) → P x
each_item P [] x after h = h.0
each_item P (y ∷ before) x after h = each_item P before x after h.1

all_before : {A : Type 0} (R : A → A → Ordering) (before : List A) (x : A) (after : List A) → Ascends R (before ++ x ∷ after) → Each (λ y. Before R y x) before
all_before R [] x after h = tt
all_before R (y ∷ before) x after h = (each_item (Before R y) before x after h.0, all_before R before x after h.1)

all_after : {A : Type 0} (R : A → A → Ordering) (before : List A) (x : A) (after : List A) → Ascends R (before ++ x ∷ after) → Each (Before R x) after
all_after R [] x after h = h.0
all_after R (y ∷ before) x after h = all_after R before x after h.1

-- ---- a name among places that ascend by the names at them

module _ (key : ℕ → List ℕ) (q : List ℕ) where
  abbrev order : ℕ → ℕ → Ordering
  order = on key (slice_cmp nat_cmp)

  abbrev here : ℕ → Bool
  here i = bytes_eq (key i) q

  -- what stands before a lesser name, and what stands behind a greater one, is another name
  unlike_before : (y x : ℕ) → Before order y x → slice_cmp nat_cmp (key x) q ≡ Less → here y ≡ false
  unlike_before y x h less = by (here y) refl
    where
      by : (b : Bool) → here y ≡ b → b ≡ false
      by false e = refl
      by true e =
          let same : key y ≡ q = (bytes_eq-Decides (key y) q).0 e in
          let turned : slice_cmp nat_cmp q (key x) ≡ Greater = nat_list_cmp_total.antisymm q (key x) ∙ ap ordering_reverse less in
          let above : is_gt (slice_cmp nat_cmp (key y) (key x)) ≡ true = ap (λ n. is_gt (slice_cmp nat_cmp n (key x))) same ∙ ap is_gt turned in
          sym above ∙ h

  unlike_after : (x y : ℕ) → Before order x y → slice_cmp nat_cmp (key x) q ≡ Greater → here y ≡ false
  unlike_after x y h greater = by (here y) refl
    where
      by : (b : Bool) → here y ≡ b → b ≡ false
      by false e = refl
      by true e =
          let same : key y ≡ q = (bytes_eq-Decides (key y) q).0 e in
          let above : is_gt (slice_cmp nat_cmp (key x) (key y)) ≡ true = ap (λ n. is_gt (slice_cmp nat_cmp (key x) n)) same ∙ ap is_gt greater in
          sym above ∙ h

  none_before : (x : ℕ) (ys : List ℕ) → Each (λ y. Before order y x) ys → slice_cmp nat_cmp (key x) q ≡ Less → find here ys ≡ None
  none_before x [] h less = refl
  none_before x (y ∷ ys) h less = rw (unlike_before y x h.0 less) (none_before x ys h.1 less)

  none_after : (x : ℕ) (ys : List ℕ) → Each (Before order x) ys → slice_cmp nat_cmp (key x) q ≡ Greater → find here ys ≡ None
  none_after x [] h greater = refl
  none_after x (y ∷ ys) h greater = rw (unlike_after x y h.0 greater) (none_after x ys h.1 greater)

  -- the same name is where the comparison says so
  here_by : (x : ℕ) (o : Ordering) → slice_cmp nat_cmp (key x) q ≡ o → here x ≡ is_eq o
  here_by x o e = sym (is_eq-slice_cmp (key x) q) ∙ ap is_eq e

  -- a name is behind an item of a lesser name
  right_of : (before : List ℕ) (x : ℕ) (after : List ℕ) → Ascends order (before ++ x ∷ after) → slice_cmp nat_cmp (key x) q ≡ Less → find here (before ++ x ∷ after) ≡ find here after
  right_of before x after h less =
      find-append here before (x ∷ after) ∙ (rw (none_before x before (all_before order before x after h) less, here_by x Less less) refl)

  -- and before one of a greater name
  left_of : (before : List ℕ) (x : ℕ) (after : List ℕ) → Ascends order (before ++ x ∷ after) → slice_cmp nat_cmp (key x) q ≡ Greater → find here (before ++ x ∷ after) ≡ find here before
  left_of before x after h greater =
      let none : option_or (find here before) None ≡ find here before = elim (find here before) as (λ o. option_or o None ≡ o) [ None ↦ refl | Some i ↦ refl ] in
      find-append here before (x ∷ after) ∙ (rw (here_by x Greater greater, none_after x after (all_after order before x after h) greater) none)

  -- where the names are equal, it is that item or stands before it
  up_to : (before : List ℕ) (x : ℕ) (after : List ℕ) → slice_cmp nat_cmp (key x) q ≡ Equal → find here (before ++ x ∷ after) ≡ option_or (find here before) (Some x)
  up_to before x after equal = find-append here before (x ∷ after) ∙ (rw (here_by x Equal equal) refl)

  -- ---- the same by a place in the list

  split : (xs : List ℕ) (k : ℕ) → k < length xs → xs ≡ take k xs ++ get_or xs k 0 ∷ drop (k + 1) xs
  split xs k lt =
      let next : suc k ≡ k + 1 = omega arith in
      sym (take-append-drop k xs) ∙ ap (λ l. take k xs ++ l) (drop-cons xs k 0 lt ∙ ap (λ n. get_or xs k 0 ∷ drop n xs) next)

  pub at_less : (xs : List ℕ) (k : ℕ) → k < length xs → Ascends order xs → slice_cmp nat_cmp (key (get_or xs k 0)) q ≡ Less → find here xs ≡ find here (take (length xs - (k + 1)) (drop (k + 1) xs))
  at_less xs k lt ascends less =
      let e = split xs k lt in
      let P : List ℕ → Type 0 = λ l. Ascends order l in
      ap (find here) e
      ∙ (right_of (take k xs) (get_or xs k 0) (drop (k + 1) xs) (subst P e ascends) less ∙ ap (find here) (sym (take_rest xs (k + 1))))

  pub at_greater : (xs : List ℕ) (k : ℕ) → k < length xs → Ascends order xs → slice_cmp nat_cmp (key (get_or xs k 0)) q ≡ Greater → find here xs ≡ find here (take k xs)
  at_greater xs k lt ascends greater =
      let e = split xs k lt in
      let P : List ℕ → Type 0 = λ l. Ascends order l in
      ap (find here) e ∙ left_of (take k xs) (get_or xs k 0) (drop (k + 1) xs) (subst P e ascends) greater

  pub at_equal : (xs : List ℕ) (k : ℕ) → k < length xs → slice_cmp nat_cmp (key (get_or xs k 0)) q ≡ Equal → find here xs ≡ Some (unwrap_or (find here (take k xs)) (get_or xs k 0))
  at_equal xs k lt equal =
      let e = split xs k lt in
      let x = get_or xs k 0 in
      let either : (o : Option ℕ) → option_or o (Some x) ≡ Some (unwrap_or o x) = elim [ None ↦ refl | Some i ↦ refl ] in
      ap (find here) e ∙ (up_to (take k xs) x (drop (k + 1) xs) equal ∙ either (find here (take k xs)))

-- ---- the sorted places of names

-- the first of the places of a name is the place of the first such name
found_from : (front names : List (List ℕ)) (q : List ℕ) →
    find (λ i. bytes_eq (name_at (front ++ names) i) q) (range_with_len (length front) (length names)) ≡ position_from (λ n. bytes_eq n q) (length front) names
found_from front [] q = refl
found_from front (n ∷ ns) q =
    let i = length front in
    let whole = front ++ n ∷ ns in
    let next : find (λ i. bytes_eq (name_at whole i) q) (range_with_len (i + 1) (length ns)) ≡ position_from (λ n. bytes_eq n q) (i + 1) ns =
    let again = found_from (front ++ n ∷ []) ns q in
    let long : length (front ++ n ∷ []) ≡ i + 1 = length-append front (n ∷ []) in
    rw (append_assoc, long) at again
    in
    let first : bytes_eq (name_at whole i) q ≡ bytes_eq n q = ap (λ m. bytes_eq m q) (get_or-append_seam front n ns []) in
    ap (λ b. cond b (Some i) (find (λ i. bytes_eq (name_at whole i) q) (range_with_len (i + 1) (length ns)))) first
    ∙ ap (λ o. cond (bytes_eq n q) (Some i) o) next

pub ascends_by_name : (names : List (List ℕ)) → Ascends (by_name names) (places_by_name names)
unfolding places_by_name
ascends_by_name names = ascends_sort (on_total (name_at names) nat_list_cmp_total) (range_with_len 0 (length names))

pub first_by_name : (names : List (List ℕ)) (q : List ℕ) → find (λ i. bytes_eq (name_at names i) q) (places_by_name names) ≡ position (λ n. bytes_eq n q) names
unfolding places_by_name
first_by_name names q =
    let same : (x y : ℕ) → bytes_eq (name_at names x) q ≡ true → bytes_eq (name_at names y) q ≡ true → is_gt (by_name names x y) ≡ false =
    λ x y a b.
    let ex : name_at names x ≡ q = (bytes_eq-Decides (name_at names x) q).0 a in
    let ey : name_at names y ≡ q = (bytes_eq-Decides (name_at names y) q).0 b in
    ap (λ n. is_gt (slice_cmp nat_cmp n (name_at names y))) ex ∙ (ap (λ n. is_gt (slice_cmp nat_cmp q n)) ey ∙ ap is_gt (tied_itself nat_list_cmp_total q))
    in
    find_sort (by_name names) (λ i. bytes_eq (name_at names i) q) same (range_with_len 0 (length names))
    ∙ (found_from [] names q ∙ sym (position_from-zero (λ n. bytes_eq n q) names))

-- ---- names sorted with their places

-- entries of names and places, sorted by the names, have the sorted places
pub places_of_sorted : (names : List (List ℕ)) → places_of (numbered 0 names) ≡ places_by_name names
unfolding places_by_name
places_of_sorted names =
    sym (sort_map_on (λ (e : List ℕ × ℕ). e.0 ≡ name_at names e.1) (λ (e : List ℕ × ℕ). e.1) (on (λ (e : List ℕ × ℕ). e.0) (slice_cmp nat_cmp)) (by_name names)
    (λ x y px py. ap (λ n. slice_cmp nat_cmp n (name_at names y.1)) (sym px) ∙ ap (λ n. slice_cmp nat_cmp x.0 n) (sym py)) (numbered 0 names) (all_named [] names))
    ∙ ap (sort (by_name names)) (places_numbered 0 names)
  where
    -- each entry has the name at its place
    all_named : (front names : List (List ℕ)) → Each (λ (e : List ℕ × ℕ). e.0 ≡ name_at (front ++ names) e.1) (numbered (length front) names)
    all_named front [] = tt
    all_named front (n ∷ ns) =
        let again = all_named (front ++ n ∷ []) ns in
        let long : length (front ++ n ∷ []) ≡ length front + 1 = length-append front (n ∷ []) in
        (sym (get_or-append_seam front n ns []), rw (append_assoc, long) at again)

    places_numbered : (place : ℕ) (names : List (List ℕ)) → map (λ (e : List ℕ × ℕ). e.1) (numbered place names) ≡ range_with_len place (length names)
    places_numbered place [] = refl
    places_numbered place (n ∷ ns) = ap (λ l. place ∷ l) (places_numbered (place + 1) ns)
