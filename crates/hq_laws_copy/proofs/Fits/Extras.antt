-- The columns that a copy adds to a table differ, and their numbers are small.
use Rattle.std.proofs.Common.{◌≡◌, ℕ, zero, suc, ◌+◌, ◌*◌, ◌≤◌, ◌<◌, List, [], ◌∷◌, ◌++◌, map, filter, length, Bool, true, false, cond, ◌==◌, Some, refl, ap, arith, slice_get, length-append}
use Rattle.std.proofs.lemmas.Bool.{eq-eqb, ne_eqb}
use Rattle.std.proofs.lemmas.List.Elements.{filter-append}
use Rattle.std.specs.Prelude.{flat_map}
use Rattle.hq_base.specs.Lists.{Each}
use Rattle.hq_base.proofs.Lists.{each_weaken, filter_all}
use Rattle.hq_model.specs.Meta.{MetaTree}
use Rattle.hq_model.specs.Schema.{Schema, table}
use Rattle.hq_model.specs.declared.role.Role.{Role}
use Rattle.hq_copy_definition.specs.Extras.{Extra, from_end, to_end, row_position, ends_at, ends_from, ends_of, extras_of}
use Rattle.hq_copy_definition.specs.Sources.{Source, sources, kept_relationships, keeps_key, Link, links, link_remote}
use Rattle.hq_laws_copy.proofs.Fits.Texts.{number_of, one_extra}
use Rattle.hq_copy_definition.proofs.Apart.{Apart, apart_append}
use Rattle.hq_copy_definition.proofs.Lists.{each_map, each_append}

-- ---- ends of links

-- added columns of different numbers, and the position, are different ones
numbers_apart : (e f : Extra) → number_of e < number_of f → one_extra e f ≡ false
numbers_apart (from_end k l) (from_end j i) h = ne_eqb k j (omega arith)
numbers_apart (from_end k l) (to_end j i) h = refl
numbers_apart (from_end k l) row_position h = refl
numbers_apart (to_end k l) (from_end j i) h = refl
numbers_apart (to_end k l) (to_end j i) h = ne_eqb k j (omega arith)
numbers_apart (to_end k l) row_position h = refl
numbers_apart row_position (from_end j i) h = refl
numbers_apart row_position (to_end j i) h = refl
numbers_apart row_position row_position h = absurd (omega arith)

position_apart : (e : Extra) → 0 < number_of e → one_extra e row_position ≡ false
position_apart (from_end k l) h = refl
position_apart (to_end k l) h = refl
position_apart row_position h = absurd (omega arith)

-- the ends of one link have its number, and are two at most
at_number : (s : Schema) (t k : ℕ) (l : Link) → Each (λ e. number_of e ≡ k) (ends_at s t k l)
at_number s t k l =
    let go : (b c : Bool) → Each (λ e. number_of e ≡ k) (cond b (from_end k l ∷ []) [] ++ cond c (to_end k l ∷ []) []) =
    elim [ true ↦ elim [ true ↦ (refl, (refl, tt)) | false ↦ (refl, tt) ] | false ↦ elim [ true ↦ (refl, tt) | false ↦ tt ] ] in
    go (l.table == t) (link_remote s l == t)

at_apart : (s : Schema) (t k : ℕ) (l : Link) → Apart one_extra (ends_at s t k l)
at_apart s t k l =
    let go : (b c : Bool) → Apart one_extra (cond b (from_end k l ∷ []) [] ++ cond c (to_end k l ∷ []) []) =
    elim [ true ↦ elim [ true ↦ ((refl, tt), (tt, tt)) | false ↦ (tt, tt) ] | false ↦ elim [ true ↦ (tt, tt) | false ↦ tt ] ] in
    go (l.table == t) (link_remote s l == t)

pub ends_numbers : (s : Schema) (t k : ℕ) (ls : List Link) → Each (λ e. (k ≤ number_of e) × (number_of e < k + length ls)) (ends_from s t k ls)
ends_numbers s t k [] = tt
ends_numbers s t k (l ∷ ls) =
    each_append (λ e. (k ≤ number_of e) × (number_of e < k + suc (length ls))) (ends_at s t k l) (ends_from s t (suc k) ls)
    (each_weaken (λ e. number_of e ≡ k) (λ e. (k ≤ number_of e) × (number_of e < k + suc (length ls)))
    (λ e h. let low : k ≤ number_of e = omega (arith, h) in let high : number_of e < k + suc (length ls) = omega (arith, h) in (low, high)) (ends_at s t k l) (at_number s t k l))
    (each_weaken (λ e. (suc k ≤ number_of e) × (number_of e < suc k + length ls)) (λ e. (k ≤ number_of e) × (number_of e < k + suc (length ls)))
    (λ e h. let a = h.0 in let b = h.1 in let low : k ≤ number_of e = omega arith in let high : number_of e < k + suc (length ls) = omega arith in (low, high)) (ends_from s t (suc k) ls)
    (ends_numbers s t (suc k) ls))

ends_apart : (s : Schema) (t k : ℕ) (ls : List Link) → Apart one_extra (ends_from s t k ls)
ends_apart s t k [] = tt
ends_apart s t k (l ∷ ls) =
    apart_append one_extra (ends_at s t k l) (ends_from s t (suc k) ls) (at_apart s t k l) (ends_apart s t (suc k) ls)
    (each_weaken (λ e. number_of e ≡ k) (λ e. Each (λ f. one_extra e f ≡ false) (ends_from s t (suc k) ls))
    (λ e h. each_weaken (λ f. (suc k ≤ number_of f) × (number_of f < suc k + length ls)) (λ f. one_extra e f ≡ false)
    (λ f g. let a = g.0 in numbers_apart e f (omega (arith, h))) (ends_from s t (suc k) ls) (ends_numbers s t (suc k) ls))
    (ends_at s t k l) (at_number s t k l))

module _ (role : Role) (m : MetaTree) (s : Schema) where
  pub extras_apart : (o : Source) → Apart one_extra (extras_of role m s o)
  extras_apart o =
      let t : ℕ = o.entry.table in
      let lost : Bool = keeps_key o.permission (table s t).key in
      let last : List Extra = cond lost [] (row_position ∷ []) in
      let one : (b : Bool) → Apart one_extra (cond b [] (row_position ∷ [])) = elim [ true ↦ tt | false ↦ (tt, tt) ] in
      let apart : (e : Extra) → 1 ≤ number_of e → (b : Bool) → Each (λ f. one_extra e f ≡ false) (cond b [] (row_position ∷ [])) =
      λ e h. elim [ true ↦ tt | false ↦ (position_apart e (omega arith), tt) ] in
      apart_append one_extra (ends_of role m s t) last (ends_apart s t 1 (links role m s)) (one lost)
      (each_weaken (λ e. (1 ≤ number_of e) × (number_of e < 1 + length (links role m s))) (λ e. Each (λ f. one_extra e f ≡ false) last)
      (λ e h. apart e h.0 lost) (ends_of role m s t) (ends_numbers s t 1 (links role m s)))

  -- no number is beyond the number of links
  pub extras_within : (o : Source) → Each (λ e. number_of e ≤ length (links role m s)) (extras_of role m s o)
  extras_within o =
      let t : ℕ = o.entry.table in
      let n : ℕ = length (links role m s) in
      let least : 0 ≤ n = omega arith in
      let one : (b : Bool) → Each (λ e. number_of e ≤ n) (cond b [] (row_position ∷ [])) = elim [ true ↦ tt | false ↦ (least, tt) ] in
      each_append (λ e. number_of e ≤ n) (ends_of role m s t) (cond (keeps_key o.permission (table s t).key) [] (row_position ∷ []))
      (each_weaken (λ e. (1 ≤ number_of e) × (number_of e < 1 + n)) (λ e. number_of e ≤ n) (λ e h. let b = h.1 in omega arith) (ends_of role m s t) (ends_numbers s t 1 (links role m s)))
      (one (keeps_key o.permission (table s t).key))

-- ---- how many links there are

-- each link of a table has an end there
own_ends : (s : Schema) (t k : ℕ) (ls : List Link) → length (filter (λ (l : Link). l.table == t) ls) ≤ length (ends_from s t k ls)
own_ends s t k [] = omega arith
own_ends s t k (l ∷ ls) =
    let later = own_ends s t (suc k) ls in
    let rest : List Extra = ends_from s t (suc k) ls in
    let kept : List Link = filter (λ (l : Link). l.table == t) ls in
    let go : (b : Bool) (c : Bool) → length (cond b (l ∷ kept) kept) ≤ length ((cond b (from_end k l ∷ []) [] ++ cond c (to_end k l ∷ []) []) ++ rest) =
    elim [
      | true ↦ elim [ true ↦ omega (arith, later) | false ↦ omega (arith, later) ]
      | false ↦ elim [ true ↦ omega (arith, later) | false ↦ later ]
    ] in
    go (l.table == t) (link_remote s l == t)

-- what one item is made into is part of what all are
made_least : {A B : Type 0} (p : B → Bool) (f : A → List B) (xs : List A) (i : ℕ) (x : A) → slice_get xs i ≡ Some x → length (filter p (f x)) ≤ length (filter p (flat_map f xs))
made_least p f [] i x h = cc
made_least p f (y ∷ ys) zero x h =
    let same : y ≡ x = cc in
    let whole = ap length (filter-append p (f y) (flat_map f ys)) in
    let here = ap (λ z. length (filter p (f z))) same in
    omega (arith, whole, here, length-append (filter p (f y)) (filter p (flat_map f ys)))
made_least p f (y ∷ ys) (suc i) x h =
    let later = made_least p f ys i x h in
    let whole = ap length (filter-append p (f y) (flat_map f ys)) in
    omega (arith, whole, later, length-append (filter p (f y)) (filter p (flat_map f ys)))

made_length : {A B : Type 0} (f : A → List B) (xs : List A) → Each (λ x. length (f x) ≤ 200) xs → length (flat_map f xs) ≤ 200 * length xs
made_length f [] h = omega arith
made_length f (x ∷ xs) h =
    let here = h.0 in
    let later = made_length f xs h.1 in
    omega (arith, length-append (f x) (flat_map f xs))

module _ (role : Role) (m : MetaTree) (s : Schema) where
  abbrev links_of : Source → List Link
  links_of o = map (λ r. record { table = o.entry.table; relationship = r }) (kept_relationships role m s o.entry.table)

  -- a source has an end for each link of its own
  links_end : (o : Source) (i : ℕ) → slice_get (sources role m) i ≡ Some o → length (links_of o) ≤ length (ends_of role m s o.entry.table)
  links_end o i at =
      let t : ℕ = o.entry.table in
      let own : Link → Bool = λ l. l.table == t in
      let mine : Each (λ l. own l ≡ true) (links_of o) =
      each_map (λ l. own l ≡ true) (λ r. record { table = t; relationship = r }) (kept_relationships role m s t) (all_mine (kept_relationships role m s t)) in
      let all = ap length (filter_all own (links_of o) mine) in
      let part = made_least own links_of (sources role m) i o at in
      let ends = own_ends s t 1 (links role m s) in
      omega (arith, all, part, ends)
    where
      all_mine : (rs : List ℕ) → Each (λ r. (o.entry.table == o.entry.table) ≡ true) rs
      all_mine [] = tt
      all_mine (r ∷ rs) = (eq-eqb o.entry.table o.entry.table refl, all_mine rs)

  -- where each source has at most 200 ends, there are at most 200 links a source
  pub links_length : Each (λ o. length (links_of o) ≤ 200) (sources role m) → length (links role m s) ≤ 200 * length (sources role m)
  links_length h = made_length links_of (sources role m) h

  pub links_short : (o : Source) (i : ℕ) → slice_get (sources role m) i ≡ Some o → length (ends_of role m s o.entry.table) ≤ 200 → length (links_of o) ≤ 200
  links_short o i at h = let least = links_end o i at in omega arith
