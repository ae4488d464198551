-- The numbers of positions that are linked, and of the rows that stand there.
use Rattle.std.proofs.Common.{◌≡◌, ℕ, zero, suc, ◌+◌, List, [], ◌∷◌, map, Bool, true, false, cond, ◌||◌, ◌==◌, Some, is_some, slice_get, inl, inr, refl, sym, ap, ap₂, ◌∙◌, subst, arith}
use Rattle.std.proofs.lemmas.Bool.{eqb-true}
use Rattle.std.specs.List.{list_any, position_from}
use Rattle.hq_base.specs.Lists.{Each}
use Rattle.hq_base.proofs.Lists.{each_weaken}
use Rattle.hq_copy_definition.specs.Extras.{Extra, from_end, to_end, row_position, ends_at, ends_from}
use Rattle.hq_copy_definition.specs.Links.{Among}
use Rattle.hq_copy_definition.specs.Metadata.{places}
use Rattle.hq_copy_definition.specs.Sources.{Source, sources, kept_relationships, Link, links, link_remote}
use Rattle.hq_copy_definition.proofs.Lists.{each_append, each_made, each_map}
use Rattle.hq_model.specs.Meta.{MetaTree}
use Rattle.hq_model.specs.Schema.{Schema, table, numbered}
use Rattle.hq_model.specs.View.{places_from}
use Rattle.hq_model.specs.declared.role.Role.{Role}

-- ---- lists over positions

-- a test of positions that is one of the items there finds the same place
pub place_over : {A : Type 0} (p : ℕ → Bool) (q : A → Bool) (n k : ℕ) (ys : List A)
    → ((j : ℕ) (y : A) → slice_get ys j ≡ Some y → p (k + j) ≡ q y) → position_from p n (places k ys) ≡ position_from q n ys
place_over p q n k [] h = refl
place_over p q n k (y ∷ ys) h =
    let zeroth : k + 0 ≡ k = omega arith in
    let here : p k ≡ q y = ap p (sym zeroth) ∙ h zero y refl in
    ap₂ (λ b o. cond b (Some n) o) here
    (place_over p q (n + 1) (suc k) ys (λ j z e. let next : suc k + j ≡ k + suc j = omega arith in ap p next ∙ h (suc j) z e))

-- and is true of some position where it is of some item
pub any_over : {A : Type 0} (p : ℕ → Bool) (q : A → Bool) (k : ℕ) (ys : List A) → ((j : ℕ) (y : A) → slice_get ys j ≡ Some y → p (k + j) ≡ q y) → list_any p (places k ys) ≡ list_any q ys
any_over p q k [] h = refl
any_over p q k (y ∷ ys) h =
    let zeroth : k + 0 ≡ k = omega arith in
    let here : p k ≡ q y = ap p (sym zeroth) ∙ h zero y refl in
    ap₂ (λ b c. b || c) here (any_over p q (suc k) ys (λ j z e. let next : suc k + j ≡ k + suc j = omega arith in ap p next ∙ h (suc j) z e))

-- what is made of the positions is made of the items
pub made_over : {A B : Type 0} (f : ℕ → B) (h : ℕ → A → B) (k : ℕ) (ys : List A) → ((j : ℕ) (y : A) → slice_get ys j ≡ Some y → f (k + j) ≡ h (k + j) y) → map f (places k ys) ≡ numbered h k ys
made_over f h k [] e = refl
made_over f h k (y ∷ ys) e =
    let zeroth : k + 0 ≡ k = omega arith in
    let here : f k ≡ h k y = subst (λ n. f n ≡ h n y) zeroth (e zero y refl) in
    ap₂ (λ b l. b ∷ l) here (made_over f h (suc k) ys (λ j z g. let next : k + suc j ≡ suc k + j = omega arith in subst (λ n. f n ≡ h n z) next (e (suc j) z g)))

-- an item that stands at a place is among them
pub among_at : {A : Type 0} (ys : List A) (j : ℕ) (y : A) → slice_get ys j ≡ Some y → Among y ys
among_at [] j y e = cc
among_at (x ∷ ys) zero y e = let same : x ≡ y = cc in inl same
among_at (x ∷ ys) (suc j) y e = inr (among_at ys j y e)

-- ---- links that are there

-- the places at which a test is true are places of the list
places_there : {A : Type 0} (test : A → Bool) (k : ℕ) (ys : List A) → Each (λ q. (j : ℕ) × (q ≡ k + j) × (is_some (slice_get ys j) ≡ true)) (places_from test k ys)
places_there test k [] = tt
places_there test k (y ∷ ys) =
    let zeroth : k ≡ k + 0 = omega arith in
    let later : Each (λ q. (j : ℕ) × (q ≡ k + j) × (is_some (slice_get (y ∷ ys) j) ≡ true)) (places_from test (suc k) ys) =
    each_weaken _ _ (λ q h. let is = h.1 in let next : q ≡ k + suc h.0 = omega (arith, is) in (suc h.0, next, h.2)) (places_from test (suc k) ys) (places_there test (suc k) ys) in
    let go : (b : Bool) → Each (λ q. (j : ℕ) × (q ≡ k + j) × (is_some (slice_get (y ∷ ys) j) ≡ true)) (cond b (k ∷ places_from test (suc k) ys) (places_from test (suc k) ys)) =
    elim [ true ↦ ((zero, zeroth, refl), later) | false ↦ later ] in
    go (test y)

module _ (role : Role) (m : MetaTree) (s : Schema) where
  -- a link whose relationship is there
  abbrev pub IsThere : Link → Type 0
  IsThere l = is_some (slice_get (table s l.table).rels l.relationship) ≡ true

  pub links_there : Each IsThere (links role m s)
  links_there = each_made IsThere _ (sources role m) (each_source (sources role m))
    where
      each_kept : (t : ℕ) → Each (λ r. is_some (slice_get (table s t).rels r) ≡ true) (kept_relationships role m s t)
      each_kept t =
          each_weaken _ _ (λ q h. let zeroth : 0 + h.0 ≡ h.0 = omega arith in ap (λ n. is_some (slice_get (table s t).rels n)) (h.1 ∙ zeroth) ∙ h.2) (kept_relationships role m s t)
          (places_there _ 0 (table s t).rels)

      each_source : (os : List Source) → Each (λ o. Each IsThere (map (λ r. record { table = o.entry.table; relationship = r }) (kept_relationships role m s o.entry.table))) os
      each_source [] = tt
      each_source (o ∷ os) = (each_map IsThere (λ r. record { table = o.entry.table; relationship = r }) (kept_relationships role m s o.entry.table) (each_kept o.entry.table), each_source os)

  -- an added column of table t: an end of a link that is there
  abbrev pub IsEnd : ℕ → Extra → Type 0
  IsEnd t (from_end k l) = IsThere l × (l.table ≡ t)
  IsEnd t (to_end k l) = IsThere l × (link_remote s l ≡ t)
  IsEnd t row_position = Unit {0}

  pub ends_are : (t k : ℕ) (ls : List Link) → Each IsThere ls → Each (IsEnd t) (ends_from s t k ls)
  ends_are t k [] h = tt
  ends_are t k (l ∷ ls) h =
      let own : (b : Bool) → (l.table == t) ≡ b → Each (IsEnd t) (cond b (from_end k l ∷ []) []) = elim [ true ↦ λ e. ((h.0, eqb-true l.table t e), tt) | false ↦ λ e. tt ] in
      let far : (b : Bool) → (link_remote s l == t) ≡ b → Each (IsEnd t) (cond b (to_end k l ∷ []) []) = elim [ true ↦ λ e. ((h.0, eqb-true (link_remote s l) t e), tt) | false ↦ λ e. tt ] in
      each_append (IsEnd t) (ends_at s t k l) (ends_from s t (suc k) ls)
      (each_append (IsEnd t) (cond (l.table == t) (from_end k l ∷ []) []) (cond (link_remote s l == t) (to_end k l ∷ []) []) (own (l.table == t) refl) (far (link_remote s l == t) refl))
      (ends_are t (suc k) ls h.1)
