-- What the code keeps of masks is how their columns are looked at.
use Rattle.std.proofs.Common.{◌≡◌, ◌∙◌, ℕ, ◌+◌, List, [], ◌∷◌, ◌++◌, Bool, true, false, cond, ◌==◌, refl, sym, ap, arith}
use Rattle.std.proofs.lemmas.List.{append-nil}
use Rattle.hq_model.specs.Permission.{Mask}
use Rattle.hq_model.specs.Schema.{Schema, table}
use Rattle.hq_sql_tree.specs.Tree.{JoinTree}
use Rattle.hq_translation.specs.Looks.{ColumnName, is_used}
use Rattle.hq_translation.specs.Masks.{value_place, mask_numbers, mask_joins, mask_look}
use Rattle.hq_translation.specs.Predicates.{own_numbers}
use Rattle.hq_compile_tables.specs.Shown.{look_in}
use Rattle.hq_compile_tables.specs.declared.shown.MaskPlace.{MaskPlace}
use Rattle.hq_compile_masks.specs.MaskPlaces.{used_of, mask_places}

places_look : (ms : List Mask) (s : Schema) (t p n c : ℕ) → look_in (mask_places ms s t n) (table s t).columns p c ≡ mask_look ms s t p n c
places_look [] s t p n c = refl
places_look (m ∷ ms) s t p n c = ap (λ (x : ColumnName). cond (m.column == c) (value_place n) x) (places_look ms s t p (n + (1 + own_numbers m.shown s t)) c)

-- the places of masks show what their joins show
pub places_are_look : (ms : List Mask) (s : Schema) (t p n : ℕ) → look_in (mask_places ms s t n) (table s t).columns p ≡ mask_look ms s t p n
places_are_look ms s t p n = λ i c. places_look ms s t p n c i

-- ---- the first of several masks, and then the others

module _ (cs : List ℕ) (s : Schema) (t p : ℕ) where
  -- what is made of the masks that are used is made of the first one, and behind it of the others
  pub first_joins : (m : Mask) (ms : List Mask) (n : ℕ)
      → mask_joins (used_of cs (m ∷ ms)) s t p n ≡ mask_joins (used_of cs (m ∷ [])) s t p n ++ mask_joins (used_of cs ms) s t p (n + mask_numbers (used_of cs (m ∷ [])) s t)
  first_joins m ms n =
      let k = own_numbers m.shown s t in
      let rest = used_of cs ms in
      let go : (b : Bool) → mask_joins (cond b (m ∷ rest) rest) s t p n ≡ mask_joins (cond b (m ∷ []) []) s t p n ++ mask_joins rest s t p (n + mask_numbers (cond b (m ∷ []) []) s t) =
      elim [
        | true ↦
            let e : n + (1 + k) ≡ n + (1 + k + 0) = omega arith in
            ap (λ (j : ℕ). mask_joins (m ∷ []) s t p n ++ mask_joins rest s t p j) e
        | false ↦ let e : n ≡ n + 0 = omega arith in ap (mask_joins rest s t p) e
      ] in
      go (is_used m.column cs)

  pub first_places : (m : Mask) (ms : List Mask) (n : ℕ)
      → mask_places (used_of cs (m ∷ ms)) s t n ≡ mask_places (used_of cs (m ∷ [])) s t n ++ mask_places (used_of cs ms) s t (n + mask_numbers (used_of cs (m ∷ [])) s t)
  first_places m ms n =
      let k = own_numbers m.shown s t in
      let rest = used_of cs ms in
      let go : (b : Bool) → mask_places (cond b (m ∷ rest) rest) s t n ≡ mask_places (cond b (m ∷ []) []) s t n ++ mask_places rest s t (n + mask_numbers (cond b (m ∷ []) []) s t) =
      elim [
        | true ↦
            let e : n + (1 + k) ≡ n + (1 + k + 0) = omega arith in
            ap (λ (j : ℕ). mask_places (m ∷ []) s t n ++ mask_places rest s t j) e
        | false ↦ let e : n ≡ n + 0 = omega arith in ap (mask_places rest s t) e
      ] in
      go (is_used m.column cs)

  pub first_numbers : (m : Mask) (ms : List Mask) → mask_numbers (used_of cs (m ∷ ms)) s t ≡ mask_numbers (used_of cs (m ∷ [])) s t + mask_numbers (used_of cs ms) s t
  first_numbers m ms =
      let k = own_numbers m.shown s t in
      let rest = used_of cs ms in
      let go : (b : Bool) → mask_numbers (cond b (m ∷ rest) rest) s t ≡ mask_numbers (cond b (m ∷ []) []) s t + mask_numbers rest s t =
      elim [ true ↦ omega arith | false ↦ omega arith ] in
      go (is_used m.column cs)

  -- ---- one mask, which is added where its column is used

  module _ (m : Mask) (n : ℕ) where
    pub joins_if : (old new : List JoinTree) → is_used m.column cs ≡ true → new ≡ old ++ mask_joins (m ∷ []) s t p n → new ≡ old ++ mask_joins (used_of cs (m ∷ [])) s t p n
    joins_if old new e is = is ∙ ap (λ (b : Bool). old ++ mask_joins (cond b (m ∷ []) []) s t p n) (sym e)

    pub places_if : (old new : List MaskPlace) → is_used m.column cs ≡ true → new ≡ old ++ mask_places (m ∷ []) s t n → new ≡ old ++ mask_places (used_of cs (m ∷ [])) s t n
    places_if old new e is = is ∙ ap (λ (b : Bool). old ++ mask_places (cond b (m ∷ []) []) s t n) (sym e)

    pub numbers_if : (new : ℕ) → is_used m.column cs ≡ true → new ≡ n + mask_numbers (m ∷ []) s t → new ≡ n + mask_numbers (used_of cs (m ∷ [])) s t
    numbers_if new e is = is ∙ ap (λ (b : Bool). n + mask_numbers (cond b (m ∷ []) []) s t) (sym e)

    pub no_joins : (old : List JoinTree) → is_used m.column cs ≡ false → old ≡ old ++ mask_joins (used_of cs (m ∷ [])) s t p n
    no_joins old e = sym (append-nil old) ∙ ap (λ (b : Bool). old ++ mask_joins (cond b (m ∷ []) []) s t p n) (sym e)

    pub no_places : (old : List MaskPlace) → is_used m.column cs ≡ false → old ≡ old ++ mask_places (used_of cs (m ∷ [])) s t n
    no_places old e = sym (append-nil old) ∙ ap (λ (b : Bool). old ++ mask_places (cond b (m ∷ []) []) s t n) (sym e)

    pub no_numbers : is_used m.column cs ≡ false → n ≡ n + mask_numbers (used_of cs (m ∷ [])) s t
    no_numbers e =
        let none : n ≡ n + 0 = omega arith in
        none ∙ ap (λ (b : Bool). n + mask_numbers (cond b (m ∷ []) []) s t) (sym e)
