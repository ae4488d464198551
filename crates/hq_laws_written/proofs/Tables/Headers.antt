-- The header of a written file is that of its table, in the catalog's order.
use Rattle.std.proofs.Common.{◌≡◌, ◌∙◌, ℕ, ◌==◌, ◌||◌, List, [], ◌∷◌, length, Bool, true, false, not, Option, Some, map, find, bytes_eq, refl, sym, ap, eq-eqb}
use Rattle.std.specs.List.{list_all, list_any}
use Rattle.std.specs.Cmp.Lexicographic.{bytes_decides}
use Rattle.std.specs.Prelude.{option_map}
use Rattle.std.specs.Option.{option_and_then}
use Rattle.std.proofs.lemmas.Bool.{and_parts, or_parts, true≢false}
use Rattle.std.proofs.lemmas.List.{length-map}
use Rattle.hq_base.specs.Lists.{Each}
use Rattle.hq_base.specs.declared.value.Val.{Val}
use Rattle.hq_base.proofs.Lists.{each_weaken, map_on, map_map}
use Rattle.hq_model.specs.Database.{row_fits}
use Rattle.hq_model.specs.declared.table.Column.{Column}
use Rattle.hq_load_tables.specs.Header.{all_some, header_due, in_catalog_order, names_differ, value_named}

-- the columns' names
abbrev pub names_of : List Column → List (List ℕ)
names_of cs = map (λ c. c.name) cs

not_true : (b : Bool) → not b ≡ true → b ≡ false
not_true true h = cc
not_true false h = refl

-- ---- facts of each item

each_false : {A : Type 0} (p : A → Bool) (xs : List A) → list_any p xs ≡ false → Each (λ x. p x ≡ false) xs
each_false p [] h = tt
each_false p (x ∷ xs) h = let parts = or_parts (p x) (list_any p xs) h in (parts.0, each_false p xs parts.1)

each_both : {A : Type 0} (P Q R : A → Type 0) → ((x : A) → P x → Q x → R x) → (xs : List A) → Each P xs → Each Q xs → Each R xs
each_both P Q R step [] h k = tt
each_both P Q R step (x ∷ xs) h k = (step x h.0 k.0, each_both P Q R step xs h.1 k.1)

all_true : {A : Type 0} (p : A → Bool) (xs : List A) → Each (λ x. p x ≡ true) xs → list_all p xs ≡ true
all_true p [] h = refl
all_true p (x ∷ xs) h = rw (h.0, all_true p xs h.1) refl

all_found : {A : Type 0} (f : A → Option A) (xs : List A) → Each (λ x. f x ≡ Some x) xs → all_some (map f xs) ≡ Some xs
all_found f [] h = refl
all_found f (x ∷ xs) h =
    ap (option_and_then (λ y. option_map (λ ys. y ∷ ys) (all_some (map f xs)))) h.0 ∙ ap (option_map (λ ys. x ∷ ys)) (all_found f xs h.1)

-- ---- names

same_name : (name : List ℕ) → bytes_eq name name ≡ true
same_name name = (bytes_decides name name).1 refl

-- a name that differs differs the other way round
turned : (m n : List ℕ) → bytes_eq m n ≡ false → bytes_eq n m ≡ false
turned m n h =
    let go : (b : Bool) → bytes_eq n m ≡ b → b ≡ false = elim [
      | true ↦ λ e. absurd (true≢false (sym ((bytes_decides m n).1 (sym ((bytes_decides n m).0 e))) ∙ h))
      | false ↦ λ e. refl
    ] in
    go (bytes_eq n m) refl

-- the names of the columns behind the first one differ from its name
others : (c : Column) (cs : List Column) → names_differ (c ∷ cs) ≡ true → Each (λ d. bytes_eq c.name d.name ≡ false) cs
others c cs h = each_false (λ d. bytes_eq c.name d.name) cs (not_true _ (and_parts _ _ h).0)

-- each column stands under its name
each_found : (cs : List Column) → names_differ cs ≡ true → Each (λ c. find (λ d. bytes_eq d.name c.name) cs ≡ Some c) cs
each_found [] h = tt
each_found (c ∷ cs) h = (
  rw (same_name c.name) refl,
  each_both (λ d. bytes_eq c.name d.name ≡ false) (λ d. find (λ e. bytes_eq e.name d.name) cs ≡ Some d) (λ d. find (λ e. bytes_eq e.name d.name) (c ∷ cs) ≡ Some d)
      (λ d other found. rw other found) cs (others c cs h) (each_found cs (and_parts _ _ h).1),
)

or_true : (a b : Bool) → b ≡ true → (a || b) ≡ true
or_true true b h = refl
or_true false b h = h

-- each column's name stands in the header
each_named : (cs : List Column) → Each (λ c. list_any (bytes_eq c.name) (names_of cs) ≡ true) cs
each_named [] = tt
each_named (c ∷ cs) = (
  rw (same_name c.name) refl,
  each_weaken (λ d. list_any (bytes_eq d.name) (names_of cs) ≡ true) (λ d. list_any (bytes_eq d.name) (names_of (c ∷ cs)) ≡ true) (λ d h. or_true (bytes_eq d.name c.name) _ h) cs (each_named cs),
)

-- the columns of the header are those of the table
pub header_back : (cs : List Column) → names_differ cs ≡ true → header_due cs (names_of cs) ≡ Some cs
header_back cs h =
    let many : (length (names_of cs) == length cs) ≡ true = eq-eqb _ _ (length-map cs (λ c. c.name)) in
    let whole = all_true (λ c. list_any (bytes_eq c.name) (names_of cs)) cs (each_named cs) in
    rw (many, whole) (ap all_some (map_map (λ n. find (λ c. bytes_eq c.name n) cs) (λ c. c.name) cs) ∙ all_found (λ c. find (λ d. bytes_eq d.name c.name) cs) cs (each_found cs h))

-- the values under the names are those of the row
pub order_back : (cs : List Column) (vs : List Val) → names_differ cs ≡ true → row_fits cs vs ≡ true → in_catalog_order cs (names_of cs) vs ≡ vs
order_back [] [] h fits = refl
order_back [] (v ∷ vs) h fits = cc
order_back (c ∷ cs) [] h fits = cc
order_back (c ∷ cs) (v ∷ vs) h fits =
    let p = and_parts _ _ h in
    let q = and_parts _ _ fits in
    let first : value_named (names_of (c ∷ cs)) (v ∷ vs) c.name ≡ v = rw (same_name c.name) refl in
    let later = map_on {A = Column} (λ d. bytes_eq c.name d.name ≡ false) (λ d. value_named (names_of (c ∷ cs)) (v ∷ vs) d.name) (λ d. value_named (names_of cs) vs d.name)
    (λ d other. rw (turned c.name d.name other) refl) cs (others c cs h) in
    rw (first, later) (ap (λ ws. v ∷ ws) (order_back cs vs p.1 q.1))
