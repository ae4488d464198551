-- A table's name with the ends of root fields is free.
use Rattle.std.proofs.Common.{◌≡◌, ℕ, List, [], ◌∷◌, ◌++◌, Bool, true, false, not, ◌&&◌, codes, refl}
use Rattle.std.specs.Prelude.{bytes_eq, nat_eq}
use Rattle.std.specs.List.{list_all}
use Rattle.std.proofs.lemmas.Bool.{and_parts, and_from, not-true, not_from_false}
use Rattle.hq_model.specs.Names.{is_reserved, is_name, is_free_name, starts_name, continues_name, is_table_name}

all_continue-append : (xs ys : List ℕ) → list_all continues_name xs ≡ true → list_all continues_name ys ≡ true → list_all continues_name (xs ++ ys) ≡ true
all_continue-append [] ys h k = k
all_continue-append (x ∷ xs) ys h k =
    let parts = and_parts (continues_name x) (list_all continues_name xs) h in
    and_from (continues_name x) (list_all continues_name (xs ++ ys)) parts.0 (all_continue-append xs ys parts.1 k)

is_name-append : (name end : List ℕ) → is_name name ≡ true → list_all continues_name end ≡ true → is_name (name ++ end) ≡ true
is_name-append [] end h k = cc
is_name-append (c ∷ cs) end h k =
    let parts = and_parts (starts_name c) (list_all continues_name cs) h in
    and_from (starts_name c) (list_all continues_name (cs ++ end)) parts.0 (all_continue-append cs end parts.1 k)

is_reserved-append : (name end : List ℕ) → is_name name ≡ true → is_reserved name ≡ false → bytes_eq name (codes "_") ≡ false → is_reserved (name ++ (95 ∷ end)) ≡ false
is_reserved-append [] end h k long = cc
is_reserved-append (c ∷ []) end h k long = by (nat_eq c 95) refl long
  where
    by : (b : Bool) → nat_eq c 95 ≡ b → (b && true) ≡ false → (b && true) ≡ false
    by b is e = e
is_reserved-append (c ∷ d ∷ cs) end h k long = k

-- a table's name is free
pub table_name-free : (name : List ℕ) → is_table_name name ≡ true → is_free_name name ≡ true
table_name-free name h = (and_parts (is_free_name name) (not (bytes_eq name (codes "_"))) h).0

-- and so it is with an end behind an underscore
pub with_end-free : (name end : List ℕ) → is_table_name name ≡ true → list_all continues_name (95 ∷ end) ≡ true → is_free_name (name ++ (95 ∷ end)) ≡ true
with_end-free name end h k =
    let outer = and_parts (is_free_name name) (not (bytes_eq name (codes "_"))) h in
    let free = and_parts (is_name name) (not (is_reserved name)) outer.0 in
    and_from (is_name (name ++ (95 ∷ end))) (not (is_reserved (name ++ (95 ∷ end)))) (is_name-append name (95 ∷ end) free.0 k)
    (not_from_false (is_reserved (name ++ (95 ∷ end))) (is_reserved-append name end free.0 (not-true (is_reserved name) free.1) (not-true (bytes_eq name (codes "_")) outer.1)))
