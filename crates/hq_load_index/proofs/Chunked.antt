-- The rows of values that stand one after the other.
use Rattle.std.proofs.Common.{◌≡◌, ℕ, zero, suc, ◌+◌, ◌*◌, ◌<◌, ◌≤◌, List, [], ◌∷◌, ◌++◌, flat_map, take, drop, length, length-append, get_or, refl, sym, ap, ap₂, ◌∙◌, arith}
use Rattle.std.proofs.lemmas.List.Concat.{flat_map-cons}
use Rattle.hq_base.specs.Lists.{Each}
use Rattle.hq_base.specs.declared.value.Val.{Val}
use Rattle.hq_load_index.specs.Chunks.{chunked}

pub length-chunked : (width count : ℕ) (values : List Val) → length (chunked width count values) ≡ count
length-chunked width zero values = refl
length-chunked width (suc count) values = ap suc (length-chunked width count (drop width values))

drop_none : (n : ℕ) → drop {A = Val} n [] ≡ []
drop_none zero = refl
drop_none (suc n) = refl

drop_drop : (n m : ℕ) (values : List Val) → drop n (drop m values) ≡ drop (m + n) values
drop_drop n zero values = let e : n ≡ 0 + n = omega arith in ap (λ k. drop k values) e
drop_drop n (suc m) [] = drop_none n ∙ sym (drop_none (suc m + n))
drop_drop n (suc m) (v ∷ vs) = let e : suc m + n ≡ suc (m + n) = omega arith in rw e (drop_drop n m vs)

-- a row begins behind those before it
pub row_at : (width count : ℕ) (values : List Val) (at : ℕ) → at < count → take width (drop (at * width) values) ≡ get_or (chunked width count values) at []
row_at width zero values at h = absurd (omega arith)
row_at width (suc count) values zero h = let e : 0 * width ≡ 0 = omega arith in rw e refl
row_at width (suc count) values (suc at) h =
    let e : suc at * width ≡ width + at * width = omega arith in
    rw e (ap (take width) (sym (drop_drop (at * width) width values)) ∙ row_at width count (drop width values) at (omega arith))

-- and behind the last row there is none
pub no_row_at : (width count : ℕ) (values : List Val) (at : ℕ) → count ≤ at → [] ≡ get_or (chunked width count values) at []
no_row_at width zero values at h = refl
no_row_at width (suc count) values zero h = absurd (omega arith)
no_row_at width (suc count) values (suc at) h = no_row_at width count (drop width values) at (omega arith)

take_front : (xs ys : List Val) → take (length xs) (xs ++ ys) ≡ xs
take_front [] ys = refl
take_front (x ∷ xs) ys = ap (λ l. x ∷ l) (take_front xs ys)

drop_front : (xs ys : List Val) → drop (length xs) (xs ++ ys) ≡ ys
drop_front [] ys = refl
drop_front (x ∷ xs) ys = drop_front xs ys

-- rows of one width, put one after the other and cut again
pub chunked_flat : (width : ℕ) (rows : List (List Val)) → Each (λ row. length row ≡ width) rows → chunked width (length rows) (flat_map (λ row. row) rows) ≡ rows
chunked_flat width [] h = refl
chunked_flat width (row ∷ rows) h =
    let rest = flat_map (λ (r : List Val). r) rows in
    let flat : flat_map (λ (r : List Val). r) (row ∷ rows) ≡ row ++ rest = flat_map-cons (λ (r : List Val). r) row rows in
    let front : take width (row ++ rest) ≡ row = ap (λ n. take n (row ++ rest)) (sym h.0) ∙ take_front row rest in
    let back : drop width (row ++ rest) ≡ rest = ap (λ n. drop n (row ++ rest)) (sym h.0) ∙ drop_front row rest in
    ap (λ vs. take width vs ∷ chunked width (length rows) (drop width vs)) flat
    ∙ ap₂ (λ r vs. r ∷ chunked width (length rows) vs) front back
    ∙ ap (λ l. row ∷ l) (chunked_flat width rows h.1)

pub length-flat : (width : ℕ) (rows : List (List Val)) → Each (λ row. length row ≡ width) rows → length (flat_map (λ row. row) rows) ≡ length rows * width
length-flat width [] h = let e : 0 * width ≡ 0 = omega arith in sym e
length-flat width (row ∷ rows) h =
    let flat = flat_map-cons (λ (r : List Val). r) row rows in
    let later = length-flat width rows h.1 in
    let e : suc (length rows) * width ≡ width + length rows * width = omega arith in
    ap length flat ∙ length-append row (flat_map (λ (r : List Val). r) rows) ∙ ap₂ (λ m n. m + n) h.0 later ∙ sym e
