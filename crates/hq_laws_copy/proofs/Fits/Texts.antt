-- The names of added columns differ, from each other and from all that do not begin as they do.
use Rattle.std.proofs.Common.{◌≡◌, ℕ, ◌≤◌, ◌<◌, ◌^◌, List, [], ◌∷◌, ◌++◌, length, Bool, true, false, ◌==◌, refl, sym, ap, ap₂, ◌∙◌, arith, length-append}
use Rattle.std.proofs.lemmas.Bool.{false≢true, eq-eqb, lt-ltb, le-leb, and_from}
use Rattle.std.proofs.lemmas.Slice.Eq.{bytes_eq-Decides}
use Rattle.std.proofs.lemmas.Fmt.{decimal_is_IsNumeral_wide, length-decimal-le_wide}
use Rattle.std.specs.Fmt.{decimal}
use Rattle.std.specs.Prelude.{bytes_eq, codes, nat_lt, nat_le}
use Rattle.std.specs.Str.Parse.{digits_value}
use Rattle.hq_model.specs.Catalog.{is_catalog_name}
use Rattle.hq_copy_definition.specs.Extras.{Extra, from_end, to_end, row_position, extra_name}
use Rattle.hq_copy_definition.specs.Refusals.{is_kept_name}

-- texts that are not the same differ
pub texts_differ : (x y : List ℕ) → (x ≡ y → ⊥) → bytes_eq x y ≡ false
texts_differ x y h =
    let go : (b : Bool) → bytes_eq x y ≡ b → b ≡ false = elim [ true ↦ λ e. absurd (h ((bytes_eq-Decides x y).0 e)) | false ↦ λ e. refl ] in
    go (bytes_eq x y) refl

-- a difference, the other way round
pub bytes_turn : (x y : List ℕ) → bytes_eq x y ≡ false → bytes_eq y x ≡ false
bytes_turn x y h = texts_differ y x (λ same. false≢true (sym h ∙ (bytes_eq-Decides x y).1 (sym same)))

-- ---- the last byte

abbrev last_byte : List ℕ → ℕ
last_byte [] = 0
last_byte (c ∷ []) = c
last_byte (c ∷ d ∷ cs) = last_byte (d ∷ cs)

last_joined : (xs : List ℕ) (c : ℕ) (cs : List ℕ) → last_byte (xs ++ c ∷ cs) ≡ last_byte (c ∷ cs)
last_joined [] c cs = refl
last_joined (x ∷ []) c cs = refl
last_joined (x ∷ y ∷ xs) c cs = last_joined (y ∷ xs) c cs

-- texts whose last bytes differ
pub ends_differ : (x y : List ℕ) (a b : ℕ) → last_byte x ≡ a → last_byte y ≡ b → (a == b) ≡ false → bytes_eq x y ≡ false
ends_differ x y a b e f h = texts_differ x y (λ same. false≢true (sym h ∙ eq-eqb a b (sym e ∙ ap last_byte same ∙ f)))

-- m, o and s
abbrev last_of : Extra → ℕ
last_of (from_end k l) = 109
last_of (to_end k l) = 111
last_of row_position = 115

last_is : (e : Extra) → last_byte (extra_name e) ≡ last_of e
last_is (from_end k l) = last_joined (codes "hq_r" ++ decimal k) 95 (102 ∷ 114 ∷ 111 ∷ 109 ∷ [])
last_is (to_end k l) = last_joined (codes "hq_r" ++ decimal k) 95 (116 ∷ 111 ∷ [])
last_is row_position = refl

-- a field for aggregates is no added column's
pub aggregate_differs : (name : List ℕ) (e : Extra) → bytes_eq (extra_name e) (name ++ codes "_aggregate") ≡ false
aggregate_differs name e = ends_differ (extra_name e) (name ++ codes "_aggregate") (last_of e) 101 (last_is e) (last_joined name 95 (codes "aggregate")) (not_e e)
  where
    not_e : (e : Extra) → (last_of e == 101) ≡ false
    not_e (from_end k l) = refl
    not_e (to_end k l) = refl
    not_e row_position = refl

-- ---- the front

-- the names of added columns begin in one way
pub extra_kept : (e : Extra) → is_kept_name (extra_name e) ≡ true
extra_kept (from_end k l) = refl
extra_kept (to_end k l) = refl
extra_kept row_position = refl

-- a name that does not is none of theirs
pub unkept_differs : (name : List ℕ) (e : Extra) → is_kept_name name ≡ false → bytes_eq name (extra_name e) ≡ false
unkept_differs name e h = texts_differ name (extra_name e) (λ same. false≢true (sym h ∙ ap is_kept_name same ∙ extra_kept e))

pub unkept_differs_back : (e : Extra) (name : List ℕ) → is_kept_name name ≡ false → bytes_eq (extra_name e) name ≡ false
unkept_differs_back e name h = texts_differ (extra_name e) name (λ same. false≢true (sym h ∙ ap is_kept_name (sym same) ∙ extra_kept e))

-- ---- the numbers

same_front : (xs ys zs : List ℕ) → length xs ≡ length ys → xs ++ zs ≡ ys ++ zs → xs ≡ ys
same_front [] [] zs l e = refl
same_front [] (y ∷ ys) zs l e = absurd (omega arith)
same_front (x ∷ xs) [] zs l e = absurd (omega arith)
same_front (x ∷ xs) (y ∷ ys) zs l e =
    let shorter : length xs ≡ length ys = omega arith in
    let here : x ≡ y = cc in
    let rest : xs ++ zs ≡ ys ++ zs = cc in
    ap₂ (λ a b. a ∷ b) here (same_front xs ys zs shorter rest)

long_front : (xs ys zs : List ℕ) → xs ++ zs ≡ ys ++ zs → length xs ≡ length ys
long_front xs ys zs e = let whole = ap length e in omega (arith, length-append xs zs, length-append ys zs)

-- the number of an added column, which is 0 of the position
abbrev pub number_of : Extra → ℕ
number_of (from_end k l) = k
number_of (to_end k l) = k
number_of row_position = 0

abbrev pub Small : ℕ → Type 0
Small k = k < 10 ^ 20

decimal_one : (k j : ℕ) → Small k → Small j → decimal k ≡ decimal j → k ≡ j
decimal_one k j small little e =
    let wide : k < 10 ^ 64 = omega arith in
    let broad : j < 10 ^ 64 = omega arith in
    sym (decimal_is_IsNumeral_wide k wide).1 ∙ ap (digits_value 10) e ∙ (decimal_is_IsNumeral_wide j broad).1

middle_one : (k j : ℕ) (rest : List ℕ) → Small k → Small j → codes "hq_r" ++ decimal k ++ rest ≡ codes "hq_r" ++ decimal j ++ rest → k ≡ j
middle_one k j rest small little e =
    let tails : decimal k ++ rest ≡ decimal j ++ rest = cc in
    decimal_one k j small little (same_front (decimal k) (decimal j) rest (long_front (decimal k) (decimal j) rest tails) tails)

-- two added columns that are not of one kind and one number
abbrev pub one_extra : Extra → Extra → Bool
one_extra (from_end k l) (from_end j i) = k == j
one_extra (to_end k l) (to_end j i) = k == j
one_extra row_position row_position = true
one_extra _ _ = false

pub extras_differ : (e f : Extra) → Small (number_of e) → Small (number_of f) → one_extra e f ≡ false → bytes_eq (extra_name e) (extra_name f) ≡ false
extras_differ (from_end k l) (from_end j i) a b h = texts_differ _ _ (λ same. false≢true (sym h ∙ eq-eqb k j (middle_one k j (codes "_from") a b same)))
extras_differ (from_end k l) (to_end j i) a b h = ends_differ (extra_name (from_end k l)) (extra_name (to_end j i)) 109 111 (last_is (from_end k l)) (last_is (to_end j i)) refl
extras_differ (from_end k l) row_position a b h = ends_differ (extra_name (from_end k l)) (extra_name row_position) 109 115 (last_is (from_end k l)) refl refl
extras_differ (to_end k l) (from_end j i) a b h = ends_differ (extra_name (to_end k l)) (extra_name (from_end j i)) 111 109 (last_is (to_end k l)) (last_is (from_end j i)) refl
extras_differ (to_end k l) (to_end j i) a b h = texts_differ _ _ (λ same. false≢true (sym h ∙ eq-eqb k j (middle_one k j (codes "_to") a b same)))
extras_differ (to_end k l) row_position a b h = ends_differ (extra_name (to_end k l)) (extra_name row_position) 111 115 (last_is (to_end k l)) refl refl
extras_differ row_position (from_end j i) a b h = ends_differ (extra_name row_position) (extra_name (from_end j i)) 115 109 refl (last_is (from_end j i)) refl
extras_differ row_position (to_end j i) a b h = ends_differ (extra_name row_position) (extra_name (to_end j i)) 115 111 refl (last_is (to_end j i)) refl
extras_differ row_position row_position a b h = absurd (false≢true (sym h))

-- ---- the length

short_decimal : (k : ℕ) → Small k → length (decimal k) ≤ 20
short_decimal k small = let wide : k < 10 ^ 64 = omega arith in length-decimal-le_wide 20 k (omega arith) small wide

catalog_name : (name : List ℕ) → 0 < length name → length name ≤ 63 → is_catalog_name name ≡ true
catalog_name name some short = and_from (nat_lt 0 (length name)) (nat_le (length name) 63) (lt-ltb 0 (length name) some) (le-leb (length name) 63 short)

pub extra_catalog_name : (e : Extra) → Small (number_of e) → is_catalog_name (extra_name e) ≡ true
extra_catalog_name (from_end k l) small =
    let short = short_decimal k small in
    catalog_name (extra_name (from_end k l)) (omega arith) (omega (arith, length-append (decimal k) (codes "_from")))
extra_catalog_name (to_end k l) small =
    let short = short_decimal k small in
    catalog_name (extra_name (to_end k l)) (omega arith) (omega (arith, length-append (decimal k) (codes "_to")))
extra_catalog_name row_position small = refl
