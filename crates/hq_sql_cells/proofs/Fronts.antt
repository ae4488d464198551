-- Texts whose fronts differ are ordered as these are.
use Rattle.std.proofs.Common.{◌≡◌, ◌∙◌, ◌<◌, ◌≤◌, ◌+◌, ◌*◌, ℕ, zero, suc, List, [], ◌∷◌, length, drop, get_or, Bool, true, false, cond, Option, Some, None, Ordering, Less, Equal, Greater, is_eq, refl, sym, ap, ap₂, subst, arith}
use Rattle.std.specs.Prelude.{unwrap_or}
use Rattle.std.proofs.lemmas.Bool.{true≢false}
use Rattle.std.specs.Cmp.Lexicographic.{slice_cmp}
use Rattle.std.specs.Ordering.{nat_cmp, ordering_then, ordering_reverse}
use Rattle.std.specs.Cmp.Lexicographic.{nat_list_cmp_total}
use Rattle.std.proofs.lemmas.Cmp.{ranked}
use Rattle.hq_base.specs.Aggregates.{first_cell}
use Rattle.hq_base.specs.Cells.{CellTree, null, int, text, bool, json, key_cmp}
use Rattle.hq_sql_cells.specs.Fronts.{AreBytes, digits, first_bytes, first_front, front_cmp, front_of}
use Rattle.hq_sql_cells.specs.Keys.{keys_cmp, other_cells}
use Rattle.hq_sql_cells.specs.declared.order.Direction.{Direction}

-- ---- numbers of digits

-- what differs before the further digits differs behind them
digits_lt : (n a b : ℕ) (xs ys : List ℕ) → AreBytes xs → a < b → digits n a xs < digits n b ys
digits_lt zero a b xs ys small h = h
digits_lt (suc n) a b [] [] small h = digits_lt n (a * 256) (b * 256) [] [] small (omega (arith, h))
digits_lt (suc n) a b [] (d ∷ ds) small h = digits_lt n (a * 256) (b * 256 + d) [] ds small (omega (arith, h))
digits_lt (suc n) a b (c ∷ cs) [] small h = digits_lt n (a * 256 + c) (b * 256) cs [] (λ i. small (suc i)) (omega (arith, h, small 0))
digits_lt (suc n) a b (c ∷ cs) (d ∷ ds) small h = digits_lt n (a * 256 + c) (b * 256 + d) cs ds (λ i. small (suc i)) (omega (arith, h, small 0))

-- zeros are the least digits
digits_le : (n a b : ℕ) (ys : List ℕ) → a ≤ b → digits n a [] ≤ digits n b ys
digits_le zero a b ys h = h
digits_le (suc n) a b [] h = digits_le n (a * 256) (b * 256) [] (omega (arith, h))
digits_le (suc n) a b (d ∷ ds) h = digits_le n (a * 256) (b * 256 + d) ds (omega (arith, h))

-- one digit more
digit_step : (n a c d : ℕ) (cs ds : List ℕ) (o : Ordering) → nat_cmp c d ≡ o → AreBytes (d ∷ ds) → digits n (a * 256 + c) cs < digits n (a * 256 + d) ds
    → (digits n (a * 256 + c) cs < digits n (a * 256 + c) ds → slice_cmp nat_cmp cs ds ≡ Less) → ordering_then (nat_cmp c d) (slice_cmp nat_cmp cs ds) ≡ Less
digit_step n a c d cs ds Less e sy h more = rw e refl
digit_step n a c d cs ds Equal e sy h more =
    let same : c ≡ d = ranked c d Equal (sym e) in
    rw e (more (subst (λ k. digits n (a * 256 + c) cs < digits n (a * 256 + k) ds) (sym same) h))
digit_step n a c d cs ds Greater e sy h more =
    let above : d < c = ranked c d Greater (sym e) in
    let small : d < 256 = sy 0 in
    let turned = digits_lt n (a * 256 + d) (a * 256 + c) ds cs (λ i. sy (suc i)) (omega (arith, above)) in
    absurd (omega (arith, h, turned))

-- texts of which one has the lesser front are so ordered
lesser : (n a : ℕ) (xs ys : List ℕ) → AreBytes xs → AreBytes ys → digits n a xs < digits n a ys → slice_cmp nat_cmp xs ys ≡ Less
lesser zero a xs ys sx sy h = absurd (omega (arith, h))
lesser (suc n) a [] [] sx sy h = absurd (omega (arith, h))
lesser (suc n) a [] (d ∷ ds) sx sy h = refl
lesser (suc n) a (c ∷ cs) [] sx sy h = let least = digits_le n (a * 256) (a * 256 + c) cs (omega arith) in absurd (omega (arith, h, least))
lesser (suc n) a (c ∷ cs) (d ∷ ds) sx sy h =
    digit_step n a c d cs ds (nat_cmp c d) refl sy h (λ later. lesser n (a * 256 + c) cs ds (λ i. sx (suc i)) (λ i. sy (suc i)) later)

get_or_none : (at : ℕ) → get_or {A = ℕ} [] at zero ≡ zero
get_or_none zero = refl
get_or_none (suc at) = refl

drop_none : {A : Type 0} (k : ℕ) → drop {A = A} k [] ≡ []
drop_none zero = refl
drop_none (suc k) = refl

-- one digit more than so many, taken from the front
pub digit_more : (n number at : ℕ) (bytes : List ℕ) → digits (suc n) number (drop at bytes) ≡ digits n (number * 256 + get_or bytes at 0) (drop (at + 1) bytes)
digit_more n number at [] =
    let e : number * 256 ≡ number * 256 + get_or {A = ℕ} [] at zero = omega (arith, get_or_none at) in
    ap (digits (suc n) number) (drop_none at) ∙ ap (λ k. digits n k []) e ∙ ap (digits n (number * 256 + get_or {A = ℕ} [] at zero)) (sym (drop_none (at + 1)))
digit_more n number zero (b ∷ bytes) = refl
digit_more n number (suc at) (b ∷ bytes) = let s : suc at + 1 ≡ suc (at + 1) = omega arith in rw s (digit_more n number at bytes)

-- how large a number of so many digits may be
abbrev pub room : ℕ → ℕ
room zero = 1
room (suc n) = room n * 256

pub room_more : (n : ℕ) → room (n + 1) ≡ room n * 256
room_more n = let s : n + 1 ≡ suc n = omega arith in ap room s

pub room_left : (n : ℕ) → n < 8 → room n * 256 ≤ 18446744073709551616
room_left zero h = omega arith
room_left (suc zero) h = omega arith
room_left (suc (suc zero)) h = omega arith
room_left (suc (suc (suc zero))) h = omega arith
room_left (suc (suc (suc (suc zero)))) h = omega arith
room_left (suc (suc (suc (suc (suc zero))))) h = omega arith
room_left (suc (suc (suc (suc (suc (suc zero)))))) h = omega arith
room_left (suc (suc (suc (suc (suc (suc (suc zero))))))) h = omega arith
room_left (suc (suc (suc (suc (suc (suc (suc (suc n)))))))) h = absurd (omega (arith, h))

-- ---- sort keys

-- the first sort key of two texts
texts_cmp : (desc nulls : Bool) (s t : List ℕ) → key_cmp desc nulls (text s) (text t) ≡ cond desc (ordering_then (slice_cmp nat_cmp t s) Equal) (ordering_then (slice_cmp nat_cmp s t) Equal)
texts_cmp true true s t = refl
texts_cmp true false s t = refl
texts_cmp false true s t = refl
texts_cmp false false s t = refl

greater : (a b : List ℕ) → slice_cmp nat_cmp a b ≡ Less → slice_cmp nat_cmp b a ≡ Greater
greater a b h = nat_list_cmp_total.antisymm b a ∙ ap ordering_reverse h

-- what the fronts of the first keys tell is the order of these keys
first_tells : (desc nulls : Bool) (x y : CellTree) (l r : ℕ) (o : Ordering) (s t : List ℕ) → x ≡ text s → y ≡ text t → l ≡ front_of s → r ≡ front_of t → AreBytes s → AreBytes t
    → o ≡ cond desc (nat_cmp r l) (nat_cmp l r) → is_eq o ≡ false → key_cmp desc nulls x y ≡ o
first_tells desc nulls x y l r o s t ex ey el er ss st eo differs = by desc o eo differs
  where
    by : (d : Bool) (o : Ordering) → o ≡ cond d (nat_cmp r l) (nat_cmp l r) → is_eq o ≡ false → key_cmp d nulls x y ≡ o
    by d Equal e f = cc
    by true Less e f =
        let below = ranked r l Less e in
        ap₂ (key_cmp true nulls) ex ey ∙ texts_cmp true nulls s t ∙ ap (λ q. ordering_then q Equal) (lesser 8 0 t s st ss (omega (arith, below, el, er)))
    by true Greater e f =
        let above = ranked r l Greater e in
        ap₂ (key_cmp true nulls) ex ey ∙ texts_cmp true nulls s t ∙ ap (λ q. ordering_then q Equal) (greater s t (lesser 8 0 s t ss st (omega (arith, above, el, er))))
    by false Less e f =
        let below = ranked l r Less e in
        ap₂ (key_cmp false nulls) ex ey ∙ texts_cmp false nulls s t ∙ ap (λ q. ordering_then q Equal) (lesser 8 0 s t ss st (omega (arith, below, el, er)))
    by false Greater e f =
        let above = ranked l r Greater e in
        ap₂ (key_cmp false nulls) ex ey ∙ texts_cmp false nulls s t ∙ ap (λ q. ordering_then q Equal) (greater t s (lesser 8 0 t s st ss (omega (arith, above, el, er))))

decided : (o p : Ordering) → is_eq o ≡ false → ordering_then o p ≡ o
decided Less p e = refl
decided Equal p e = cc
decided Greater p e = refl

first_of : (d : Direction) (ds : List Direction) (xs ys : List CellTree) (o : Ordering)
    → key_cmp d.desc d.nulls_first (first_cell xs) (first_cell ys) ≡ o → is_eq o ≡ false → keys_cmp (d ∷ ds) xs ys ≡ o
first_of d ds xs ys o e differs = ap (λ q. ordering_then q (keys_cmp ds (other_cells xs) (other_cells ys))) e ∙ decided o (keys_cmp ds (other_cells xs) (other_cells ys)) differs

-- a front is that of a text
text_first : (xs : List CellTree) (x : ℕ) → Some x ≡ first_front xs → (first_cell xs ≡ text (first_bytes xs)) × (x ≡ front_of (first_bytes xs))
text_first [] x e = cc
text_first (null ∷ xs) x e = cc
text_first (int n ∷ xs) x e = cc
text_first (text t ∷ xs) x e = (refl, ap (λ o. unwrap_or o 0) e)
text_first (bool b ∷ xs) x e = cc
text_first (json j ∷ xs) x e = cc

-- what is told is told by two fronts
told : (desc : Bool) (l r : Option ℕ) (o : Ordering) → o ≡ front_cmp desc l r → is_eq o ≡ false → (x : ℕ) × (y : ℕ) × (l ≡ Some x) × (r ≡ Some y)
told desc None r o e f = absurd (true≢false (sym (ap is_eq e) ∙ f))
told desc (Some x) None o e f = absurd (true≢false (sym (ap is_eq e) ∙ f))
told desc (Some x) (Some y) o e f = (x, y, refl, refl)

both_tell : (d : Direction) (ds : List Direction) (xs ys : List CellTree) (l r : Option ℕ) (o : Ordering) → l ≡ first_front xs → r ≡ first_front ys
    → AreBytes (first_bytes xs) → AreBytes (first_bytes ys) → o ≡ front_cmp d.desc l r → is_eq o ≡ false → keys_cmp (d ∷ ds) xs ys ≡ o
both_tell d ds xs ys l r o left right some others e differs =
    let found = told d.desc l r o e differs in
    let x = text_first xs found.0 (sym found.2 ∙ left) in
    let y = text_first ys found.1 (sym found.3 ∙ right) in
    let named : o ≡ cond d.desc (nat_cmp found.1 found.0) (nat_cmp found.0 found.1) = e ∙ ap₂ (front_cmp d.desc) found.2 found.3 in
    first_of d ds xs ys o
    (first_tells d.desc d.nulls_first (first_cell xs) (first_cell ys) found.0 found.1 o (first_bytes xs) (first_bytes ys) x.0 y.0 x.1 y.1 some others named differs) differs

-- what the fronts of two rows tell is the order of their keys
pub fronts_tell : (os : List Direction) (d : Direction) (xs ys : List CellTree) (l r : Option ℕ) (o : Ordering) → 0 < length os → d ≡ get_or os 0 d
    → l ≡ first_front xs → r ≡ first_front ys → AreBytes (first_bytes xs) → AreBytes (first_bytes ys) → o ≡ front_cmp d.desc l r → is_eq o ≡ false → keys_cmp os xs ys ≡ o
fronts_tell [] d xs ys l r o h is left right some others e differs = absurd (omega (arith, h))
fronts_tell (q ∷ qs) d xs ys l r o h is left right some others e differs =
    subst (λ k. keys_cmp (k ∷ qs) xs ys ≡ o) is (both_tell d qs xs ys l r o left right some others e differs)

-- nothing is told apart by no keys
pub no_keys : (os : List Direction) (xs ys : List CellTree) → length os ≡ 0 → Equal ≡ keys_cmp os xs ys
no_keys [] xs ys h = refl
no_keys (d ∷ ds) xs ys h = absurd (omega (arith, h))
