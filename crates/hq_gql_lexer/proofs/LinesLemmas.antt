-- The lines of a block string.
use Rattle.std.proofs.Common.{◌≡◌, ℕ, suc, ◌+◌, ◌-◌, ◌<◌, ◌≤◌, Bool, true, false, cond, min, List, [], ◌∷◌, ◌++◌, length, take, drop, map, Option, Some, None, refl, sym, ap, ◌∙◌, ⊎_elim, subst, append_assoc, IsTrue, arith}
use Rattle.std.specs.Prelude.{not, ◌||◌, ◌==◌, reverse, slice_range}
use Rattle.std.specs.List.{prefix_len, suffix_len, join_with_byte, flat_map, drop-map, take-map}
use mathlib.Core.List.{reverse-cons}
use Rattle.std.proofs.lemmas.Bool.{cases_Bool, cond-true, cond-false, false≢true}
use Rattle.std.proofs.lemmas.List.{append-nil, length-map, map-append, length-drop}
use Rattle.std.proofs.lemmas.Slice.{between_to_end}
use Rattle.hq_gql_lexer.specs.Characters.{is_line_end, next_is}
use Rattle.hq_gql_lexer.specs.BlockStrings.{onto_first, lines_of, lesser}

-- a test of what a list is mapped to
pub prefix_len-map : {X Y : Type 0} (p : Y → Bool) (f : X → Y) (xs : List X) → prefix_len p (map f xs) ≡ prefix_len (λ x. p (f x)) xs
prefix_len-map p f [] = refl
prefix_len-map p f (x ∷ xs) = ap (λ n. cond (p (f x)) (1 + n) 0) (prefix_len-map p f xs)

-- a byte inside a line
abbrev pub not_end : ℕ → Bool
not_end b = not (is_line_end b)

-- a map of a list from behind
reverse-map : {X Y : Type 0} (f : X → Y) (xs : List X) → reverse (map f xs) ≡ map f (reverse xs)
reverse-map f [] = refl
reverse-map f (x ∷ xs) =
    reverse-cons (f x) (map f xs) ∙ ap (λ ys. ys ++ f x ∷ []) (reverse-map f xs) ∙ sym (map-append f (reverse xs) (x ∷ [])) ∙ ap (map f) (sym (reverse-cons x xs))

-- lines joined: the first, and each other one behind a line feed
pub join_cons : (line : List ℕ) (lines : List (List ℕ)) → join_with_byte 10 (line ∷ lines) ≡ line ++ flat_map (λ l. 10 ∷ l) lines
join_cons line [] = sym (append-nil line)
join_cons line (next ∷ lines) = ap (λ more. line ++ 10 ∷ more) (join_cons next lines)

-- the least of some indentation and that of the lines to come
abbrev pub least_with : Option ℕ → Option ℕ → Option ℕ
least_with None other = other
least_with (Some n) other = lesser n other

-- the least of three numbers, two by two
lesser_twice : (n m : ℕ) (other : Option ℕ) → lesser n (lesser m other) ≡ lesser (min n m) other
lesser_twice n m None = refl
lesser_twice n m (Some k) = ap Some (omega arith)

-- what a slice without its front is mapped to
pub map-without_front : {X Y : Type 0} (p : Y → Bool) (f : X → Y) (xs : List X) (n : ℕ) → n ≡ prefix_len (λ x. p (f x)) xs
    → map f (slice_range xs n (length xs)) ≡ drop (prefix_len p (map f xs)) (map f xs)
map-without_front p f xs n e =
    ap (map f) (between_to_end xs n (length xs) (omega arith)) ∙ sym (drop-map f n xs) ∙ ap (λ k. drop k (map f xs)) (e ∙ sym (prefix_len-map p f xs))

-- the same without its back
pub map-without_back : {X Y : Type 0} (p : Y → Bool) (f : X → Y) (xs : List X) (n : ℕ) → n ≡ suffix_len (λ x. p (f x)) xs
    → map f (take (length xs - n) xs) ≡ take (length (map f xs) - suffix_len p (map f xs)) (map f xs)
map-without_back p f xs n e =
    let counted : n ≡ suffix_len p (map f xs) = e ∙ sym (prefix_len-map p f (reverse xs)) ∙ ap (prefix_len p) (sym (reverse-map f xs)) in
    sym (take-map f (length xs - n) xs) ∙ ap (λ k. take k (map f xs)) (ap (λ m. m - n) (sym (length-map xs f)) ∙ ap (λ m. length (map f xs) - m) counted)

-- the last of three where both tests fail
neither : {A : Type 0} (s t : Bool) (x y z : A) → not (s || t) ≡ true → cond s x (cond t y z) ≡ z
neither true t x y z h = absurd (false≢true h)
neither false true x y z h = absurd (false≢true h)
neither false false x y z h = refl

-- a byte that ends no line stands on the first one
pub inside : (b : ℕ) (bytes : List ℕ) → not_end b ≡ true → lines_of (b ∷ bytes) ≡ onto_first b (lines_of bytes)
inside b bytes h = neither (b == 10) (b == 13) _ _ _ h

-- how far a list passes a test that its first passes, or fails
pub prefix_len_yes : {X : Type 0} (p : X → Bool) (x : X) (xs : List X) → p x ≡ true → prefix_len p (x ∷ xs) ≡ suc (prefix_len p xs)
prefix_len_yes p x xs h = cond-true (p x) (1 + prefix_len p xs) 0 h ∙ omega arith

-- a front ends at what fails the test
pub prefix_len_no : {X : Type 0} (p : X → Bool) (x : X) (xs : List X) → p x ≡ false → prefix_len p (x ∷ xs) ≡ 0
prefix_len_no p x xs h = cond-false (p x) (1 + prefix_len p xs) 0 h

-- a line that ends
pub line_then : (bytes : List ℕ) (more : List (List ℕ)) → prefix_len not_end bytes < length bytes
    → lines_of (drop (prefix_len not_end bytes) bytes) ≡ [] ∷ more → lines_of bytes ≡ take (prefix_len not_end bytes) bytes ∷ more
line_then [] more some e = absurd (omega arith)
line_then (b ∷ bytes) more some e = ⊎_elim
    (λ (within : not_end b ≡ true).
    let len = prefix_len_yes not_end b bytes within in
    let behind = subst (λ n. lines_of (drop n (b ∷ bytes)) ≡ [] ∷ more) len e in
    inside b bytes within ∙ ap (onto_first b) (line_then bytes more (omega (arith, len)) behind) ∙ ap (λ n. take n (b ∷ bytes) ∷ more) (sym len))
    (λ (ends : not_end b ≡ false).
    let len = prefix_len_no not_end b bytes ends in
    subst (λ n. lines_of (drop n (b ∷ bytes)) ≡ [] ∷ more) len e ∙ ap (λ n. take n (b ∷ bytes) ∷ more) (sym len))
    (cases_Bool (not_end b))

-- the last line
pub line_last : (bytes : List ℕ) → length bytes ≤ prefix_len not_end bytes → lines_of bytes ≡ take (prefix_len not_end bytes) bytes ∷ []
line_last [] all = refl
line_last (b ∷ bytes) all = ⊎_elim
    (λ (within : not_end b ≡ true).
    let len = prefix_len_yes not_end b bytes within in
    inside b bytes within ∙ ap (onto_first b) (line_last bytes (omega (arith, len))) ∙ ap (λ n. take n (b ∷ bytes) ∷ []) (sym len))
    (λ (ends : not_end b ≡ false).
    let len = prefix_len_no not_end b bytes ends in
    absurd (omega (arith, len)))
    (cases_Bool (not_end b))

-- behind a line stands a line end
end_of : (s t : Bool) → not (s || t) ≡ false → (s || t) ≡ true
end_of true t h = refl
end_of false true h = refl
end_of false false h = absurd (false≢true (sym h))

-- behind a line that is not the last there is a line end
pub end_after : (bytes : List ℕ) → prefix_len not_end bytes < length bytes → next_is is_line_end (drop (prefix_len not_end bytes) bytes) ≡ true
end_after [] some = absurd (omega arith)
end_after (b ∷ bytes) some = ⊎_elim
    (λ (within : not_end b ≡ true).
    let len = prefix_len_yes not_end b bytes within in
    ap (λ n. next_is is_line_end (drop n (b ∷ bytes))) len ∙ end_after bytes (omega (arith, len)))
    (λ (ends : not_end b ≡ false).
    let len = prefix_len_no not_end b bytes ends in
    ap (λ n. next_is is_line_end (drop n (b ∷ bytes))) len ∙ end_of (b == 10) (b == 13) ends)
    (cases_Bool (not_end b))

-- a loop over lines: those so far, one more, and those to come
pub lines_end : (so_far all : List (List ℕ)) (rest line after : List ℕ) (n : ℕ)
    → so_far ++ lines_of rest ≡ all → n ≡ prefix_len not_end rest → line ≡ take n rest → after ≡ drop n rest → length after ≡ 0
    → so_far ++ line ∷ [] ≡ all
lines_end so_far all rest line after n e len front back none =
    let whole : length rest ≤ prefix_len not_end rest = omega (arith, len, ap length back, length-drop n rest) in
    ap (λ l. so_far ++ l ∷ []) (front ∙ ap (λ k. take k rest) len) ∙ ap (λ ls. so_far ++ ls) (sym (line_last rest whole)) ∙ e

-- a turn of the loop over lines: one line more, and those of what follows its end
pub lines_on : (so_far all : List (List ℕ)) (rest line after next : List ℕ) (n : ℕ)
    → so_far ++ lines_of rest ≡ all → n ≡ prefix_len not_end rest → line ≡ take n rest → after ≡ drop n rest → 0 < length after
    → (IsTrue (next_is is_line_end after) → lines_of after ≡ [] ∷ lines_of next)
    → (so_far ++ line ∷ []) ++ lines_of next ≡ all
lines_on so_far all rest line after next n e len front back some behind =
    let more : prefix_len not_end rest < length rest = omega (arith, len, ap length back, length-drop n rest) in
    let here : after ≡ drop (prefix_len not_end rest) rest = back ∙ ap (λ k. drop k rest) len in
    let ends : next_is is_line_end after ≡ true = ap (next_is is_line_end) here ∙ end_after rest more in
    let split = line_then rest (lines_of next) more (ap lines_of (sym here) ∙ behind ends) in
    append_assoc so_far (line ∷ []) (lines_of next) ∙ ap (λ l. so_far ++ l ∷ lines_of next) (front ∙ ap (λ k. take k rest) len)
    ∙ ap (λ ls. so_far ++ ls) (sym split) ∙ e
