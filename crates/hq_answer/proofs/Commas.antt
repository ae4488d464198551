-- Texts with a comma between each two, written one by one.
use Rattle.std.proofs.Common.{◌≡◌, ◌∙◌, refl, ap, sym, List, [], ◌∷◌, ◌++◌, ℕ, zero, suc, ◌+◌, ◌<◌, ◌==◌, map, take, get_or, length, if◌then◌else◌, append_assoc, arith}
use Rattle.std.proofs.lemmas.Bool.{ne_eqb}
use Rattle.std.proofs.lemmas.List.{take_more, length-take-le, length-map, map-append}
use Rattle.std.specs.List.{join_with_byte}

joined_later : (c : ℕ) (x : List ℕ) (xs : List (List ℕ)) (t : List ℕ) → join_with_byte c ((x ∷ xs) ++ t ∷ []) ≡ join_with_byte c (x ∷ xs) ++ c ∷ t
joined_later c x [] t = refl
joined_later c x (y ∷ xs) t = ap (λ rest. x ++ c ∷ rest) (joined_later c y xs t) ∙ sym (append_assoc x (c ∷ join_with_byte c (y ∷ xs)) (c ∷ t))

-- one more text stands behind a comma, but for the first
joined_more : (c n : ℕ) (texts : List (List ℕ)) (t : List ℕ) → length texts ≡ n → join_with_byte c (texts ++ t ∷ []) ≡ join_with_byte c texts ++ ((if n == 0 then [] else c ∷ []) ++ t)
joined_more c zero [] t e = refl
joined_more c (suc n) [] t e = absurd (omega arith)
joined_more c zero (x ∷ xs) t e = absurd (omega arith)
joined_more c (suc n) (x ∷ xs) t e = rw (ne_eqb (suc n) 0 (λ h. omega arith)) (joined_later c x xs t)

-- the text of the next item behind those of the items so far
pub next_part : {A : Type 0} (text : A → List ℕ) (xs : List A) (i : ℕ) (x : A) (begin now comma after : List ℕ) → i < length xs → x ≡ get_or xs i x
    → now ≡ begin ++ join_with_byte 44 (map text (take i xs)) → comma ≡ now ++ (if i == 0 then [] else 44 ∷ []) → after ≡ comma ++ text x
    → after ≡ begin ++ join_with_byte 44 (map text (take (i + 1) xs))
next_part text xs i x begin now comma after h is a b e =
    let size : length (map text (take i xs)) ≡ i = simp length-map (length-take-le i xs (omega arith)) in
    let next : join_with_byte 44 (map text (take (i + 1) xs)) ≡ join_with_byte 44 (map text (take i xs)) ++ ((if i == 0 then [] else 44 ∷ []) ++ text (get_or xs i x)) =
    ap (λ ys. join_with_byte 44 (map text ys)) (take_more xs i x h) ∙ rw map-append (joined_more 44 i (map text (take i xs)) (text (get_or xs i x)) size) in
    rw (e, b, a, next, ← is) (simp append_assoc)

-- a name in quotes, a colon and a text, each behind what was there
pub named_part : (comma name text named colon after : List ℕ) → named ≡ comma ++ name → colon ≡ named ++ 58 ∷ [] → after ≡ colon ++ text → after ≡ comma ++ (name ++ 58 ∷ text)
named_part comma name text named colon after a b e = rw (e, b, a) (simp append_assoc)
