-- The compact text of an array or object, part by part.
use Rattle.std.proofs.Common.{◌≡◌, ◌∙◌, ap, sym, refl, ℕ, zero, suc, ◌+◌, ◌<◌, ◌==◌, List, [], ◌∷◌, ◌++◌, map, take, get_or, length, if◌then◌else◌, append_assoc, arith}
use Rattle.std.specs.List.{join_with_byte}
use Rattle.std.proofs.lemmas.Bool.{ne_eqb}
use Rattle.std.proofs.lemmas.List.{take_more, length-take-le, length-map, map-append}
use Rattle.hq_base.specs.Json.{JsonTree, json_view, member_view, elements_of, members_of}
use Rattle.hq_base.specs.Compact.{compact, quoted, element_texts, member_texts}
use Rattle.hq_base.specs.declared.json.Json.{Json}
use Rattle.hq_base.specs.declared.json.Member.{Member}

joined_later : (c : ℕ) (x : List ℕ) (xs : List (List ℕ)) (t : List ℕ) → join_with_byte c ((x ∷ xs) ++ t ∷ []) ≡ join_with_byte c (x ∷ xs) ++ c ∷ t
joined_later c x [] t = refl
joined_later c x (y ∷ xs) t = ap (λ rest. x ++ c ∷ rest) (joined_later c y xs t) ∙ sym (append_assoc x (c ∷ join_with_byte c (y ∷ xs)) (c ∷ t))

-- one more text stands behind a comma, but for the first
joined_more : (c n : ℕ) (texts : List (List ℕ)) (t : List ℕ) → length texts ≡ n → join_with_byte c (texts ++ t ∷ []) ≡ join_with_byte c texts ++ ((if n == 0 then [] else c ∷ []) ++ t)
joined_more c zero [] t e = refl
joined_more c (suc n) [] t e = absurd (omega arith)
joined_more c zero (x ∷ xs) t e = absurd (omega arith)
joined_more c (suc n) (x ∷ xs) t e = rw (ne_eqb (suc n) 0 (λ h. omega arith)) (joined_later c x xs t)

joined_next : {A : Type 0} (text : A → List ℕ) (xs : List A) (i : ℕ) (d : A) → i < length xs
    → join_with_byte 44 (map text (take (i + 1) xs)) ≡ join_with_byte 44 (map text (take i xs)) ++ ((if i == 0 then [] else 44 ∷ []) ++ text (get_or xs i d))
joined_next text xs i d h =
    let size : length (map text (take i xs)) ≡ i = simp length-map (length-take-le i xs (omega arith)) in
    ap (λ ys. join_with_byte 44 (map text ys)) (take_more xs i d h) ∙ rw map-append (joined_more 44 i (map text (take i xs)) (text (get_or xs i d)) size)

element_texts-map : (js : List Json) → element_texts (elements_of (map json_view js)) ≡ map (λ j. compact (json_view j)) js
element_texts-map [] = refl
element_texts-map (j ∷ js) = ap (λ texts. compact (json_view j) ∷ texts) (element_texts-map js)

abbrev member_text : List ℕ × JsonTree → List ℕ
member_text m = quoted m.0 ++ 58 ∷ compact m.1

member_texts-map : (ms : List Member) → member_texts (members_of (map member_view ms)) ≡ map (λ m. member_text (member_view m)) ms
member_texts-map [] = refl
member_texts-map (m ∷ ms) = ap (λ texts. member_text (member_view m) ∷ texts) (member_texts-map ms)

pub one_more_element : (js : List Json) (i : ℕ) (j : Json) (begin now comma after : List ℕ) → i < length js → j ≡ get_or js i j
    → now ≡ begin ++ join_with_byte 44 (element_texts (elements_of (map json_view (take i js))))
    → comma ≡ now ++ (if i == 0 then [] else 44 ∷ []) → after ≡ comma ++ compact (json_view j)
    → after ≡ begin ++ join_with_byte 44 (element_texts (elements_of (map json_view (take (i + 1) js))))
one_more_element js i j begin now comma after h is a b e =
    let next = joined_next (λ (x : Json). compact (json_view x)) js i j h in
    rw (e, b, a, element_texts-map (take i js), element_texts-map (take (i + 1) js), next, ← is) (simp append_assoc)

regroup : (begin joined comma name value : List ℕ) → (((((begin ++ joined) ++ comma) ++ name) ++ 58 ∷ []) ++ value) ≡ begin ++ (joined ++ (comma ++ (name ++ 58 ∷ value)))
regroup begin joined comma name value = simp append_assoc

pub one_more_member : (ms : List Member) (i : ℕ) (m : Member) (name : List ℕ) (j : JsonTree) (begin now comma named colon after : List ℕ)
    → i < length ms → m ≡ get_or ms i m → member_view m ≡ (name, j)
    → now ≡ begin ++ join_with_byte 44 (member_texts (members_of (map member_view (take i ms))))
    → comma ≡ now ++ (if i == 0 then [] else 44 ∷ []) → named ≡ comma ++ quoted name → colon ≡ named ++ 58 ∷ [] → after ≡ colon ++ compact j
    → after ≡ begin ++ join_with_byte 44 (member_texts (members_of (map member_view (take (i + 1) ms))))
one_more_member ms i m name j begin now comma named colon after h is view a b e f g =
    let next = joined_next (λ (x : Member). member_text (member_view x)) ms i m h in
    rw (g, f, e, b, a, member_texts-map (take i ms), member_texts-map (take (i + 1) ms), next, ← is, view) (regroup begin _ _ (quoted name) (compact j))
