-- The text of an object of introspection, member by member.
use Rattle.std.proofs.Common.{◌≡◌, ◌∙◌, refl, sym, ap, ℕ, zero, suc, ◌+◌, ◌<◌, ◌==◌, List, [], ◌∷◌, ◌++◌, length, map, take, get_or, if◌then◌else◌, append_assoc, rules, arith}
use Rattle.std.specs.List.{join_with_byte}
use Rattle.std.proofs.lemmas.Bool.{ne_eqb}
use Rattle.std.proofs.lemmas.List.{take_more, length-take-le, length-map, map-append}
use Rattle.hq_base.specs.Compact.{compact, quoted, element_texts, member_texts}
use Rattle.hq_base.specs.Json.{JsonTree, elements_of}
use Rattle.hq_request_tree.specs.Introspection.{IntrospectionTree, keyed_introspection_view, introspection_view}
use Rattle.hq_request_tree.specs.declared.introspection.IntroField.{the_lemmas}
use Rattle.hq_request_tree.specs.declared.introspection.KeyedIntroField.{KeyedIntroField, out-KeyedIntroField}
use Rattle.hq_schema.specs.Schema.{SchemaTree}
use Rattle.hq_request_introspect.specs.Nodes.{NodeTree}
use Rattle.hq_request_introspect.specs.Selections.{members, value}
use Rattle.hq_request_introspect.specs.Views.{fields_view}

-- ---- texts behind commas

joined_later : (c : ℕ) (x : List ℕ) (xs : List (List ℕ)) (t : List ℕ) → join_with_byte c ((x ∷ xs) ++ t ∷ []) ≡ join_with_byte c (x ∷ xs) ++ c ∷ t
joined_later c x [] t = refl
joined_later c x (y ∷ xs) t = ap (λ rest. x ++ c ∷ rest) (joined_later c y xs t) ∙ sym (append_assoc x (c ∷ join_with_byte c (y ∷ xs)) (c ∷ t))

-- one more text stands behind a comma, but for the first
joined_more : (c n : ℕ) (texts : List (List ℕ)) (t : List ℕ) → length texts ≡ n → join_with_byte c (texts ++ t ∷ []) ≡ join_with_byte c texts ++ ((if n == 0 then [] else c ∷ []) ++ t)
joined_more c zero [] t e = refl
joined_more c (suc n) [] t e = absurd (omega arith)
joined_more c zero (x ∷ xs) t e = absurd (omega arith)
joined_more c (suc n) (x ∷ xs) t e = rw (ne_eqb (suc n) 0 (λ h. omega arith)) (joined_later c x xs t)

joined_next : {A : Type 0} (text : A → List ℕ) (xs : List A) (i : ℕ) (d : A) → i < length xs
    → join_with_byte 44 (map text (take (i + 1) xs)) ≡ join_with_byte 44 (map text (take i xs)) ++ ((if i == 0 then [] else 44 ∷ []) ++ text (get_or xs i d))
joined_next text xs i d h =
    let size : length (map text (take i xs)) ≡ i = simp length-map (length-take-le i xs (omega arith)) in
    ap (λ ys. join_with_byte 44 (map text ys)) (take_more xs i d h) ∙ rw map-append (joined_more 44 i (map text (take i xs)) (text (get_or xs i d)) size)

-- ---- members

-- a field under its key, level by level
pub keyed-fields : (f : KeyedIntroField) → keyed_introspection_view f ≡ ((out-KeyedIntroField f).key, introspection_view (out-KeyedIntroField f).field)
keyed-fields f = search (rules, the_lemmas)

-- the text of the member for a selected field
abbrev member_text : SchemaTree → NodeTree → List ℕ × IntrospectionTree → List ℕ
member_text s n f = quoted f.0 ++ 58 ∷ compact (value f.1 s n)

member_texts-map : (s : SchemaTree) (n : NodeTree) (fs : List KeyedIntroField) → member_texts (members (fields_view fs) s n) ≡ map (λ f. member_text s n (keyed_introspection_view f)) fs
member_texts-map s n [] = refl
member_texts-map s n (f ∷ fs) = ap (λ texts. member_text s n (keyed_introspection_view f) ∷ texts) (member_texts-map s n fs)

regroup : (begin joined comma name value : List ℕ) → (((((begin ++ joined) ++ comma) ++ name) ++ 58 ∷ []) ++ value) ≡ begin ++ (joined ++ (comma ++ (name ++ 58 ∷ value)))
regroup begin joined comma name value = simp append_assoc

-- one more member
pub one_more_member : (s : SchemaTree) (n : NodeTree) (fs : List KeyedIntroField) (i : ℕ) (f : KeyedIntroField) (key : List ℕ)
    (look : IntrospectionTree) (begin now comma named colon after : List ℕ)
    → i < length fs → f ≡ get_or fs i f → keyed_introspection_view f ≡ (key, look)
    → now ≡ begin ++ join_with_byte 44 (member_texts (members (fields_view (take i fs)) s n))
    → comma ≡ now ++ (if i == 0 then [] else 44 ∷ []) → named ≡ comma ++ quoted key → colon ≡ named ++ 58 ∷ [] → after ≡ colon ++ compact (value look s n)
    → after ≡ begin ++ join_with_byte 44 (member_texts (members (fields_view (take (i + 1) fs)) s n))
one_more_member s n fs i f key look begin now comma named colon after h is view a b e g k =
    let next = joined_next (λ (x : KeyedIntroField). member_text s n (keyed_introspection_view x)) fs i f h in
    rw (k, g, e, b, a, member_texts-map s n (take i fs), member_texts-map s n (take (i + 1) fs), next, ← is, view) (regroup begin _ _ (quoted key) (compact (value look s n)))

-- ---- a list of objects

element_texts-map : {A : Type 0} (json : A → JsonTree) (xs : List A) → element_texts (elements_of (map json xs)) ≡ map (λ x. compact (json x)) xs
element_texts-map json [] = refl
element_texts-map json (x ∷ xs) = ap (λ texts. compact (json x) ∷ texts) (element_texts-map json xs)

map_twice : {A B C : Type 0} (f : B → C) (g : A → B) (xs : List A) → map f (map g xs) ≡ map (λ x. f (g x)) xs
map_twice f g [] = refl
map_twice f g (x ∷ xs) = ap (λ ys. f (g x) ∷ ys) (map_twice f g xs)

-- one more object
pub one_more_object : {A B : Type 0} (json : B → JsonTree) (view : A → B) (xs : List A) (i : ℕ) (x : A) (begin now comma after : List ℕ) → i < length xs → x ≡ get_or xs i x
    → now ≡ begin ++ join_with_byte 44 (element_texts (elements_of (map json (map view (take i xs)))))
    → comma ≡ now ++ (if i == 0 then [] else 44 ∷ []) → after ≡ comma ++ compact (json (view x))
    → after ≡ begin ++ join_with_byte 44 (element_texts (elements_of (map json (map view (take (i + 1) xs)))))
one_more_object {A} json view xs i x begin now comma after h is a b e =
    let next = joined_next (λ (y : A). compact (json (view y))) xs i x h in
    rw (
      e,
      b,
      a,
      map_twice json view (take i xs),
      map_twice json view (take (i + 1) xs),
      element_texts-map (λ y. json (view y)) (take i xs),
      element_texts-map (λ y. json (view y)) (take (i + 1) xs),
      next,
      ← is,
    )
    (simp append_assoc)
