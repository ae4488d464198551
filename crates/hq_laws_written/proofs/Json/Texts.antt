-- The compact text of a value is what serde_json writes of the data that the value stands for.
use Rattle.std.proofs.Common.{◌≡◌, ℕ, zero, suc, ◌/◌, ◌%◌, ◌==◌, ◌||◌, nat_lt, pos, negsuc, List, [], ◌∷◌, ◌++◌, Bool, true, false, cond, flat_map, Option, Some, None, refl, ap, ap₂, ◌∙◌, append_assoc, arith, lt-ltb}
use Rattle.std.specs.Char.{digit_char}
use Rattle.std.specs.List.{join_with_byte}
use Rattle.json.specs.Print.{escape_byte, escape, quoted}
use Rattle.serde_json.specs.Data.{Data, Items, no_items, item, Members, no_members}
use Rattle.serde_json.specs.Data as held
use Rattle.serde_json.specs.Find.{of_integer}
use Rattle.serde_json.specs.Written.{compact_text, items_text, members_text}
use Rattle.hq_base.specs.Compact.{escaped, unless_short, compact, element_texts, member_texts}
use Rattle.hq_base.specs.Compact as own
use Rattle.hq_base.specs.Json.{JsonTree, null, bool, int, str, arr, obj, ElementTrees, no_element, element, MemberTrees, no_member, member}

-- the data of a value, its members in their own order
abbrev mutual
  pub data_of : JsonTree → Data
  data_of null = held.null
  data_of (bool b) = held.boolean b
  data_of (int n) = held.number (of_integer n)
  data_of (str s) = held.string s
  data_of (arr js) = held.array (items_of js)
  data_of (obj ms) = held.object (members_of ms)

  pub items_of : ElementTrees → Items
  items_of no_element = no_items
  items_of (element j js) = item (data_of j) (items_of js)

  pub members_of : MemberTrees → Members
  members_of no_member = no_members
  members_of (member name j ms) = held.member name (data_of j) (members_of ms)

-- ---- names and texts

-- the letter of an escape, where one of the tests is met
abbrev letter : ℕ → (a b c d e f : Bool) → ℕ
letter x a b c d e f = cond a x (cond b 98 (cond c 102 (cond d 110 (cond e 114 (cond f 116 0)))))

abbrev own_letter : ℕ → (a b c d e f : Bool) → Option ℕ
own_letter x a b c d e f = cond a (Some x) (cond b (Some 98) (cond c (Some 102) (cond d (Some 110) (cond e (Some 114) (cond f (Some 116) None)))))

abbrev unless_none : ℕ → ℕ → List ℕ
unless_none x l = cond (nat_lt 0 l) (92 ∷ l ∷ []) (cond (nat_lt x 32) (92 ∷ 117 ∷ 48 ∷ 48 ∷ digit_char (x / 16) ∷ digit_char (x % 16) ∷ []) (x ∷ []))

by_tests : (x : ℕ) (a b c d e f : Bool) → (a ≡ true → nat_lt 0 x ≡ true) → unless_short x (own_letter x a b c d e f) ≡ unless_none x (letter x a b c d e f)
by_tests x true b c d e f some = rw (some refl) refl
by_tests x false true c d e f some = refl
by_tests x false false true d e f some = refl
by_tests x false false false true e f some = refl
by_tests x false false false false true f some = refl
by_tests x false false false false false true some = refl
by_tests x false false false false false false some = refl

some_byte : (x : ℕ) → ((x == 34) || (x == 92)) ≡ true → nat_lt 0 x ≡ true
some_byte zero h = cc
some_byte (suc x) h = lt-ltb 0 (suc x) (omega arith)

-- both write the same for a byte
same_escape : (x : ℕ) → escaped x ≡ escape_byte x
unfolding escaped escape_byte
same_escape x = by_tests x ((x == 34) || (x == 92)) (x == 8) (x == 12) (x == 10) (x == 13) (x == 9) (some_byte x)

same_escapes : (s : List ℕ) → flat_map escaped s ≡ escape s
same_escapes [] = refl
same_escapes (x ∷ xs) = ap₂ (λ (a b : List ℕ). a ++ b) (same_escape x) (same_escapes xs)

-- both write the same for a name or text
same_quoted : (s : List ℕ) → own.quoted s ≡ quoted s
same_quoted s = ap (λ t. 34 ∷ (t ++ 34 ∷ [])) (same_escapes s)

-- ---- values

mutual
  -- both write the same for a value
  pub same_text : (j : JsonTree) → compact j ≡ compact_text (data_of j)
  same_text null = refl
  same_text (bool true) = refl
  same_text (bool false) = refl
  same_text (int (pos n)) = refl
  same_text (int (negsuc n)) = refl
  same_text (str s) = same_quoted s
  same_text (arr js) = ap (λ t. 91 ∷ t) (same_items js)
  same_text (obj ms) = ap (λ t. 123 ∷ t) (same_members ms)

  same_items : (js : ElementTrees) → join_with_byte 44 (element_texts js) ++ 93 ∷ [] ≡ items_text false (items_of js)
  same_items no_element = refl
  same_items (element j js) = items_from (compact j) (data_of j) (same_text j) js

  -- the elements from one on
  items_from : (t : List ℕ) (d : Data) → t ≡ compact_text d → (js : ElementTrees) → join_with_byte 44 (t ∷ element_texts js) ++ 93 ∷ [] ≡ compact_text d ++ items_text true (items_of js)
  items_from t d is no_element = ap (λ s. s ++ 93 ∷ []) is
  items_from t d is (element j js) =
      append_assoc t (44 ∷ join_with_byte 44 (compact j ∷ element_texts js)) (93 ∷ [])
      ∙ ap₂ (λ (a b : List ℕ). a ++ 44 ∷ b) is (items_from (compact j) (data_of j) (same_text j) js)

  same_members : (ms : MemberTrees) → join_with_byte 44 (member_texts ms) ++ 125 ∷ [] ≡ members_text false (members_of ms)
  same_members no_member = refl
  same_members (member name j ms) = members_from name (compact j) (data_of j) (same_text j) ms

  -- the members from one on
  members_from : (name t : List ℕ) (d : Data) → t ≡ compact_text d → (ms : MemberTrees)
      → join_with_byte 44 ((own.quoted name ++ 58 ∷ t) ∷ member_texts ms) ++ 125 ∷ [] ≡ quoted name ++ 58 ∷ (compact_text d ++ members_text true (members_of ms))
  members_from name t d is no_member = append_assoc (own.quoted name) (58 ∷ t) (125 ∷ []) ∙ ap₂ (λ (q s : List ℕ). q ++ 58 ∷ (s ++ 125 ∷ [])) (same_quoted name) is
  members_from name t d is (member k j ms) =
      let rest = join_with_byte 44 ((own.quoted k ++ 58 ∷ compact j) ∷ member_texts ms) in
      append_assoc (own.quoted name ++ 58 ∷ t) (44 ∷ rest) (125 ∷ [])
      ∙ append_assoc (own.quoted name) (58 ∷ t) (44 ∷ (rest ++ 125 ∷ []))
      ∙ ap₂ (λ (q s : List ℕ). q ++ 58 ∷ (s ++ 44 ∷ (rest ++ 125 ∷ []))) (same_quoted name) is
      ∙ ap (λ r. quoted name ++ 58 ∷ (compact_text d ++ 44 ∷ r)) (members_from k (compact j) (data_of j) (same_text j) ms)
