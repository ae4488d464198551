-- What json's grammar reads of a compact text, and that the text is UTF-8.
use Rattle.std.proofs.Common.{◌≡◌, ℕ, suc, ◌^◌, ◌<◌, ◌≤◌, max, ℤ, pos, negsuc, List, [], ◌∷◌, Bool, true, false, option_and_then, IsUtf8, refl, sym, ap, ap₂, ◌∙◌, subst, arith, append-nil, ltb-true}
use Rattle.std.proofs.lemmas.Bool.{and_parts}
use Rattle.std.proofs.lemmas.Fmt.{IsAscii-signed}
use Rattle.std.proofs.lemmas.Str.{IsUtf8-append, IsUtf8-nil, IsUtf8-from_ascii, IsUtf8-from_is_utf8}
use Rattle.std.specs.Fmt.{signed_decimal}
use lib.Signed.{mag}
use Rattle.json.specs.Json as json
use Rattle.json.specs.Print.{quoted, IsNumber}
use Rattle.json.specs.Tree.{json_tokens, HasNumbers, ItemsHaveNumbers, MembersHaveNumbers}
use Rattle.json.specs.Tree as tree
use Rattle.json.proofs.Printed.Decimals.{IsNumber-signed_decimal}
use Rattle.json.proofs.Printed.Tokens.{tokens-print}
use Rattle.json.proofs.Printed.Trees.{value-json_tokens, ArePrintable-json_tokens}
use Rattle.json.proofs.Printed.Utf8.{IsUtf8-are_ascii, IsUtf8-quoted, IsUtf8-boolean}
use Rattle.serde_json.specs.Find.{of_integer}
use Rattle.serde_json.specs.Read.{of_json, read, max_depth}
use Rattle.serde_json.specs.Written.{number_text, outline, items_outline, members_outline, comma_if, compact_text, items_text, members_text}
use Rattle.serde_json.proofs.Texts.{print-outline}
use Rattle.hq_base.specs.Json.{JsonTree, null, bool, int, str, arr, obj, ElementTrees, no_element, element, MemberTrees, no_member, member}
use Rattle.hq_laws_written.specs.Json.ReadBack.{fits_64_bits, is_clean, has_clean_parts, elements_have_clean_parts, members_have_clean_parts, nesting, elements_nesting, members_nesting}
use Rattle.hq_laws_written.proofs.Json.Texts.{data_of, items_of, members_of}

-- ---- numbers

small : (n : ℤ) → fits_64_bits n ≡ true → mag n < 2 ^ 63
small (pos n) h = ltb-true n (2 ^ 63) h
small (negsuc n) h = ltb-true n (2 ^ 63) h

-- a number is written with its sign
signed : (n : ℤ) → signed_decimal n ≡ number_text (of_integer n)
signed (pos n) = refl
signed (negsuc n) = refl

mutual
  -- each number's text is one of JSON
  numbers : (j : JsonTree) → has_clean_parts j ≡ true → HasNumbers (outline (data_of j))
  numbers null h = tt
  numbers (bool b) h = tt
  numbers (int n) h = subst IsNumber (signed n) (IsNumber-signed_decimal n (small n h))
  numbers (str s) h = tt
  numbers (arr js) h = item_numbers js h
  numbers (obj ms) h = member_numbers ms h

  item_numbers : (js : ElementTrees) → elements_have_clean_parts js ≡ true → ItemsHaveNumbers (items_outline (items_of js))
  item_numbers no_element h = tt
  item_numbers (element j js) h = let p = and_parts _ _ h in (numbers j p.0, item_numbers js p.1)

  member_numbers : (ms : MemberTrees) → members_have_clean_parts ms ≡ true → MembersHaveNumbers (members_outline (members_of ms))
  member_numbers no_member h = tt
  member_numbers (member name j ms) h = let p = and_parts _ _ (and_parts _ _ h).1 in (numbers j p.0, member_numbers ms p.1)

-- ---- depth

mutual
  -- the text nests as the value does
  same_depth : (j : JsonTree) → tree.depth (outline (data_of j)) ≡ nesting j
  same_depth null = refl
  same_depth (bool b) = refl
  same_depth (int n) = refl
  same_depth (str s) = refl
  same_depth (arr js) = ap suc (items_depth js)
  same_depth (obj ms) = ap suc (members_depth ms)

  items_depth : (js : ElementTrees) → tree.items_depth (items_outline (items_of js)) ≡ elements_nesting js
  items_depth no_element = refl
  items_depth (element j js) = ap₂ max (same_depth j) (items_depth js)

  members_depth : (ms : MemberTrees) → tree.members_depth (members_outline (members_of ms)) ≡ members_nesting ms
  members_depth no_member = refl
  members_depth (member name j ms) = ap₂ max (same_depth j) (members_depth ms)

-- ---- reading

-- the text is read as what its values are read as
pub read_printed : (j : JsonTree) → has_clean_parts j ≡ true → nesting j ≤ 127 → read (compact_text (data_of j)) ≡ of_json (outline (data_of j))
read_printed j clean shallow =
    let o = outline (data_of j) in
    let shallow_text : tree.depth o ≤ max_depth = omega (arith, same_depth j) in
    ap read (sym (print-outline (data_of j)))
    ∙ ap (λ ts. option_and_then of_json (option_and_then (λ p. json.if_last p.0 p.1) (json.value max_depth ts)))
    (tokens-print (json_tokens o) (ArePrintable-json_tokens o (numbers j clean)) ∙ sym (append-nil (json_tokens o)))
    ∙ ap (λ r. option_and_then of_json (option_and_then (λ p. json.if_last p.0 p.1) r)) (value-json_tokens o max_depth [] shallow_text)

-- ---- UTF-8

comma : (later : Bool) → IsUtf8 (comma_if later)
comma true = IsUtf8-are_ascii (44 ∷ []) refl
comma false = IsUtf8-nil

clean_text : (s : List ℕ) → is_clean s ≡ true → IsUtf8 (quoted s)
clean_text s h = IsUtf8-quoted s (IsUtf8-from_is_utf8 s (and_parts _ _ h).0)

mutual
  -- the text is UTF-8 where the names and texts are
  pub utf8 : (j : JsonTree) → has_clean_parts j ≡ true → IsUtf8 (compact_text (data_of j))
  utf8 null h = IsUtf8-are_ascii _ refl
  utf8 (bool b) h = IsUtf8-boolean b
  utf8 (int n) h = subst IsUtf8 (signed n) (IsUtf8-from_ascii (signed_decimal n) (IsAscii-signed n (small n h)))
  utf8 (str s) h = clean_text s h
  utf8 (arr js) h = IsUtf8-append (91 ∷ []) _ (IsUtf8-are_ascii (91 ∷ []) refl) (items_utf8 false js h)
  utf8 (obj ms) h = IsUtf8-append (123 ∷ []) _ (IsUtf8-are_ascii (123 ∷ []) refl) (members_utf8 false ms h)

  items_utf8 : (later : Bool) (js : ElementTrees) → elements_have_clean_parts js ≡ true → IsUtf8 (items_text later (items_of js))
  items_utf8 later no_element h = IsUtf8-are_ascii (93 ∷ []) refl
  items_utf8 later (element j js) h = let p = and_parts _ _ h in IsUtf8-append _ _ (comma later) (IsUtf8-append _ _ (utf8 j p.0) (items_utf8 true js p.1))

  members_utf8 : (later : Bool) (ms : MemberTrees) → members_have_clean_parts ms ≡ true → IsUtf8 (members_text later (members_of ms))
  members_utf8 later no_member h = IsUtf8-are_ascii (125 ∷ []) refl
  members_utf8 later (member name j ms) h =
      let p = and_parts _ _ h in
      let q = and_parts _ _ p.1 in
      let value = IsUtf8-append _ _ (utf8 j q.0) (members_utf8 true ms q.1) in
      IsUtf8-append _ _ (comma later) (IsUtf8-append _ _ (clean_text name p.0) (IsUtf8-append (58 ∷ []) _ (IsUtf8-are_ascii (58 ∷ []) refl) value))
