-- Which JSON values are read back from their compact text, and as what: a JSON object has no order (RFC 8259, section 4), and
-- serde_json holds its members in ascending order of their names.
use Rattle.std.specs.Prelude.{◌≡◌, ℕ, suc, ◌^◌, ◌≤◌, max, nat_lt, ℤ, pos, negsuc, Bool, true, ◌&&◌, not, List, [], ◌∷◌}
use Rattle.std.specs.Cmp.Lexicographic.{slice_cmp}
use Rattle.std.specs.Ordering.{nat_cmp}
use Rattle.std.specs.Str.{is_utf8}
use Rattle.std.specs.declared.cmp.Ordering.{Ordering}
use Rattle.hq_base.specs.Json.{JsonTree, null, bool, int, str, arr, obj, ElementTrees, no_element, element, MemberTrees, no_member, member, members_of, has_distinct_names}
use Rattle.hq_base.specs.Lists.{sort}
use Rattle.hq_base.specs.Text.{has_zero}

-- a whole number of 64 bits with sign
abbrev pub fits_64_bits : ℤ → Bool
fits_64_bits (pos n) = nat_lt n (2 ^ 63)
fits_64_bits (negsuc n) = nat_lt n (2 ^ 63)

-- UTF-8 without a zero byte
abbrev pub is_clean : List ℕ → Bool
is_clean text = is_utf8 text && not (has_zero text)

-- each number fits 64 bits with sign, and each name and text is UTF-8 without a zero byte
abbrev mutual
  pub has_clean_parts : JsonTree → Bool
  has_clean_parts null = true
  has_clean_parts (bool b) = true
  has_clean_parts (int n) = fits_64_bits n
  has_clean_parts (str s) = is_clean s
  has_clean_parts (arr js) = elements_have_clean_parts js
  has_clean_parts (obj ms) = members_have_clean_parts ms

  pub elements_have_clean_parts : ElementTrees → Bool
  elements_have_clean_parts no_element = true
  elements_have_clean_parts (element j js) = has_clean_parts j && elements_have_clean_parts js

  pub members_have_clean_parts : MemberTrees → Bool
  members_have_clean_parts no_member = true
  members_have_clean_parts (member name j ms) = is_clean name && (has_clean_parts j && members_have_clean_parts ms)

-- how deep lists and objects nest
abbrev mutual
  pub nesting : JsonTree → ℕ
  nesting null = 0
  nesting (bool b) = 0
  nesting (int n) = 0
  nesting (str s) = 0
  nesting (arr js) = suc (elements_nesting js)
  nesting (obj ms) = suc (members_nesting ms)

  pub elements_nesting : ElementTrees → ℕ
  elements_nesting no_element = 0
  elements_nesting (element j js) = max (nesting j) (elements_nesting js)

  pub members_nesting : MemberTrees → ℕ
  members_nesting no_member = 0
  members_nesting (member name j ms) = max (nesting j) (members_nesting ms)

-- the compact text of the value can be read back
pub record IsReadable (j : JsonTree) : Type 0 where
  pub clean : has_clean_parts j ≡ true
  pub distinct : has_distinct_names j ≡ true
  pub shallow : nesting j ≤ 127

-- members by the bytes of their names
abbrev pub by_name : {A : Type 0} → List ℕ × A → List ℕ × A → Ordering
by_name m n = slice_cmp nat_cmp m.0 n.0

-- the value with the members of each object in ascending order of their names
abbrev mutual
  pub in_name_order : JsonTree → JsonTree
  in_name_order null = null
  in_name_order (bool b) = bool b
  in_name_order (int n) = int n
  in_name_order (str s) = str s
  in_name_order (arr js) = arr (elements_in_name_order js)
  in_name_order (obj ms) = obj (members_of (sort by_name (ordered_inside ms)))

  pub elements_in_name_order : ElementTrees → ElementTrees
  elements_in_name_order no_element = no_element
  elements_in_name_order (element j js) = element (in_name_order j) (elements_in_name_order js)

  -- the members in their own order, with the values in name order
  pub ordered_inside : MemberTrees → List (List ℕ × JsonTree)
  ordered_inside no_member = []
  ordered_inside (member name j ms) = (name, in_name_order j) ∷ ordered_inside ms
