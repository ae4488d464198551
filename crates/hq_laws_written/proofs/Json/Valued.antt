-- The value of what is held of a value in name order is that value.
use Rattle.std.proofs.Common.{◌≡◌, ℕ, ℤ, pos, negsuc, List, [], ◌∷◌, Bool, true, false, not, Ok, Some, ok_or, refl, ap, ◌∙◌}
use Rattle.std.proofs.lemmas.Bool.{and_parts}
use Rattle.serde_json.specs.Find.{of_integer, as_i64}
use Rattle.hq_base.specs.Body.{clean, value_of, elements_in, members_in}
use Rattle.hq_base.specs.Due.{and_then, mapped}
use Rattle.hq_base.specs.Json.{JsonTree, null, bool, int, str, arr, obj, ElementTrees, no_element, element, MemberTrees, no_member, member, elements_of}
use Rattle.hq_base.specs.Json as tree
use Rattle.hq_base.specs.Lists.{Each, sort}
use Rattle.hq_base.specs.Text.{has_zero}
use Rattle.hq_base.specs.declared.body.JsonRefusal.TheVariants.{Fraction}
use Rattle.hq_base.proofs.Sorts.{each_sort}
use Rattle.hq_laws_written.specs.Json.ReadBack.{fits_64_bits, is_clean, has_clean_parts, elements_have_clean_parts, members_have_clean_parts, by_name, in_name_order, elements_in_name_order, ordered_inside}
use Rattle.hq_laws_written.proofs.Json.Texts.{data_of, items_of, members_of}

-- a number that fits is held whole
whole : (n : ℤ) → fits_64_bits n ≡ true → as_i64 (of_integer n) ≡ Some n
whole (pos n) h = rw h refl
whole (negsuc n) h = refl

cleaned : (s : List ℕ) → is_clean s ≡ true → clean s ≡ Ok s
cleaned s h =
    let go : (b : Bool) → has_zero s ≡ b → not b ≡ true → clean s ≡ Ok s = elim [ true ↦ λ e n. cc | false ↦ λ e n. rw e refl ] in
    go (has_zero s) refl (and_parts _ _ h).1

-- the elements as a list
abbrev listed : ElementTrees → List JsonTree
listed no_element = []
listed (element j js) = j ∷ listed js

elements_listed : (js : ElementTrees) → elements_of (listed js) ≡ js
elements_listed no_element = refl
elements_listed (element j js) = ap (element j) (elements_listed js)

-- the member's name and value are read as they are
abbrev Back : List ℕ × JsonTree → Type 0
Back m = (clean m.0 ≡ Ok m.0) × (value_of (data_of m.1) ≡ Ok m.1)

members_back : (ms : List (List ℕ × JsonTree)) → Each Back ms → members_in (members_of (tree.members_of ms)) ≡ Ok ms
members_back [] h = refl
members_back (m ∷ ms) h =
    let rest = members_in (members_of (tree.members_of ms)) in
    ap (and_then (λ name. and_then (λ j. mapped (λ js. (name, j) ∷ js) rest) (value_of (data_of m.1)))) h.0.0
    ∙ ap (and_then (λ j. mapped (λ js. (m.0, j) ∷ js) rest)) h.0.1
    ∙ ap (mapped (λ js. (m.0, m.1) ∷ js)) (members_back ms h.1)

mutual
  pub valued : (j : JsonTree) → has_clean_parts j ≡ true → value_of (data_of (in_name_order j)) ≡ Ok (in_name_order j)
  valued null h = refl
  valued (bool b) h = refl
  valued (int n) h = ap (λ o. mapped int (ok_or o Fraction)) (whole n h)
  valued (str s) h = ap (mapped str) (cleaned s h)
  valued (arr js) h = ap (mapped (λ l. arr (elements_of l))) (elements_valued js h) ∙ ap (λ l. Ok (arr l)) (elements_listed (elements_in_name_order js))
  valued (obj ms) h = ap (mapped (λ l. obj (tree.members_of l))) (members_back (sort by_name (ordered_inside ms)) (each_sort by_name Back (ordered_inside ms) (members_valued ms h)))

  elements_valued : (js : ElementTrees) → elements_have_clean_parts js ≡ true → elements_in (items_of (elements_in_name_order js)) ≡ Ok (listed (elements_in_name_order js))
  elements_valued no_element h = refl
  elements_valued (element j js) h =
      let p = and_parts _ _ h in
      ap (and_then (λ x. mapped (λ l. x ∷ l) (elements_in (items_of (elements_in_name_order js))))) (valued j p.0)
      ∙ ap (mapped (λ l. in_name_order j ∷ l)) (elements_valued js p.1)

  members_valued : (ms : MemberTrees) → members_have_clean_parts ms ≡ true → Each Back (ordered_inside ms)
  members_valued no_member h = tt
  members_valued (member name j ms) h =
      let p = and_parts _ _ h in
      let q = and_parts _ _ p.1 in
      ((cleaned name p.0, valued j q.0), members_valued ms q.1)
