-- What serde_json holds of a value's text: the data of the value in name order.
use Rattle.std.proofs.Common.{◌≡◌, ◌≢◌, ℕ, ◌^◌, ℤ, pos, negsuc, List, [], ◌∷◌, Bool, true, false, cond, not, is_gt, is_eq, Some, option_map, option_and_then, refl, sym, ap, ◌∙◌, arith, ltb-true, bytes_eq, Ordering, Less, Equal, Greater}
use Rattle.std.specs.Cmp.{IsTotalOrder}
use Rattle.std.specs.List.{list_any}
use Rattle.std.specs.Ordering.{match_ordering, ordering_reverse}
use Rattle.std.proofs.lemmas.Bool.{and_parts, or_parts}
use Rattle.std.proofs.lemmas.Cmp.{on_total, nat_list_cmp_total}
use Rattle.std.proofs.lemmas.Map.Text.{is_eq-slice_cmp}
use Rattle.serde_json.specs.Data as held
use Rattle.serde_json.specs.Find.{of_integer}
use Rattle.serde_json.specs.Read.{number_of, of_json, of_items, of_members}
use Rattle.serde_json.specs.Written.{number_text, outline, items_outline, members_outline}
use Rattle.serde_json.proofs.Numbers.{number_of-decimal, number_of-negative}
use Rattle.hq_base.specs.Json.{JsonTree, null, bool, int, str, arr, obj, ElementTrees, no_element, element, MemberTrees, no_member, member, names_of, has_distinct_names, elements_have_distinct_names, values_have_distinct_names}
use Rattle.hq_base.specs.Json as tree
use Rattle.hq_base.specs.Lists.{Each, put, sort, all_differ}
use Rattle.hq_base.proofs.Sorts.{each_put, commute}
use Rattle.hq_laws_written.specs.Json.ReadBack.{fits_64_bits, has_clean_parts, elements_have_clean_parts, members_have_clean_parts, by_name, in_name_order, elements_in_name_order, ordered_inside}
use Rattle.hq_laws_written.proofs.Json.Texts.{data_of, items_of, members_of}

-- ---- members with different names

abbrev Member : Type 0
Member = List ℕ × JsonTree

-- the two have different names
abbrev Apart : Member → Member → Type 0
Apart m n = by_name m n ≢ Equal

-- no two have one name
abbrev Differ : List Member → Type 0
Differ [] = Unit {0}
Differ (m ∷ ms) = Each (Apart m) ms × Differ ms

-- each of the first has another name than each of the second
abbrev AllApart : List Member → List Member → Type 0
AllApart ms ns = Each (λ m. Each (Apart m) ns) ms

pub by_name_total : IsTotalOrder (by_name {A = JsonTree})
by_name_total = on_total (λ m. m.0) nat_list_cmp_total

turned : (m n : Member) → Apart m n → Apart n m
turned m n apart is =
    let go : (o : Ordering) → ordering_reverse o ≡ Equal → o ≡ Equal = elim [ Less ↦ λ e. cc | Equal ↦ λ e. refl | Greater ↦ λ e. cc ] in
    apart (go (by_name m n) (sym (by_name_total.antisymm n m) ∙ is))

-- they may be put in either order
swapped : (m n : Member) → Apart m n → (ms : List Member) → put by_name n (put by_name m ms) ≡ put by_name m (put by_name n ms)
swapped m n apart ms =
    let back : (o : Ordering) → by_name m n ≡ o → by_name n m ≡ ordering_reverse o = λ o e. by_name_total.antisymm n m ∙ ap ordering_reverse e in
    let go : (o : Ordering) → by_name m n ≡ o → put by_name n (put by_name m ms) ≡ put by_name m (put by_name n ms) = elim [
      | Less ↦ λ e. commute by_name_total m n (ap is_gt e) (ap is_gt (back Less e)) ms
      | Equal ↦ λ e. absurd (apart e)
      | Greater ↦ λ e. sym (commute by_name_total n m (ap is_gt (back Greater e)) (ap is_gt e) ms)
    ] in
    go (by_name m n) refl

-- the members put one after another
abbrev put_all : List Member → List Member → List Member
put_all [] ns = ns
put_all (m ∷ ms) ns = put_all ms (put by_name m ns)

put_through : (m : Member) (ms ns : List Member) → Each (Apart m) ms → put_all ms (put by_name m ns) ≡ put by_name m (put_all ms ns)
put_through m [] ns h = refl
put_through m (n ∷ ms) ns h = ap (put_all ms) (swapped m n h.0 ns) ∙ put_through m ms (put by_name n ns) h.1

-- that is their sort
put_all_sort : (ms : List Member) → Differ ms → put_all ms [] ≡ sort by_name ms
put_all_sort [] h = refl
put_all_sort (m ∷ ms) h = put_through m ms [] h.0 ∙ ap (put by_name m) (put_all_sort ms h.1)

apart_put : (m : Member) (ms ns : List Member) → Each (Apart m) ms → AllApart ms ns → AllApart ms (put by_name m ns)
apart_put m [] ns h k = tt
apart_put m (n ∷ ms) ns h k = (each_put by_name (Apart n) m (turned m n h.0) ns k.0, apart_put m ms ns h.1 k.1)

apart_none : (ms : List Member) → AllApart ms []
apart_none [] = tt
apart_none (m ∷ ms) = (tt, apart_none ms)

-- names that differ
apart_names : (name : List ℕ) (j : JsonTree) (ms : MemberTrees) → list_any (bytes_eq name) (names_of ms) ≡ false → Each (Apart (name, j)) (ordered_inside ms)
apart_names name j no_member h = tt
apart_names name j (member k v ms) h =
    let p = or_parts (bytes_eq name k) _ h in
    ((λ e. let same : bytes_eq name k ≡ true = sym (is_eq-slice_cmp name k) ∙ ap is_eq e in cc), apart_names name j ms p.1)

not_true : (b : Bool) → not b ≡ true → b ≡ false
not_true true h = cc
not_true false h = refl

differ : (ms : MemberTrees) → all_differ bytes_eq (names_of ms) ≡ true → Differ (ordered_inside ms)
differ no_member h = tt
differ (member name j ms) h = let p = and_parts _ _ h in (apart_names name (in_name_order j) ms (not_true _ p.0), differ ms p.1)

-- ---- what serde_json holds

-- serde_json puts a member of another name where the sort does
put_member : (name : List ℕ) (j : JsonTree) (ns : List Member) → Each (Apart (name, j)) ns
    → held.put name (data_of j) (members_of (tree.members_of ns)) ≡ members_of (tree.members_of (put by_name (name, j) ns))
put_member name j [] h = refl
put_member name j (n ∷ ns) h =
    let rest = members_of (tree.members_of ns) in
    let last = held.member n.0 (data_of n.1) in
    let go : (o : Ordering) → o ≢ Equal → match_ordering o (held.member name (data_of j) (last rest)) (held.member n.0 (data_of j) rest) (last (held.put name (data_of j) rest))
    ≡ members_of (tree.members_of (cond (is_gt o) (n ∷ put by_name (name, j) ns) ((name, j) ∷ (n ∷ ns)))) = elim [
      | Less ↦ λ e. refl
      | Equal ↦ λ e. absurd (e refl)
      | Greater ↦ λ e. ap last (put_member name j ns h.1)
    ] in
    go (by_name (name, j) n) h.0

read_number : (n : ℤ) → fits_64_bits n ≡ true → number_of (number_text (of_integer n)) ≡ Some (of_integer n)
read_number (pos n) h = let small = ltb-true n (2 ^ 63) h in number_of-decimal n (omega arith)
read_number (negsuc n) h = number_of-negative n (ltb-true n (2 ^ 63) h)

mutual
  -- the text of a value is held as the value in name order
  pub held_in_order : (j : JsonTree) → has_clean_parts j ≡ true → has_distinct_names j ≡ true → of_json (outline (data_of j)) ≡ Some (data_of (in_name_order j))
  held_in_order null h d = refl
  held_in_order (bool b) h d = refl
  held_in_order (int n) h d = ap (option_map held.number) (read_number n h)
  held_in_order (str s) h d = refl
  held_in_order (arr js) h d = ap (option_map held.array) (items_in_order js h d)
  held_in_order (obj ms) h d =
      let p = and_parts _ _ d in
      ap (option_map held.object) (members_in_order ms [] h p.1 (differ ms p.0) (apart_none (ordered_inside ms)))
      ∙ ap (λ l. Some (held.object (members_of (tree.members_of l)))) (put_all_sort (ordered_inside ms) (differ ms p.0))

  items_in_order : (js : ElementTrees) → elements_have_clean_parts js ≡ true → elements_have_distinct_names js ≡ true
      → of_items (items_outline (items_of js)) ≡ Some (items_of (elements_in_name_order js))
  items_in_order no_element h d = refl
  items_in_order (element j js) h d =
      let p = and_parts _ _ h in
      let q = and_parts _ _ d in
      ap (option_and_then (λ x. option_map (held.item x) (of_items (items_outline (items_of js))))) (held_in_order j p.0 q.0)
      ∙ ap (option_map (held.item (data_of (in_name_order j)))) (items_in_order js p.1 q.1)

  members_in_order : (ms : MemberTrees) (ns : List Member) → members_have_clean_parts ms ≡ true → values_have_distinct_names ms ≡ true
      → Differ (ordered_inside ms) → AllApart (ordered_inside ms) ns
      → of_members (members_outline (members_of ms)) (members_of (tree.members_of ns)) ≡ Some (members_of (tree.members_of (put_all (ordered_inside ms) ns)))
  members_in_order no_member ns h d apart from = refl
  members_in_order (member name j ms) ns h d apart from =
      let p = and_parts _ _ (and_parts _ _ h).1 in
      let q = and_parts _ _ d in
      let rest = members_outline (members_of ms) in
      let one : Member = (name, in_name_order j) in
      ap (option_and_then (λ x. of_members rest (held.put name x (members_of (tree.members_of ns))))) (held_in_order j p.0 q.0)
      ∙ ap (of_members rest) (put_member name (in_name_order j) ns from.0)
      ∙ members_in_order ms (put by_name one ns) p.1 q.1 apart.1 (apart_put one (ordered_inside ms) ns apart.0 from.1)
