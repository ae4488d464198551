-- Values that are built of lists: what of them can be read back, and what they are read as.
use Rattle.std.proofs.Common.{◌≡◌, ◌∙◌, ℕ, suc, ◌≤◌, ℤ, List, [], ◌∷◌, map, Bool, true, ◌&&◌, bytes_eq, refl, ap, arith}
use Rattle.std.specs.List.{list_all}
use Rattle.std.proofs.lemmas.Bool.{and_from, and_parts}
use Rattle.hq_base.specs.Json.{JsonTree, bool, int, str, elements_of, members_of, names_of, has_distinct_names, elements_have_distinct_names, values_have_distinct_names}
use Rattle.hq_base.specs.Lists.{Each, all_differ}
use Rattle.hq_base.specs.Look.{element_list, member_list}
use Rattle.hq_laws_written.specs.Json.Building.{object, list, texts}
use Rattle.hq_laws_written.specs.Json.ReadBack.{IsReadable, fits_64_bits, is_clean, has_clean_parts, elements_have_clean_parts, members_have_clean_parts, nesting, elements_nesting, members_nesting, in_name_order, elements_in_name_order, ordered_inside}

-- ---- what can be read back

-- a value that can be read back, with so much depth
pub record Readable (depth : ℕ) (j : JsonTree) : Type 0 where
  pub clean : has_clean_parts j ≡ true
  pub distinct : has_distinct_names j ≡ true
  pub shallow : nesting j ≤ depth

-- with up to 127 it can be read back from a file
pub readable : (depth : ℕ) (j : JsonTree) → depth ≤ 127 → Readable depth j → IsReadable j
readable depth j low h = record { clean = h.clean; distinct = h.distinct; shallow = omega (arith, low, h.shallow) }

pub text_readable : (depth : ℕ) (s : List ℕ) → is_clean s ≡ true → Readable depth (str s)
text_readable depth s h = record { clean = h; distinct = refl; shallow = omega arith }

pub bool_readable : (depth : ℕ) (b : Bool) → Readable depth (bool b)
bool_readable depth b = record { clean = refl; distinct = refl; shallow = omega arith }

pub int_readable : (depth : ℕ) (n : ℤ) → fits_64_bits n ≡ true → Readable depth (int n)
int_readable depth n h = record { clean = h; distinct = refl; shallow = omega arith }

elements_clean : (depth : ℕ) (js : List JsonTree) → Each (Readable depth) js → elements_have_clean_parts (elements_of js) ≡ true
elements_clean depth [] h = refl
elements_clean depth (j ∷ js) h = and_from _ _ h.0.clean (elements_clean depth js h.1)

elements_distinct : (depth : ℕ) (js : List JsonTree) → Each (Readable depth) js → elements_have_distinct_names (elements_of js) ≡ true
elements_distinct depth [] h = refl
elements_distinct depth (j ∷ js) h = and_from _ _ h.0.distinct (elements_distinct depth js h.1)

elements_shallow : (depth : ℕ) (js : List JsonTree) → Each (Readable depth) js → elements_nesting (elements_of js) ≤ depth
elements_shallow depth [] h = omega arith
elements_shallow depth (j ∷ js) h = omega (arith, h.0.shallow, elements_shallow depth js h.1)

-- an array of such values
pub list_readable : (depth : ℕ) (js : List JsonTree) → Each (Readable depth) js → Readable (suc depth) (list js)
list_readable depth js h =
    record { clean = elements_clean depth js h; distinct = elements_distinct depth js h; shallow = omega (arith, elements_shallow depth js h) }

each_map : {A : Type 0} (P : JsonTree → Type 0) (f : A → JsonTree) (xs : List A) → Each (λ x. P (f x)) xs → Each P (map f xs)
each_map P f [] h = tt
each_map P f (x ∷ xs) h = (h.0, each_map P f xs h.1)

-- an array of images
pub map_readable : {A : Type 0} (depth : ℕ) (f : A → JsonTree) (xs : List A) → Each (λ x. Readable depth (f x)) xs → Readable (suc depth) (list (map f xs))
map_readable depth f xs h = list_readable depth (map f xs) (each_map (Readable depth) f xs h)

texts_clean : (depth : ℕ) (names : List (List ℕ)) → list_all is_clean names ≡ true → Each (λ n. Readable depth (str n)) names
texts_clean depth [] h = tt
texts_clean depth (n ∷ ns) h = let p = and_parts _ _ h in (text_readable depth n p.0, texts_clean depth ns p.1)

-- an array of texts
pub texts_readable : (depth : ℕ) (names : List (List ℕ)) → list_all is_clean names ≡ true → Readable (suc depth) (texts names)
texts_readable depth names h = map_readable depth str names (texts_clean depth names h)

-- the names of members
abbrev pub member_names : List (List ℕ × JsonTree) → List (List ℕ)
member_names ms = map (λ m. m.0) ms

-- the names are clean and differ
abbrev pub are_member_names : List (List ℕ) → Bool
are_member_names names = list_all is_clean names && all_differ bytes_eq names

members_clean : (depth : ℕ) (ms : List (List ℕ × JsonTree)) → list_all is_clean (member_names ms) ≡ true → Each (λ m. Readable depth m.1) ms → members_have_clean_parts (members_of ms) ≡ true
members_clean depth [] names h = refl
members_clean depth (m ∷ ms) names h = let p = and_parts _ _ names in and_from _ _ p.0 (and_from _ _ h.0.clean (members_clean depth ms p.1 h.1))

members_distinct : (depth : ℕ) (ms : List (List ℕ × JsonTree)) → Each (λ m. Readable depth m.1) ms → values_have_distinct_names (members_of ms) ≡ true
members_distinct depth [] h = refl
members_distinct depth (m ∷ ms) h = and_from _ _ h.0.distinct (members_distinct depth ms h.1)

members_shallow : (depth : ℕ) (ms : List (List ℕ × JsonTree)) → Each (λ m. Readable depth m.1) ms → members_nesting (members_of ms) ≤ depth
members_shallow depth [] h = omega arith
members_shallow depth (m ∷ ms) h = omega (arith, h.0.shallow, members_shallow depth ms h.1)

same_names : (ms : List (List ℕ × JsonTree)) → names_of (members_of ms) ≡ member_names ms
same_names [] = refl
same_names (m ∷ ms) = ap (λ ns. m.0 ∷ ns) (same_names ms)

-- an object of such values, under names that are clean and differ
pub object_readable : (depth : ℕ) (ms : List (List ℕ × JsonTree)) → are_member_names (member_names ms) ≡ true → Each (λ m. Readable depth m.1) ms → Readable (suc depth) (object ms)
object_readable depth ms names h =
    let p = and_parts _ _ names in
    record {
      clean = members_clean depth ms p.0 h;
      distinct = and_from _ _ (ap (all_differ bytes_eq) (same_names ms) ∙ p.1) (members_distinct depth ms h);
      shallow = omega (arith, members_shallow depth ms h);
    }

-- ---- what it is read as

-- the elements of an array that was read are the images, each in name order
pub elements_read : {A : Type 0} (f : A → JsonTree) (xs : List A) → element_list (elements_in_name_order (elements_of (map f xs))) ≡ map (λ x. in_name_order (f x)) xs
elements_read f [] = refl
elements_read f (x ∷ xs) = ap (λ js. in_name_order (f x) ∷ js) (elements_read f xs)

-- the members of an object, each value in name order
pub members_inside : (ms : List (List ℕ × JsonTree)) → ordered_inside (members_of ms) ≡ map (λ m. (m.0, in_name_order m.1)) ms
members_inside [] = refl
members_inside (m ∷ ms) = ap (λ ns. (m.0, in_name_order m.1) ∷ ns) (members_inside ms)

pub members_listed : (ms : List (List ℕ × JsonTree)) → member_list (members_of ms) ≡ ms
members_listed [] = refl
members_listed (m ∷ ms) = ap (λ ns. m ∷ ns) (members_listed ms)
