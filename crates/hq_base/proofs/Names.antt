-- The names of an object's members differ: serde_json holds them in strictly ascending order of their bytes.
use Rattle.std.proofs.Common.{◌≡◌, ◌∙◌, ap, sym, refl, ℕ, List, [], ◌∷◌, ◌++◌, map, Bool, true, false, Result, Ok, Err, Less, nat_cmp, is_eq, bytes_eq, String, Global, string_bytes, string_cmp, IfOk}
use Rattle.std.specs.List.{AllByRecursion, list_any}
use Rattle.std.specs.List.Sorted.{IsStrictlySortedBy}
use Rattle.std.specs.Map.{keys_of}
use Rattle.std.specs.Cmp.Lexicographic.{slice_cmp}
use Rattle.std.proofs.lemmas.List.{map-append}
use Rattle.std.proofs.lemmas.Bool.{and_parts, and_from}
use Rattle.std.proofs.lemmas.Map.Text.{is_eq-slice_cmp}
use Rattle.serde_json.specs.View.{view, members_view}
use Rattle.serde_json.specs.declared.value.Value.{Value}
use Rattle.hq_base.specs.Due.{and_then, mapped}
use Rattle.hq_base.specs.Text.{has_zero}
use Rattle.hq_base.specs.Lists.{all_differ}
use Rattle.hq_base.specs.Json.{JsonTree, json_view, member_view, names_of, has_distinct_names, elements_have_distinct_names, values_have_distinct_names, elements_of, members_of}
use Rattle.hq_base.specs.Body.{clean, value_of, members_in}
use Rattle.hq_base.specs.declared.json.Json.{Json}
use Rattle.hq_base.specs.declared.json.Member.{Member}

-- ---- names

cleaned_at : (s name : List ℕ) (zero : Bool) → has_zero s ≡ zero → clean s ≡ Ok name → name ≡ s
cleaned_at s name true is h = let k = rw is at h in cc
cleaned_at s name false is h = let k = rw is at h in cc

-- a fact of each value that f gives at a value of r holds of what f gives after r
after_ok : {A B E : Type 0} (Q : B → Type 0) (f : A → Result B E) (r : Result A E) → ((x : A) → r ≡ Ok x → IfOk (f x) Q) → IfOk (and_then f r) Q
after_ok Q f (Ok x) step = step x refl
after_ok Q f (Err e) step = tt

mapped_ok : {A B E : Type 0} (P : A → Type 0) (Q : B → Type 0) (f : A → B) (r : Result A E) → ((x : A) → P x → Q (f x)) → IfOk r P → IfOk (mapped f r) Q
mapped_ok P Q f (Ok x) step h = step x h
mapped_ok P Q f (Err e) step h = tt

abbrev HasNames : List (List ℕ) → List (List ℕ × JsonTree) → Type 0
HasNames names ms = names_of (members_of ms) ≡ names

-- an object has the names that serde_json holds
names_kept : (es : List (String Global × Value)) → IfOk (members_in (members_view es)) (HasNames (map string_bytes (keys_of es)))
names_kept [] = refl
names_kept (e ∷ es) =
    let Q = HasNames (map string_bytes (keys_of (e ∷ es))) in
    let rest = members_in (members_view es) in
    after_ok Q (λ name. and_then (λ j. mapped (λ ms. (name, j) ∷ ms) rest) (value_of (view e.1))) (clean (string_bytes e.0)) (λ name same.
    after_ok Q (λ j. mapped (λ ms. (name, j) ∷ ms) rest) (value_of (view e.1)) (λ j _.
    mapped_ok (HasNames (map string_bytes (keys_of es))) Q (λ ms. (name, j) ∷ ms) rest
    (λ ms kept. let head = cleaned_at (string_bytes e.0) name _ refl same in cc) (names_kept es)))

unlike : (k l : List ℕ) → slice_cmp nat_cmp k l ≡ Less → bytes_eq k l ≡ false
unlike k l less = sym (is_eq-slice_cmp k l) ∙ ap is_eq less

not_among : (k : String Global) (ks : List (String Global)) → AllByRecursion (λ l. string_cmp k l ≡ Less) ks → list_any (bytes_eq (string_bytes k)) (map string_bytes ks) ≡ false
not_among k [] h = refl
not_among k (l ∷ ks) h = rw (unlike (string_bytes k) (string_bytes l) h.0) (not_among k ks h.1)

-- names in strictly ascending order differ
sorted_differ : (ks : List (String Global)) → IsStrictlySortedBy string_cmp ks → all_differ bytes_eq (map string_bytes ks) ≡ true
unfolding IsStrictlySortedBy
sorted_differ [] h = refl
sorted_differ (k ∷ ks) h = rw (not_among k ks h.0) (sorted_differ ks h.1)

-- so do the names of the members that are read of a map
pub names_at : (es : List (String Global × Value)) (ms : List (List ℕ × JsonTree)) → IsStrictlySortedBy string_cmp (keys_of es) → members_in (members_view es) ≡ Ok ms
    → all_differ bytes_eq (names_of (members_of ms)) ≡ true
names_at es ms sorted is =
    let kept : names_of (members_of ms) ≡ map string_bytes (keys_of es) = rw is at (names_kept es) in
    rw kept (sorted_differ (keys_of es) sorted)

-- ---- values

-- one more element, and one more member
one_more_element : (js : List JsonTree) (j : JsonTree) → elements_have_distinct_names (elements_of js) ≡ true → has_distinct_names j ≡ true
    → elements_have_distinct_names (elements_of (js ++ j ∷ [])) ≡ true
one_more_element [] j all new = rw new refl
one_more_element (k ∷ js) j all new =
    let parts = and_parts (has_distinct_names k) (elements_have_distinct_names (elements_of js)) all in
    and_from (has_distinct_names k) _ parts.0 (one_more_element js j parts.1 new)

one_more_value : (ms : List (List ℕ × JsonTree)) (m : List ℕ × JsonTree) → values_have_distinct_names (members_of ms) ≡ true → has_distinct_names m.1 ≡ true
    → values_have_distinct_names (members_of (ms ++ m ∷ [])) ≡ true
one_more_value [] m all new = rw new refl
one_more_value (k ∷ ms) m all new =
    let parts = and_parts (has_distinct_names k.1) (values_have_distinct_names (members_of ms)) all in
    and_from (has_distinct_names k.1) _ parts.0 (one_more_value ms m parts.1 new)

pub elements_more : (js now : List Json) (j : Json) → now ≡ js ++ j ∷ [] → elements_have_distinct_names (elements_of (map json_view js)) ≡ true → has_distinct_names (json_view j) ≡ true
    → elements_have_distinct_names (elements_of (map json_view now)) ≡ true
elements_more js now j is all new = rw (is, map-append) (one_more_element (map json_view js) (json_view j) all new)

pub values_more : (ms now : List Member) (m : Member) (name : List ℕ) (j : JsonTree) → now ≡ ms ++ m ∷ [] → member_view m ≡ (name, j)
    → values_have_distinct_names (members_of (map member_view ms)) ≡ true → has_distinct_names j ≡ true
    → values_have_distinct_names (members_of (map member_view now)) ≡ true
values_more ms now m name j is view all new = rw (is, map-append, view) (one_more_value (map member_view ms) (name, j) all new)
