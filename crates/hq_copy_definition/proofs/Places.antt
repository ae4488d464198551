-- Places in lists: what stands at the place of a number, and the places at which a test is true.
use Rattle.std.proofs.Common.{◌≡◌, ℕ, zero, suc, ◌+◌, ◌≤◌, ◌<◌, List, [], ◌∷◌, ◌++◌, filter, length, Bool, true, false, cond, ◌||◌, ◌==◌, Some, refl, sym, ap, ap₂, ◌∙◌, subst, arith}
use Rattle.std.proofs.lemmas.Bool.{eq-eqb, eqb-true, ne_eqb, false≢true, or_left, or_right}
use Rattle.std.proofs.lemmas.List.Elements.{filter-append}
use Rattle.std.proofs.lemmas.List.Folds.{find_at}
use Rattle.std.specs.List.{find, list_any}
use Rattle.std.specs.Prelude.{slice_get}
use Rattle.hq_base.specs.Lists.{Each}
use Rattle.hq_base.proofs.Lists.{filter_all, each_weaken}
use Rattle.hq_model.specs.View.{places_from}
use Rattle.hq_copy_definition.specs.Metadata.{places}
use Rattle.hq_copy_definition.specs.Sources.{place_in}

number_found : (ns : List ℕ) (n : ℕ) → list_any (λ m. m == n) ns ≡ true → find (λ m. m == n) ns ≡ Some n
number_found [] n h = absurd (false≢true h)
number_found (m ∷ ms) n h =
    let go : (b : Bool) → (m == n) ≡ b → (b || list_any (λ k. k == n) ms) ≡ true → cond b (Some m) (find (λ k. k == n) ms) ≡ Some n =
    elim [ true ↦ λ e g. ap Some (eqb-true m n e) | false ↦ λ e g. number_found ms n g ] in
    go (m == n) refl h

-- at the place of a number stands that number
pub place_holds : (ns : List ℕ) (n : ℕ) → list_any (λ m. m == n) ns ≡ true → slice_get ns (place_in ns n) ≡ Some n
place_holds ns n h = sym (find_at (λ m. m == n) ns) ∙ number_found ns n h

-- the place of an item at which a test is true is among those places
pub kept_there : {A : Type 0} (test : A → Bool) (k : ℕ) (xs : List A) (j : ℕ) (x : A) → slice_get xs j ≡ Some x → test x ≡ true → list_any (λ q. q == (k + j)) (places_from test k xs) ≡ true
kept_there test k [] j x e h = cc
kept_there test k (y ∷ ys) zero x e h =
    let same : y ≡ x = cc in
    let here : (k == (k + 0)) ≡ true = eq-eqb k (k + 0) (omega arith) in
    let go : (b : Bool) → b ≡ true → list_any (λ q. q == (k + 0)) (cond b (k ∷ places_from test (suc k) ys) (places_from test (suc k) ys)) ≡ true =
    elim [ true ↦ λ g. or_left (k == (k + 0)) _ here | false ↦ λ g. absurd (false≢true g) ] in
    go (test y) (ap test same ∙ h)
kept_there test k (y ∷ ys) (suc j) x e h =
    let next : suc k + j ≡ k + suc j = omega arith in
    let later : list_any (λ q. q == (k + suc j)) (places_from test (suc k) ys) ≡ true =
    subst (λ i. list_any (λ q. q == i) (places_from test (suc k) ys) ≡ true) next (kept_there test (suc k) ys j x e h) in
    let go : (b : Bool) → list_any (λ q. q == (k + suc j)) (cond b (k ∷ places_from test (suc k) ys) (places_from test (suc k) ys)) ≡ true =
    elim [ true ↦ or_right (k == (k + suc j)) _ later | false ↦ later ] in
    go (test y)

-- ---- the places of a list

pub places_length : {A : Type 0} (k : ℕ) (xs : List A) → length (places k xs) ≡ length xs
places_length k [] = refl
places_length k (x ∷ xs) = ap suc (places_length (suc k) xs)

pub places_append : {A : Type 0} (k : ℕ) (xs ys : List A) → places k (xs ++ ys) ≡ places k xs ++ places (k + length xs) ys
places_append k [] ys = let same : k ≡ k + 0 = omega arith in ap (λ j. places j ys) same
places_append k (x ∷ xs) ys =
    let same : suc k + length xs ≡ k + suc (length xs) = omega arith in
    ap (λ l. k ∷ l) (places_append (suc k) xs ys ∙ ap (λ j. places (suc k) xs ++ places j ys) same)

-- lists that are as long have the same places
pub places_long : {A B : Type 0} (k : ℕ) (xs : List A) (ys : List B) → length xs ≡ length ys → places k xs ≡ places k ys
places_long k [] [] e = refl
places_long k [] (y ∷ ys) e = absurd (omega arith)
places_long k (x ∷ xs) [] e = absurd (omega arith)
places_long k (x ∷ xs) (y ∷ ys) e = let shorter : length xs ≡ length ys = omega arith in ap (λ l. k ∷ l) (places_long (suc k) xs ys shorter)

pub places_within : {A : Type 0} (k : ℕ) (xs : List A) → Each (λ c. (k ≤ c) × (c < k + length xs)) (places k xs)
places_within k [] = tt
places_within k (x ∷ xs) =
    let here : k ≤ k = omega arith in
    let before : k < k + suc (length xs) = omega arith in (
      (here, before),
      each_weaken (λ c. (suc k ≤ c) × (c < suc k + length xs)) (λ c. (k ≤ c) × (c < k + suc (length xs)))
          (λ c h. let least = h.0 in let most = h.1 in let low : k ≤ c = omega arith in let high : c < k + suc (length xs) = omega arith in (low, high)) _ (places_within (suc k) xs),
    )

pub place_within : {A : Type 0} (k : ℕ) (xs : List A) (c : ℕ) → k ≤ c → c < k + length xs → list_any (λ d. d == c) (places k xs) ≡ true
place_within k [] c least most = absurd (omega arith)
place_within k (x ∷ xs) c least most =
    let go : (b : Bool) → (k == c) ≡ b → (b || list_any (λ d. d == c) (places (suc k) xs)) ≡ true =
    elim [
      | true ↦ λ e. refl
      | false ↦ λ e. place_within (suc k) xs c (let differ : k ≡ c → ⊥ = λ g. false≢true (sym e ∙ eq-eqb k c g) in omega (arith, differ)) (omega arith)
    ] in
    go (k == c) refl

pub place_beyond : {A : Type 0} (k : ℕ) (xs : List A) (c : ℕ) → k + length xs ≤ c → list_any (λ d. d == c) (places k xs) ≡ false
place_beyond k [] c least = refl
place_beyond k (x ∷ xs) c least =
    let other : (k == c) ≡ false = ne_eqb k c (omega arith) in
    ap (λ b. b || list_any (λ d. d == c) (places (suc k) xs)) other ∙ place_beyond (suc k) xs c (omega arith)

none_pass : {A : Type 0} (p : A → Bool) (xs : List A) → Each (λ x. p x ≡ false) xs → filter p xs ≡ []
none_pass p [] h = refl
none_pass p (x ∷ xs) h = ap (λ b. cond b (x ∷ filter p xs) (filter p xs)) h.0 ∙ none_pass p xs h.1

append_nil : {A : Type 0} (xs : List A) → xs ++ [] ≡ xs
append_nil [] = refl
append_nil (x ∷ xs) = ap (λ l. x ∷ l) (append_nil xs)

-- of the places of a list, those of its front
pub front_places : {A B : Type 0} (cs : List A) (xs ys : List B) → length xs ≡ length cs → filter (λ c. list_any (λ d. d == c) (places 0 cs)) (places 0 (xs ++ ys)) ≡ places 0 cs
front_places cs xs ys e =
    let test : ℕ → Bool = λ c. list_any (λ d. d == c) (places 0 cs) in
    let front : filter test (places 0 xs) ≡ places 0 cs =
    filter_all test (places 0 xs) (each_weaken _ _ (λ c h. let most = h.1 in place_within 0 cs c (omega arith) (omega arith)) _ (places_within 0 xs)) ∙ places_long 0 xs cs e in
    let rest : filter test (places (0 + length xs) ys) ≡ [] =
    none_pass test (places (0 + length xs) ys) (each_weaken _ _ (λ c h. let least = h.0 in place_beyond 0 cs c (omega arith)) _ (places_within (0 + length xs) ys)) in
    ap (filter test) (places_append 0 xs ys) ∙ filter-append test (places 0 xs) (places (0 + length xs) ys) ∙ ap₂ (λ a b. a ++ b) front rest ∙ append_nil (places 0 cs)
