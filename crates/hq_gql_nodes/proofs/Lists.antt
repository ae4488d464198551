-- Lists whose front a loop has passed.
use Rattle.std.proofs.Common.{◌≡◌, ◌∙◌, ap, sym, refl, ℕ, zero, suc, ◌+◌, ◌<◌, length, get_or, map, take, add-one, arith, List, [], ◌∷◌, Bool, true, false, Option, Some, None, cond}
use Rattle.std.proofs.Common.{◌++◌}
use Rattle.std.specs.List.{position_from, filter_map, cons_option}
use Rattle.std.specs.Option.{option_or, option_to_list}

-- the place at which a list of images of images is read
pub get_or-map_map : {A B C : Type 0} (f : A → B) (g : B → C) (xs : List A) (i : ℕ) (x : A) (d : C) → i < length xs → x ≡ get_or xs i x → get_or (map g (map f xs)) i d ≡ g (f x)
get_or-map_map f g [] i x d below is = absurd (omega arith)
get_or-map_map f g (y ∷ xs) zero x d below is = ap (λ z. g (f z)) (sym is)
get_or-map_map f g (y ∷ xs) (suc i) x d below is = get_or-map_map f g xs i x d (omega arith) is

-- none behind changes nothing
pub option_or_none : {A : Type 0} (o : Option A) → option_or o None ≡ o
option_or_none None = refl
option_or_none (Some x) = refl

choice : {A : Type 0} (b : Bool) (x : A) (rest last : Option A) → cond b (Some x) (option_or rest last) ≡ option_or (cond b (Some x) rest) last
choice true x rest last = refl
choice false x rest last = refl

-- the first item that passes, among one more
position_by : {A B : Type 0} (p : B → Bool) (v : A → B) (xs : List A) (k i : ℕ) (x : A) → i < length xs → x ≡ get_or xs i x
    → position_from p k (map v (take (suc i) xs)) ≡ option_or (position_from p k (map v (take i xs))) (cond (p (v x)) (Some (k + i)) None)
position_by p v [] k i x below is = absurd (omega arith)
position_by p v (y ∷ xs) k zero x below is = ap (λ z. cond (p (v z)) (Some k) None) (sym is) ∙ ap (λ n. cond (p (v x)) (Some n) None) (omega arith)
position_by p v (y ∷ xs) k (suc i) x below is =
    let e : k + 1 + i ≡ k + suc i = omega arith in
    ap (cond (p (v y)) (Some k)) (position_by p v xs (k + 1) i x (omega arith) is ∙ ap (λ n. option_or (position_from p (k + 1) (map v (take i xs))) (cond (p (v x)) (Some n) None)) e)
    ∙ choice (p (v y)) k (position_from p (k + 1) (map v (take i xs))) _

pub position_more : {A B : Type 0} (p : B → Bool) (v : A → B) (xs : List A) (i : ℕ) (x : A) → i < length xs → x ≡ get_or xs i x
    → position_from p 0 (map v (take (i + 1) xs)) ≡ option_or (position_from p 0 (map v (take i xs))) (cond (p (v x)) (Some i) None)
position_more p v xs i x below is =
    ap (λ n. position_from p 0 (map v (take n xs))) (add-one i) ∙ position_by p v xs 0 i x below is
    ∙ ap (λ n. option_or (position_from p 0 (map v (take i xs))) (cond (p (v x)) (Some n) None)) (omega arith)

-- what a function gives of one more item
filter_map_by : {A B C : Type 0} (f : B → Option C) (v : A → B) (xs : List A) (i : ℕ) (x : A) → i < length xs → x ≡ get_or xs i x
    → filter_map f (map v (take (suc i) xs)) ≡ filter_map f (map v (take i xs)) ++ option_to_list (f (v x))
filter_map_by f v [] i x below is = absurd (omega arith)
filter_map_by f v (y ∷ xs) zero x below is = one (f (v y)) ∙ ap (λ z. option_to_list (f (v z))) (sym is)
  where
    one : {C : Type 0} (o : Option C) → filter_map {X = Option C} (λ x. x) (o ∷ []) ≡ option_to_list o
    one None = refl
    one (Some x) = refl
filter_map_by f v (y ∷ xs) (suc i) x below is = behind (f (v y)) _ _ _ (filter_map_by f v xs i x (omega arith) is)
  where
    behind : {C : Type 0} (o : Option C) (a b last : List C) → a ≡ b ++ last → cons_option o a ≡ cons_option o b ++ last
    behind None a b last e = e
    behind (Some z) a b last e = ap (λ zs. z ∷ zs) e

pub filter_map_more : {A B C : Type 0} (f : B → Option C) (v : A → B) (xs : List A) (i : ℕ) (x : A) → i < length xs → x ≡ get_or xs i x
    → filter_map f (map v (take (i + 1) xs)) ≡ filter_map f (map v (take i xs)) ++ option_to_list (f (v x))
filter_map_more f v xs i x below is = ap (λ n. filter_map f (map v (take n xs))) (add-one i) ∙ filter_map_by f v xs i x below is
