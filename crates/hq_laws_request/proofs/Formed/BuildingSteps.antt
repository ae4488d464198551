-- Steps that gave a value: what came before each; and texts that are equal.
use Rattle.std.proofs.Common.{◌≡◌, refl, ap, ℕ, List, Bool, true, false, cond, Option, Some, None, Result, Ok, Err, ok_or, option_map, option_and_then, bytes_eq}
use Rattle.std.proofs.lemmas.Slice.Eq.{bytes_eq-Decides}
use Rattle.hq_base.specs.Due.{mapped, and_then}

-- a value under f was f of a value
pub mapped_ok : {X Y E : Type 0} (f : X → Y) (r : Result X E) (y : Y) → mapped f r ≡ Ok y → (x : X) × (r ≡ Ok x) × (f x ≡ y)
mapped_ok f (Ok x) y e = let same : f x ≡ y = cc in (x, refl, same)
mapped_ok f (Err z) y e = cc

-- a step gave a value to the next one
pub then_ok : {X Y E : Type 0} (f : X → Result Y E) (r : Result X E) (y : Y) → and_then f r ≡ Ok y → (x : X) × (r ≡ Ok x) × (f x ≡ Ok y)
then_ok f (Ok x) y e = (x, refl, e)
then_ok f (Err z) y e = cc

-- a value where there was one
pub ok_or_ok : {X E : Type 0} (o : Option X) (z : E) (x : X) → ok_or o z ≡ Ok x → o ≡ Some x
ok_or_ok (Some y) z x e = let same : y ≡ x = cc in ap Some same
ok_or_ok None z x e = cc

-- a value under a test
pub cond_ok : {X E : Type 0} (b : Bool) (r : Result X E) (z : E) (x : X) → cond b r (Err z) ≡ Ok x → (b ≡ true) × (r ≡ Ok x)
cond_ok true r z x e = (refl, e)
cond_ok false r z x e = cc

-- an option's value was f of one
pub map_some : {X Y : Type 0} (f : X → Y) (o : Option X) (y : Y) → option_map f o ≡ Some y → (x : X) × (o ≡ Some x) × (f x ≡ y)
map_some f (Some x) y e = let same : f x ≡ y = cc in (x, refl, same)
map_some f None y e = cc

pub and_then_some : {X Y : Type 0} (f : X → Option Y) (o : Option X) (y : Y) → option_and_then f o ≡ Some y → (x : X) × (o ≡ Some x) × (f x ≡ Some y)
and_then_some f (Some x) y e = (x, refl, e)
and_then_some f None y e = cc

-- texts that are equal
pub same_text : (x y : List ℕ) → bytes_eq x y ≡ true → x ≡ y
same_text x y h = (bytes_eq-Decides x y).0 h

pub equal_texts : (x y : List ℕ) → x ≡ y → bytes_eq x y ≡ true
equal_texts x y h = (bytes_eq-Decides x y).1 h
