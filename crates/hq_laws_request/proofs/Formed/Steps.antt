-- Steps that gave a value.
use Rattle.std.proofs.Common.{◌≡◌, refl, Option, Some, None, Result, Ok, Err, option_map, option_and_then}
use Rattle.hq_base.specs.Due.{mapped, and_then}

-- a value under f was f of a value
pub mapped_ok : {X Y E : Type 0} (f : X → Y) (r : Result X E) (y : Y) → mapped f r ≡ Ok y → (x : X) × (r ≡ Ok x) × (f x ≡ y)
mapped_ok f (Ok x) y e = let same : f x ≡ y = cc in (x, refl, same)
mapped_ok f (Err z) y e = absurd cc

-- a step gave a value to the next one
pub then_ok : {X Y E : Type 0} (f : X → Result Y E) (r : Result X E) (y : Y) → and_then f r ≡ Ok y → (x : X) × (r ≡ Ok x) × (f x ≡ Ok y)
then_ok f (Ok x) y e = (x, refl, e)
then_ok f (Err z) y e = absurd cc

-- an option's value was f of one
pub map_some : {X Y : Type 0} (f : X → Y) (o : Option X) (y : Y) → option_map f o ≡ Some y → (x : X) × (o ≡ Some x) × (f x ≡ y)
map_some f (Some x) y e = let same : f x ≡ y = cc in (x, refl, same)
map_some f None y e = absurd cc

pub and_then_some : {X Y : Type 0} (f : X → Option Y) (o : Option X) (y : Y) → option_and_then f o ≡ Some y → (x : X) × (o ≡ Some x) × (f x ≡ Some y)
and_then_some f (Some x) y e = (x, refl, e)
and_then_some f None y e = absurd cc
