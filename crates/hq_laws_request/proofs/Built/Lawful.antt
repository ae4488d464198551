-- Steps that refuse by the rules of building alone.
use Rattle.std.proofs.Common.{◌≡◌, refl, ℕ, List, [], ◌∷◌, true, Result, Ok, Err}
use Rattle.hq_base.specs.Due.{mapped, and_then}
use Rattle.hq_base.specs.Lists.{Each}
use Rattle.hq_request_coerce.specs.declared.refusal.CoerceRefusal.{CoerceRefusal}
use Rattle.hq_request_coerce.specs.declared.refusal.CoerceRefusal.TheVariants as coerce
use Rattle.hq_request_arguments.specs.Due.{at_field}
use Rattle.hq_request_arguments.specs.Reading.{Read, each}
use Rattle.hq_request_arguments.specs.declared.refusal.ArgRefusal.TheVariants.{Rule, Memory}
use Rattle.hq_laws_request.specs.Built.Refusing.{is_of_building, IsBuilding}

-- what is read of arguments: a value, or a rule of building
abbrev pub Lawful : {A : Type 0} → Read A → Type 0
Lawful (Ok x) = Unit {0}
Lawful (Err (Rule q)) = is_of_building q ≡ true
Lawful (Err Memory) = ⊥

pub then_lawful : {X Y : Type 0} (f : X → Read Y) (r : Read X) → Lawful r → ((x : X) → r ≡ Ok x → Lawful (f x)) → Lawful (and_then f r)
then_lawful f (Ok x) h g = g x refl
then_lawful f (Err (Rule q)) h g = h
then_lawful f (Err Memory) h g = h

pub mapped_lawful : {X Y : Type 0} (f : X → Y) (r : Read X) → Lawful r → Lawful (mapped f r)
mapped_lawful f (Ok x) h = tt
mapped_lawful f (Err (Rule q)) h = h
mapped_lawful f (Err Memory) h = h

pub each_lawful : {A B : Type 0} (read : A → Read B) (xs : List A) → Each (λ x. Lawful (read x)) xs → Lawful (each read xs)
each_lawful read [] h = tt
each_lawful {B = B} read (x ∷ xs) h =
    then_lawful (λ (y : B). mapped (λ (ys : List B). y ∷ ys) (each read xs)) (read x) h.0 (λ y e. mapped_lawful (λ (ys : List B). y ∷ ys) (each read xs) (each_lawful read xs h.1))

-- the same of steps whose faults stand at places
pub then_building : {X Y : Type 0} (f : X → Result Y CoerceRefusal) (r : Result X CoerceRefusal) → IsBuilding r → ((x : X) → r ≡ Ok x → IsBuilding (f x)) → IsBuilding (and_then f r)
then_building f (Ok x) h g = g x refl
then_building f (Err (coerce.Fault q)) h g = h
then_building f (Err coerce.Memory) h g = h

pub mapped_building : {X Y : Type 0} (f : X → Y) (r : Result X CoerceRefusal) → IsBuilding r → IsBuilding (mapped f r)
mapped_building f (Ok x) h = tt
mapped_building f (Err (coerce.Fault q)) h = h
mapped_building f (Err coerce.Memory) h = h

pub at_field_building : {A : Type 0} (at : ℕ) (r : Read A) → Lawful r → IsBuilding (at_field at r)
at_field_building at (Ok x) h = tt
at_field_building at (Err (Rule q)) h = h
at_field_building at (Err Memory) h = h
