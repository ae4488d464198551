-- Characters as they are compared.
use Rattle.std.proofs.Common.{◌≡◌, refl, ℕ, List, [], ◌∷◌, map, Bool, true, false}
use Rattle.hq_base.specs.Patterns.{meets, some_end, alike}
use Rattle.hq_base.specs.declared.pattern.Step.{Step}
use Rattle.hq_base.specs.declared.pattern.Step.TheVariants.{Any, One, This}
use Rattle.hq_like.specs.Reading.{read_letter}
use Rattle.hq_like.specs.Signs.{lowered}

-- two characters are alike where they are equal as they are compared
alike_read : (fold : Bool) (d c : ℕ) → alike fold d c ≡ alike false (read_letter fold d) (read_letter fold c)
alike_read true d c = refl
alike_read false d c = refl

mutual_ends : (fold : Bool) (steps : List Step) → ((cs : List ℕ) → meets fold steps cs ≡ meets false (map (lowered fold) steps) (map (read_letter fold) cs)) → (cs : List ℕ)
    → some_end (meets fold steps) cs ≡ some_end (meets false (map (lowered fold) steps)) (map (read_letter fold) cs)
mutual_ends fold steps same [] = same []
mutual_ends fold steps same (c ∷ cs) = rw (same (c ∷ cs), mutual_ends fold steps same cs) refl

-- a text is what steps ask for where its characters, as they are compared, are what they then ask for
pub meets_read : (fold : Bool) (steps : List Step) (cs : List ℕ) → meets fold steps cs ≡ meets false (map (lowered fold) steps) (map (read_letter fold) cs)
meets_read fold [] [] = refl
meets_read fold [] (c ∷ cs) = refl
meets_read fold (Any ∷ steps) cs = mutual_ends fold steps (meets_read fold steps) cs
meets_read fold (One ∷ steps) [] = refl
meets_read fold (One ∷ steps) (c ∷ cs) = meets_read fold steps cs
meets_read fold (This d ∷ steps) [] = refl
meets_read fold (This d ∷ steps) (c ∷ cs) = rw (alike_read fold d c, meets_read fold steps cs) refl
