-- A text from left to right, step by step.
use Rattle.std.specs.Prelude.{ℕ, zero, suc, ◌+◌, ◌-◌, List, [], ◌∷◌, ◌++◌, Result, Ok}
use Rattle.hq_base.specs.Due.{◌>>=◌}
use Rattle.hq_gql_lexer.specs.declared.refusal.LexRefusal.{LexRefusal}

-- what a step makes of the bytes at a place, and how many of them it takes
abbrev pub Step : Type 0 → Type 0
Step X = ℕ → List ℕ → Result (X × ℕ) LexRefusal

-- What the steps make of a text, in order: each begins where the one before has ended. The first bytes may be
-- taken already.
abbrev pub steps : {X : Type 0} → Step (List X) → (taken at : ℕ) → List ℕ → Result (List X) LexRefusal
steps step taken at [] = Ok []
steps step (suc taken) at (b ∷ bytes) = steps step taken (at + 1) bytes
steps step zero at (b ∷ bytes) =
    step at (b ∷ bytes) >>= λ x. steps step (x.1 - 1) (at + 1) bytes >>= λ xs. Ok (x.0 ++ xs)
