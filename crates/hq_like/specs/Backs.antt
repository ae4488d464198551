-- How far back a search goes where the next letter differs (Knuth, Morris and Pratt, Fast pattern matching in strings).
use Rattle.std.specs.Prelude.{◌≡◌, ℕ, ◌<◌, ◌≤◌, List, [], ◌∷◌, ◌++◌, map, take, slice_index_or}
use Rattle.hq_base.specs.Patterns.{meets, some_end}
use Rattle.hq_base.specs.declared.pattern.Step.{Step}
use Rattle.hq_base.specs.declared.pattern.Step.TheVariants.{This}
use Rattle.std.specs.Prelude.{false}

-- letters and then these steps
abbrev pub letters_then : (letters : List ℕ) → List Step → List Step
letters_then letters more = map This letters ++ more

-- of what has been read so many first letters are all that counts: the letters begin somewhere in it, whatever follows, where they
-- begin somewhere in those
pub record Reads (letters text : List ℕ) (state : ℕ) : Type 0 where
  pub same : (more : List Step) (rest : List ℕ) → some_end (meets false (letters_then letters more)) (text ++ rest) ≡ some_end (meets false (letters_then letters more)) (take state letters ++ rest)

-- all but the first one
abbrev pub but_first : List ℕ → List ℕ
but_first [] = []
but_first (c ∷ cs) = cs

-- so many first letters are left of those, where they do not begin at the first one
pub record IsBack (letters : List ℕ) (state back : ℕ) : Type 0 where
  pub shorter : back < state
  pub reads : Reads letters (but_first (take state letters)) back

-- for each number of first letters up to this one
abbrev pub AreBacks : (letters backs : List ℕ) → (most : ℕ) → Type 0
AreBacks letters backs most = (j : ℕ) → 0 < j → j ≤ most → IsBack letters j (slice_index_or backs j 0)
