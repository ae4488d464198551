-- A part of a pattern between two % may be taken where it first fits.
use Rattle.std.proofs.Common.{◌≡◌, ◌∙◌, ap, sym, refl, ℕ, ◌<◌, ◌≤◌, List, [], ◌∷◌, ◌++◌, length, append_assoc, Bool, true, false, ◌&&◌, if◌then◌else◌, arith}
use Rattle.std.proofs.lemmas.Bool.{or_parts}
use Rattle.hq_base.specs.Patterns.{alike, some_end, meets}
use Rattle.hq_base.specs.Fronts.{Reach, misfit, whole, up_to_any, front}
use Rattle.hq_base.specs.declared.pattern.Step.{Step}
use Rattle.hq_base.specs.declared.pattern.Step.TheVariants.{Any, One, This}

-- whether the text is what the steps ask for, by how far it goes
abbrev pub decided : Bool → Reach → Bool
decided fold misfit = false
decided fold whole = true
decided fold (up_to_any later rest) = some_end (meets fold later) rest

decided_if : (fold b m : Bool) (r : Reach) → m ≡ decided fold r → (b && m) ≡ decided fold (if b then r else misfit)
decided_if fold true m r is = is
decided_if fold false m r is = refl

pub meets-front : (fold : Bool) (steps : List Step) (text : List ℕ) → meets fold steps text ≡ decided fold (front fold steps text)
meets-front fold [] [] = refl
meets-front fold [] (c ∷ cs) = refl
meets-front fold (Any ∷ steps) text = refl
meets-front fold (One ∷ steps) [] = refl
meets-front fold (One ∷ steps) (c ∷ cs) = meets-front fold steps cs
meets-front fold (This d ∷ steps) [] = refl
meets-front fold (This d ∷ steps) (c ∷ cs) = decided_if fold (alike fold d c) (meets fold steps cs) (front fold steps cs) (meets-front fold steps cs)

-- ---- the ends of a text

abbrev IsEnd : (end text : List ℕ) → Type 0
IsEnd end text = (before : List ℕ) × (text ≡ before ++ end)

end_behind : (c d : ℕ) (cs ds before : List ℕ) → c ∷ cs ≡ before ++ d ∷ ds → IsEnd ds cs
end_behind c d cs ds [] is = ([], (cc))
end_behind c d cs ds (x ∷ xs) is =
    let tail : cs ≡ xs ++ d ∷ ds = cc in
    (xs ++ d ∷ [], tail ∙ sym (append_assoc xs (d ∷ []) ds))

here : (test : List ℕ → Bool) (text : List ℕ) → test text ≡ true → some_end test text ≡ true
here test [] h = h
here test (c ∷ cs) h = rw h refl

no_end : (test : List ℕ → Bool) (before end : List ℕ) → some_end test (before ++ end) ≡ false → some_end test end ≡ false
no_end test [] end h = h
no_end test (x ∷ xs) end h = no_end test xs end (or_parts (test (x ∷ (xs ++ end))) _ h).1

none : (test : List ℕ → Bool) (text : List ℕ) → ((end : List ℕ) → IsEnd end text → test end ≡ false) → some_end test text ≡ false
none test [] h = h [] ([], refl)
none test (c ∷ cs) h =
    let first = h (c ∷ cs) ([], refl) in
    rw first (none test cs (λ end is. h end (c ∷ is.0, ap (λ xs. c ∷ xs) is.1)))

-- ---- how far a text goes

taken : (b : Bool) (r : Reach) (later : List Step) (rest : List ℕ) → (if b then r else misfit) ≡ up_to_any later rest → r ≡ up_to_any later rest
taken true r later rest h = h
taken false r later rest h = cc

and_false : (b m : Bool) → m ≡ false → (b && m) ≡ false
and_false true m h = h
and_false false m h = refl

-- where the steps behind the % find no end of the rest, the whole steps fit no end of the text
later_none : (fold : Bool) (steps later : List Step) (text rest end : List ℕ) → front fold steps text ≡ up_to_any later rest → IsEnd end text
    → some_end (meets fold later) rest ≡ false → meets fold steps end ≡ false
later_none fold [] later [] rest end is within h = cc
later_none fold [] later (c ∷ cs) rest end is within h = cc
later_none fold (Any ∷ steps) later text rest end is within h =
    let same : later ≡ steps = cc in
    let whole_text : rest ≡ within.0 ++ end = cc in
    no_end (meets fold steps) within.0 end (rw (same, whole_text) at h)
later_none fold (One ∷ steps) later [] rest end is within h = cc
later_none fold (One ∷ steps) later (c ∷ cs) rest [] is within h = refl
later_none fold (One ∷ steps) later (c ∷ cs) rest (d ∷ ds) is within h = later_none fold steps later cs rest ds is (end_behind c d cs ds within.0 within.1) h
later_none fold (This x ∷ steps) later [] rest end is within h = cc
later_none fold (This x ∷ steps) later (c ∷ cs) rest [] is within h = refl
later_none fold (This x ∷ steps) later (c ∷ cs) rest (d ∷ ds) is within h =
    and_false (alike fold x d) (meets fold steps ds)
    (later_none fold steps later cs rest ds (taken (alike fold x c) (front fold steps cs) later rest is) (end_behind c d cs ds within.0 within.1) h)

-- taking the part before a % where it fits first loses nothing
pub up_to_any_finds : (fold : Bool) (steps later : List Step) (text rest : List ℕ) (b : Bool) → front fold steps text ≡ up_to_any later rest
    → some_end (meets fold later) rest ≡ b → some_end (meets fold steps) text ≡ b
up_to_any_finds fold steps later text rest true is h = here (meets fold steps) text (meets-front fold steps text ∙ ap (decided fold) is ∙ h)
up_to_any_finds fold steps later text rest false is h = none (meets fold steps) text (λ end within. later_none fold steps later text rest end is within h)

pub whole_finds : (fold : Bool) (steps : List Step) (text : List ℕ) → front fold steps text ≡ whole → some_end (meets fold steps) text ≡ true
whole_finds fold steps text is = here (meets fold steps) text (meets-front fold steps text ∙ ap (decided fold) is)

pub misfit_goes_on : (fold : Bool) (steps : List Step) (c : ℕ) (cs : List ℕ) → front fold steps (c ∷ cs) ≡ misfit → some_end (meets fold steps) (c ∷ cs) ≡ some_end (meets fold steps) cs
misfit_goes_on fold steps c cs is = let no_fit = meets-front fold steps (c ∷ cs) ∙ ap (decided fold) is in rw no_fit refl

pub misfit_ends : (fold : Bool) (steps : List Step) → front fold steps [] ≡ misfit → some_end (meets fold steps) [] ≡ false
misfit_ends fold steps is = meets-front fold steps [] ∙ ap (decided fold) is

-- each % passed leaves fewer steps
pub up_to_any_smaller : (fold : Bool) (steps later : List Step) (text rest : List ℕ) → front fold steps text ≡ up_to_any later rest → (length later < length steps) × (length rest ≤ length text)
up_to_any_smaller fold [] later [] rest is = cc
up_to_any_smaller fold [] later (c ∷ cs) rest is = cc
up_to_any_smaller fold (Any ∷ steps) later text rest is =
    let same : later ≡ steps = cc in
    let all : rest ≡ text = cc in
    (rw same (omega arith), rw all (omega arith))
up_to_any_smaller fold (One ∷ steps) later [] rest is = cc
up_to_any_smaller fold (One ∷ steps) later (c ∷ cs) rest is =
    let less = up_to_any_smaller fold steps later cs rest is in (omega arith, omega arith)
up_to_any_smaller fold (This x ∷ steps) later [] rest is = cc
up_to_any_smaller fold (This x ∷ steps) later (c ∷ cs) rest is =
    let less = up_to_any_smaller fold steps later cs rest (taken (alike fold x c) (front fold steps cs) later rest is) in (omega arith, omega arith)
