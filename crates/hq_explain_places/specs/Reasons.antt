-- What is said of a text that is no JSON of whole numbers and of texts without a zero byte.
use Rattle.std.specs.Prelude.{ℕ, ◌≡◌, ◌≤◌, ◌⊎◌, List, ◌++◌, length, Option, codes}
use Rattle.hq_explain_places.specs.Excerpts.{excerpt}
use Rattle.hq_explain_places.specs.Lines.{column_of, line_of}
use Rattle.hq_explain_places.specs.Words.{Adds, place_text}

abbrev pub IsReason : List ℕ → Type 0
IsReason said =
    (said ≡ codes ": no JSON from here on\n") ⊎ ((said ≡ codes ": a number that is not a whole number of 64 bits\n")
    ⊎ ((said ≡ codes ": a zero byte\n") ⊎ (said ≡ codes ": no JSON that hq reads\n")))

-- the line and the column of a place, what is said there, and the line around it with marks
abbrev pub reason_told : (text : List ℕ) (at : ℕ) (said : List ℕ) (marks : ℕ) → List ℕ
reason_told text at said marks = place_text (line_of text at) (column_of text at) ++ (said ++ excerpt text at marks)

-- that is added of some place in the text
abbrev pub AddsReason : (old new : Option (List ℕ)) (text : List ℕ) → Type 0
AddsReason old new text =
    (at : ℕ) × (at ≤ length text) × (said : List ℕ) × IsReason said × (marks : ℕ) × (1 ≤ marks) × Adds old new (reason_told text at said marks)
