-- The line of a text around a place, and below it marks from the place on. Both begin with a margin, which has the line's number. Each
-- character that is shown before the place stands over one blank, so the first mark stands below the place.
use Rattle.std.specs.Prelude.{ℕ, ◌-◌, List, [], ◌++◌, length, drop, take_while, filter, not, nat_lt, replicate, codes, decimal, if◌then◌else◌}
use Rattle.hq_explain_places.specs.Lines.{begins_character, line_of, line_before, line_behind}
use Rattle.hq_explain_places.specs.Words.{shown}

-- what is shown of a line before the place: its last 70 bytes at most, from the beginning of a character on
abbrev pub last_bytes : (before : List ℕ) → List ℕ
last_bytes before = drop (length before - 70) before

abbrev pub length_inside : List ℕ → ℕ
length_inside bytes = length (take_while (λ b. not (begins_character b)) bytes)

abbrev pub shown_front : (before : List ℕ) → List ℕ
shown_front before = drop (length_inside (last_bytes before)) (last_bytes before)

abbrev pub character_count : List ℕ → ℕ
character_count bytes = length (filter begins_character bytes)

-- what stands before it where the line has more, and below that
abbrev pub dots : (before : List ℕ) → List ℕ
dots before = if nat_lt 70 (length before) then codes ".." else []

abbrev pub blank_dots : (before : List ℕ) → List ℕ
blank_dots before = if nat_lt 70 (length before) then codes "  " else []

-- the line
abbrev pub margin : (line : ℕ) → List ℕ
margin line = codes "  " ++ (decimal line ++ codes " | ")

abbrev pub line_told : (line : ℕ) (before behind : List ℕ) → List ℕ
line_told line before behind = margin line ++ (dots before ++ (shown 70 (shown_front before) ++ (shown 50 behind ++ codes "\n")))

-- the marks below it
abbrev pub blank_margin : (line : ℕ) → List ℕ
blank_margin line = codes "  " ++ (replicate (length (decimal line)) 32 ++ codes " | ")

abbrev pub marks_told : (line : ℕ) (before : List ℕ) (marks : ℕ) → List ℕ
marks_told line before marks = blank_margin line ++ (blank_dots before ++ (replicate (character_count (shown_front before)) 32 ++ (replicate marks 94 ++ codes "\n")))

-- both, with so many marks
abbrev pub excerpt : (text : List ℕ) (at marks : ℕ) → List ℕ
excerpt text at marks = line_told (line_of text at) (line_before text at) (line_behind text at) ++ marks_told (line_of text at) (line_before text at) marks
