-- The lines that `hq gen N` writes: one for each request, and one of the comparisons that look-ups by index made.
use Rattle.std.specs.Prelude.{ℕ, List, ◌++◌, codes}
use Rattle.std.specs.Fmt.{decimal}

abbrev pub reply_line : (number bytes : ℕ) → List ℕ
reply_line number bytes = codes "request " ++ decimal number ++ codes ": " ++ decimal bytes ++ codes " bytes\n"

abbrev pub steps_line : (steps : ℕ) → List ℕ
steps_line steps = codes "steps: " ++ decimal steps ++ codes "\n"
