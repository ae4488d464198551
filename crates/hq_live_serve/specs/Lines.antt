-- The lines that are written after talks.
use Rattle.std.specs.Prelude.{ℕ, ◌+◌, List, [], ◌∷◌, ◌++◌, codes, decimal}
use Rattle.hq_live_talk.specs.declared.end.TalkEnd.{TalkEnd}
use Rattle.hq_live_talk.specs.declared.end.TalkEnd.TheVariants.{Ended, Closed, Spent, LinkFault, Memory}

-- how a talk ended
unfoldable pub end_text : TalkEnd → List ℕ
end_text Ended = codes "ended"
end_text (Closed code) = codes "closed " ++ decimal code
end_text Spent = codes "spent"
end_text LinkFault = codes "link fault"
end_text Memory = codes "memory"

-- the line after the talk of this number
abbrev pub line_of : ℕ → TalkEnd → List ℕ
line_of k end = codes "connection " ++ decimal k ++ codes ": " ++ end_text end ++ codes "\n"

-- the lines after talks, of which the first one has this number
abbrev pub lines_from : ℕ → List TalkEnd → List ℕ
lines_from k [] = []
lines_from k (end ∷ ends) = line_of k end ++ lines_from (k + 1) ends
