-- The lines that are written after connections.
use Rattle.std.specs.Prelude.{ℕ, ◌+◌, List, [], ◌∷◌, ◌++◌, codes, decimal}
use Rattle.hq_http.specs.declared.end.ConnEnd.{ConnEnd}
use Rattle.hq_http.specs.declared.end.ConnEnd.TheVariants.{Ended, Refused, Cut, Spent, ReadFault, WriteFault, Memory}

-- how a connection ended
unfoldable pub end_text : ConnEnd → List ℕ
end_text Ended = codes "ended"
end_text (Refused status) = codes "refused " ++ decimal status
end_text (Cut bytes) = codes "cut " ++ decimal bytes
end_text Spent = codes "spent"
end_text ReadFault = codes "read fault"
end_text WriteFault = codes "write fault"
end_text Memory = codes "memory"

-- the line after the connection of this number
abbrev pub line_of : ℕ → ConnEnd → List ℕ
line_of k end = codes "connection " ++ decimal k ++ codes ": " ++ end_text end ++ codes "\n"

-- the lines after connections, of which the first one has this number
abbrev pub lines_from : ℕ → List ConnEnd → List ℕ
lines_from k [] = []
lines_from k (end ∷ ends) = line_of k end ++ lines_from (k + 1) ends
