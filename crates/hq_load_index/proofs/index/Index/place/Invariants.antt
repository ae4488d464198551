use Rattle.hq_load_index.proofs.index.Index.place.Given as goal

abbrev pub ghosts-place_within : goal.ghosts-place_within
ghosts-place_within a = record { name = a.blank.name; parts = a.blank.parts }
