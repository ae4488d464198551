use Rattle.std.proofs.Common.{◌≡◌, map, take}
use Rattle.hq_schema_of_role.specs.Rows.{piece_name}
use Rattle.hq_schema_of_role.proofs.text.texts.Given as goal

abbrev pub invariant-loop-piece : goal.invariant-loop-piece
invariant-loop-piece l = l.texts.items ≡ map piece_name (take l.piece-index l.pieces)
