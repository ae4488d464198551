use Rattle.std.proofs.Common.{◌∙◌, [], ◌∷◌, ◌++◌, ap}
use Rattle.hq_schema_of_role.specs.Rows.{piece_name}
use Rattle.hq_schema_of_role.proofs.Loops.{map_take-more}
use Rattle.hq_schema_of_role.proofs.text.texts.Goals as goal

pub loop-piece-preserved : goal.loop-piece-preserved
loop-piece-preserved c =
    map_take-more piece_name c.args.pieces.now c.loop-piece.piece-index _ c.loop-piece.texts.items c.push.new.self.items c.loop-piece.invariant c.loop-piece-test.true
    (c.in_ok-push.ensures.items ∙ ap (λ v. c.loop-piece.texts.items ++ v ∷ []) c.in_ok-text.ensures)
