use Rattle.std.proofs.Common.{◌≡◌, ◌∙◌, ◌<◌, ℕ, ◌+◌, ◌++◌, ◌∷◌, [], suc, ap, drop, length, arith}
use Rattle.std.proofs.lemmas.List.{drop_more}
use Rattle.hq_base.proofs.Loops.{piece_more}
use Rattle.hq_copy_definition.specs.Metadata.{places}
use Rattle.hq_copy_tables.proofs.metadata.first_columns.Goals as goal

-- the next place stands behind those so far
pub loop-at-preserved : goal.loop-at-preserved
loop-at-preserved c =
    let i = c.loop-at.at in
    let columns = c.args.columns.now in
    let one : suc i ≡ i + 1 = omega arith in
    let lt : i < length columns = omega arith in
    let rest = drop (i + 1) columns in
    piece_more c.loop-at.first c.push.new.self (i ∷ []) (places (i + 1) rest) (places i (drop i columns)) (places 0 columns)
    (c.in_ok-push.ensures.ok ∙ ap (λ (n : ℕ). c.loop-at.first ++ n ∷ []) c.new.ensures)
    (ap (places i) (drop_more columns i 0 lt) ∙ ap (λ (n : ℕ). i ∷ places n rest) one)
    c.loop-at.invariant
