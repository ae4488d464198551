use Rattle.std.proofs.Common.{arith, ◌++◌, take, ℕ}
use Rattle.std.proofs.lemmas.List.{length-append, length-take}
use Rattle.hq_io.proofs.Pieces.{consumes_more}
use Rattle.hq_io.proofs.streams.read_all.Goals as goal

-- the piece that found no room was read all the same
pub returns-in_err-append-clause-moved : goal.returns-in_err-append-clause-moved
returns-in_err-append-clause-moved g c =
    let piece = take c.in_ok-count.count c.read.new.buf in
    (c.pieces.bytes ++ piece, omega (arith, length-append {A = ℕ}, length-take {A = ℕ}), consumes_more _ _ _ _ _ c.pieces.invariant.read c.in_ok-count.ensures.bytes.0)
