use Rattle.std.proofs.Common.{arith, rules, to_z, of_z, ◌≡◌}
use Rattle.std.specs.Int.{w64}
use Rattle.std.specs.Int.RustNames.{FitsSigned}
use Rattle.std.proofs.lemmas.Int.{to_z-of_z}
use Rattle.hq_load_index.specs.Grids.{rows_in}
use Rattle.hq_load_index.proofs.Starts.{begin_end, begin_more}
use Rattle.hq_load_index.proofs.direct.starts_of.Goals as goal

pub loop-place-preserved : goal.loop-place-preserved
loop-place-preserved c =
    begin_more c.args.column (rows_in c.args.grid.now) c.args.entries.now _ c.loop-place.starts.items _ c.loop-place.place c.in-Some.at
    c.requires.index (omega (arith, c.loop-place-test.true)) (search rules) (search rules) (search rules) (search rules)
    (record { same = search rules; more = search rules }) c.loop-place.invariant

pub returns : goal.returns
returns c =
    let small : FitsSigned w64 c.args.least = search rules in
    let same : to_z w64 (of_z w64 c.args.least) ≡ c.args.least = to_z-of_z w64 c.args.least small in
    begin_end c.args.column (rows_in c.args.grid.now) c.args.entries.now _ c.loop-place.starts.items _ c.loop-place.place
    (omega (arith, c.loop-place-test.false, c.loop-place.auto.place-end))
    (record { same = search rules; more = search rules }) (rw same at c.loop-place.invariant)
