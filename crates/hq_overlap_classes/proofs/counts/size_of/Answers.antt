-- What the set counts.
use Rattle.std.proofs.Common.{ap, length, arith}
use Rattle.std.proofs.lemmas.List.{length-map}
use Rattle.hq_overlap_sets.specs.Pairs.{fields_in, spreads_in}
use Rattle.hq_overlap_sets.specs.Sets.{field_in}
use Rattle.hq_overlap_classes.proofs.counts.size_of.Goals as goal

pub returns : goal.returns
returns c =
    let fields = ap (λ o. length (fields_in o)) c.requires in
    let spreads = ap (λ o. length (spreads_in o)) c.requires in
    let long = length-map c.args.set.now.entries.items (field_in c.args.arena.now) in
    omega (arith, fields, spreads, long)
