-- A set that is there.
use Rattle.std.proofs.Common.{◌∙◌, sym, nat_eq, length}
use Rattle.std.proofs.lemmas.Bool.{and_parts, eqb-true}
use Rattle.hq_rules_overlap.proofs.Empties.{empty_here}
use Rattle.hq_rules_overlap.proofs.walk.is_empty.Goals as goal

pub returns : goal.returns
returns c = λ held.
    let found = c.in-Some.found.now in
    let both = and_parts (nat_eq (length found.entries.items) 0) (nat_eq (length found.spreads.items) 0) (sym c.is_empty.ensures ∙ held) in
    empty_here c.args.arena.now c.args.set found (sym c.in-Some.ensures) (eqb-true (length found.entries.items) 0 both.0) (eqb-true (length found.spreads.items) 0 both.1)
