-- The set of the number, if there is one.
use Rattle.std.proofs.Common.{◌∙◌, ap, sym, subst, List, ℕ}
use Rattle.std.specs.Result.{OnOk}
use Rattle.hq_overlap_sets.specs.Pairs.{spreads_in}
use Rattle.hq_overlap_sets.proofs.ArenaLemmas.{set_here, no_set}
use Rattle.hq_rules_overlap.specs.Groups.{Grows}
use Rattle.hq_rules_overlap.proofs.Growth.{grows_nothing}
use Rattle.hq_rules_overlap.proofs.closure.add_spreads.Goals as goal

pub returns-in-Some : goal.returns-in-Some
returns-in-Some c =
    let spreads = ap spreads_in (set_here c.args.arena.now c.args.set c.in-Some.found.now (sym c.in-Some.ensures)) in
    subst (λ (ns : List ℕ). OnOk c.add_all.result (Grows ns c.args.group.now.items c.add_all.new.list.items)) (c.deref.ensures.value ∙ sym spreads) c.add_all.ensures

pub returns-in-None : goal.returns-in-None
returns-in-None c =
    let none = ap spreads_in (no_set c.args.arena.now c.args.set (sym c.in-None.ensures)) in
    subst (λ (ns : List ℕ). Grows ns c.args.group.now.items c.args.group.now.items) (sym none) (grows_nothing c.args.group.now.items)
