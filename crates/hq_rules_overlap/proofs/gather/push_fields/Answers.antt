-- The set of the number, if there is one.
use Rattle.std.proofs.Common.{◌∙◌, ◌++◌, ap, sym, List, map}
use Rattle.std.proofs.lemmas.List.{map-append}
use Rattle.std.proofs.lemmas.Result.{on_ok_weaker}
use Rattle.hq_overlap_sets.specs.Pairs.{fields_in}
use Rattle.hq_overlap_sets.specs.Sets.{FieldTree, field_in}
use Rattle.hq_overlap_sets.proofs.ArenaLemmas.{set_here, no_set}
use Rattle.hq_overlap_sets.proofs.Growing.{nothing_more}
use Rattle.hq_rules_overlap.proofs.gather.push_fields.Goals as goal

pub returns-in-Some : goal.returns-in-Some
returns-in-Some c =
    let f = field_in c.args.arena.now in
    let old = c.args.entries.now.items in
    let fields = ap fields_in (set_here c.args.arena.now c.args.set c.in-Some.found.now (sym c.in-Some.ensures)) in
    on_ok_weaker c.push_entries.result
    (λ grown. ap (map f) grown ∙ (map-append f old c.deref.result.now ∙ ap (λ (fs : List FieldTree). map f old ++ fs) (ap (map f) c.deref.ensures.value ∙ sym fields)))
    c.push_entries.ensures

pub returns-in-None : goal.returns-in-None
returns-in-None c =
    let f = field_in c.args.arena.now in
    let old = c.args.entries.now.items in
    let none = ap fields_in (no_set c.args.arena.now c.args.set (sym c.in-None.ensures)) in
    sym (ap (λ (fs : List FieldTree). map f old ++ fs) none ∙ nothing_more (map f old))
