-- The fields of one more set.
use Rattle.std.proofs.Common.{◌≡◌, ◌++◌, ◌∙◌, ap, refl, subst, ◌<◌, length, get_or, List}
use Rattle.hq_overlap_sets.specs.declared.sets.Set.{Set}
use Rattle.hq_overlap_sets.specs.Sets.{field_in, set_in}
use Rattle.hq_overlap_sets.proofs.ArenaLemmas.{entries_more}
use Rattle.hq_overlap_sets.proofs.keys.all_entries.Goals as goal

pub loop-set-preserved : goal.loop-set-preserved
loop-set-preserved c =
    let a = c.args.arena.now in
    let sets = c.deref-set-items.ensures.value in
    let x = c.set-item.result in
    entries_more (field_in a) (set_in a) (λ x. refl) a.sets.items c.loop-set.set-index x c.loop-set.entries.items c.push_entries.new.entries.items _
    (subst (λ (xs : List Set). c.loop-set.set-index < length xs) sets c.loop-set-test.true)
    (subst (λ (xs : List Set). x ≡ get_or xs c.loop-set.set-index x) sets c.set-item.is)
    (c.in_ok-push_entries.ensures ∙ ap (λ es. c.loop-set.entries.items ++ es) c.deref.ensures.value)
    c.loop-set.invariant
