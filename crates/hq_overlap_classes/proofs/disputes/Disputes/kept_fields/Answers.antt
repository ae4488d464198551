-- One more field, if it is kept.
use Rattle.std.proofs.Common.{◌∙◌, ◌+◌, ◌++◌, ◌∷◌, [], List, Bool, cond, ap, sym, drop, filter}
use Rattle.hq_overlap_sets.specs.declared.sets.Entry.{Entry}
use Rattle.hq_overlap_classes.specs.Disputes.{keeps_entry}
use Rattle.hq_overlap_sets.proofs.Growing.{drop_first, grown_by}
use Rattle.hq_overlap_classes.proofs.Sifting.{kept_one}
use Rattle.hq_overlap_classes.proofs.disputes.Disputes.kept_fields.Goals as goal

pub loop-entry-preserved : goal.loop-entry-preserved
loop-entry-preserved c =
    let at = c.loop-entry.entry-index in
    let all = c.args.entries.now in
    let old = c.loop-entry.kept.items in
    let x = c.entry-item.result in
    let test = keeps_entry c.args.self.now c.args.class in
    let more = filter test (drop (at + 1) all) in
    grown_by old c.push_if.new.kept.items (cond (test x) (x ∷ []) []) more _
    (c.in_ok-push_if.ensures ∙ ap (λ (b : Bool). old ++ cond {A = List Entry} b (x ∷ []) []) c.keeps.ensures)
    (ap (λ (zs : List Entry). old ++ zs) (kept_one (test x) x more)
    ∙ (ap (λ (xs : List Entry). old ++ filter test xs) (sym (drop_first all at x c.loop-entry-test.true c.entry-item.is)) ∙ c.loop-entry.invariant))
