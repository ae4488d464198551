-- The row has one more set.
use Rattle.std.proofs.Common.{map, refl, ◌∙◌, subst, ℕ, ◌<◌, sym}
use Rattle.std.proofs.lemmas.Result.{on_ok_weaker}
use Rattle.hq_overlap_sets.specs.Sets.{field_in}
use Rattle.hq_rules_overlap.proofs.Rows.{below_more, key_inside}
use Rattle.hq_rules_overlap.proofs.below.push_below.Goals as goal

pub returns-clause-below : goal.returns-clause-below
returns-clause-below c =
    let f = field_in c.args.arena.now in
    on_ok_weaker c.push_row.result
    (λ only. below_more (map f c.args.entries.now) c.args.rows.now.items c.push_row.new.rows.items c.args.at (f c.args.entry.now)
    c.args.entry.now.below c.requires.stands c.requires.key refl only c.requires.below)
    c.push_row.ensures.only

pub returns-clause-length : goal.returns-clause-length
returns-clause-length c = on_ok_weaker c.push_row.result (λ e. e ∙ c.requires.length) c.push_row.ensures.length

pub returns-clause-added : goal.returns-clause-added
returns-clause-added c =
    let f = field_in c.args.arena.now in
    on_ok_weaker c.push_row.result
    (λ added. added
    (subst (λ (n : ℕ). c.args.at < n) (sym c.requires.length)
    (key_inside f c.args.entries.now c.args.at (f c.args.entry.now) c.requires.key)))
    c.push_row.ensures.added
