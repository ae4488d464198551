use Rattle.std.proofs.Common.{◌≡◌, ◌∙◌, ℕ, List, ◌+◌, ◌++◌, suc, ap, drop, map, arith}
use Rattle.hq_base.proofs.Loops.{next_item, piece_more}
use Rattle.hq_copy_definition.specs.Extras.{ends_at, ends_from, ends_of}
use Rattle.hq_copy_tables.specs.Originals.{meta_in, role_in, schema_in}
use Rattle.hq_copy_tables.specs.Views.{extra_view, link_view}
use Rattle.hq_copy_tables.specs.declared.linked.Link.{Link}
use Rattle.hq_copy_tables.proofs.extras.ends_of.Goals as goal

-- the ends of the next link stand behind those so far
pub loop-at-preserved : goal.loop-at-preserved
loop-at-preserved c =
    let o = c.args.original.now in
    let s = schema_in o in
    let t = c.args.t in
    let i = c.loop-at.at in
    let links = o.links.now in
    let link = c.index-links-at.result in
    let one : suc i ≡ i + 1 = omega arith in
    let rest = map link_view (drop (i + 1) links) in
    piece_more (map extra_view c.loop-at.ends.items) (map extra_view c.push_ends.new.ends.items) (ends_at s t (i + 1) (link_view link)) (ends_from s t (suc (i + 1)) rest)
    (ends_from s t (suc i) (map link_view (drop i links))) (ends_of (role_in o) (meta_in o) s t) c.in_ok-push_ends.ensures
    (ap (λ (ls : List Link). ends_from s t (suc i) (map link_view ls)) (next_item links i link c.loop-at-test.true c.index-links-at.is)
    ∙ ap (λ (n : ℕ). ends_at s t n (link_view link) ++ ends_from s t (suc n) rest) one)
    c.loop-at.invariant
