use Rattle.std.proofs.Common.{◌∷◌, [], map, take}
use Rattle.std.proofs.lemmas.List.{map-append}
use Rattle.hq_base.proofs.Loops.{grown}
use Rattle.hq_copy_definition.specs.Metadata.{copied_rel}
use Rattle.hq_copy_tables.specs.Originals.{meta_in, role_in, schema_in}
use Rattle.hq_copy_tables.proofs.metadata.copied_rels.Goals as goal

-- the next relationship stands behind those so far
pub loop-relationship-preserved : goal.loop-relationship-preserved
loop-relationship-preserved c =
    let o = c.args.original.now in
    let kept = c.deref-relationship-items.result.now in
    let i = c.loop-relationship.relationship-index in
    let r = c.relationship-item.result in
    let copied = copied_rel (role_in o) (meta_in o) (schema_in o) c.args.table in
    grown (map copied) kept i r c.loop-relationship.rels c.push_rel.new.rels (copied r) (map-append copied (take i kept) (r ∷ [])) c.loop-relationship-test.true c.relationship-item.is
    c.loop-relationship.invariant c.in_ok-push_rel.ensures
