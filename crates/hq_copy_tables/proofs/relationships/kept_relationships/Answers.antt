use Rattle.std.proofs.Common.{◌∙◌, ◌+◌, ◌++◌, ◌∷◌, [], Bool, cond, is_some, ap, drop}
use Rattle.hq_base.proofs.Loops.{next_item, piece_more}
use Rattle.hq_copy_definition.specs.Sources.{kept_relationships}
use Rattle.hq_copy_tables.proofs.Fronts.{places_front}
use Rattle.hq_model.specs.Meta.{meta_view}
use Rattle.hq_model.specs.Permission.{permission}
use Rattle.hq_model.specs.Described.{scope_schema}
use Rattle.hq_model.specs.View.{places_from}
use Rattle.hq_model.specs.declared.meta.Rel.{Rel}
use Rattle.hq_copy_tables.proofs.relationships.kept_relationships.Goals as goal

-- the next relationship, where it is kept, stands behind those so far
pub loop-at-preserved : goal.loop-at-preserved
loop-at-preserved c =
    let role = c.args.role.now in
    let m = meta_view c.args.scope.now.meta.now in
    let rels = c.relationships-rels.result.now in
    let i = c.loop-at.at in
    let rel = c.index-rels-at.result in
    let test = λ (r : Rel). is_some (permission role m r.remote) in
    piece_more c.loop-at.kept.items c.push_kept.new.kept.items (cond (test rel) (i ∷ []) []) (places_from test (i + 1) (drop (i + 1) rels)) (places_from test i (drop i rels))
    (kept_relationships role m (scope_schema c.args.scope.now) c.args.t)
    (c.in_ok-push_kept.ensures ∙ ap (λ (b : Bool). c.loop-at.kept.items ++ cond b (i ∷ []) []) c.in_ok-is_kept.ensures)
    (ap (places_from test i) (next_item rels i rel c.loop-at-test.true c.index-rels-at.is) ∙ places_front test i rel (drop (i + 1) rels))
    c.loop-at.invariant
