use Rattle.std.proofs.Common.{◌∙◌, ◌+◌, ◌++◌, ◌∷◌, [], List, map, drop, ap, sym}
use Rattle.std.proofs.lemmas.List.{map-append}
use Rattle.hq_base.specs.Json.{json_view}
use Rattle.hq_base.proofs.Loops.{left_more, next_item}
use Rattle.hq_copy_text.specs.Lists.{those}
use Rattle.hq_copy_text.proofs.Steps.{of_kind, of_other}
use Rattle.hq_laws_written.specs.Metadata.Written.{rel_json}
use Rattle.hq_model.specs.declared.meta.Rel.{Rel}
use Rattle.hq_copy_text.proofs.relationships.rels_json.Goals as goal
use Rattle.hq_copy_text.proofs.relationships.rels_json.Goals.{then-rel-many+in_ok-rel_json+in_ok-push, else-rel-many}

pub loop-rel-preserved : goal.loop-rel-preserved
loop-rel-preserved c =
    let f = rel_json c.args.tables.now c.args.own.now in
    let many = c.args.many in
    let written = λ (rels : List Rel). map f (those many rels) in
    let rels = c.args.rels.now in
    let i = c.loop-rel.rel-index in
    let r = c.rel-item.result in
    let left = drop i rels in
    let rest = drop (i + 1) rels in
    let before = map json_view c.loop-rel.all.items in
    let after = map json_view c.if-rel-many.all.items in
    let split = next_item rels i r c.loop-rel-test.true c.rel-item.is in
    elim c.if-rel-many.branch [
      | then-rel-many+in_ok-rel_json+in_ok-push w ↦
          let grows = ap (λ v. map json_view v.items) w.all-is ∙ ap (map json_view) w.in_ok-push.ensures.items
          ∙ map-append json_view c.loop-rel.all.items (w.in_ok-rel_json.field-0 ∷ []) ∙ ap (λ v. before ++ v ∷ []) w.in_ok-rel_json.ensures in
          left_more written before after r left rest (written rels) (f r) (of_kind f r rest many w.if-rel-many.true) split grows c.loop-rel.invariant
      | else-rel-many w ↦
          ap (λ v. map json_view v.items ++ written rest) w.all-is
          ∙ ap (λ xs. before ++ xs) (sym (ap written split ∙ of_other f r rest many w.if-rel-many.false)) ∙ c.loop-rel.invariant
    ]
