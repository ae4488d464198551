use Rattle.std.proofs.Common.{List, ◌≡◌, ◌++◌, map, drop}
use Rattle.hq_base.specs.Json.{json_view}
use Rattle.hq_model.specs.declared.meta.Rel.{Rel}
use Rattle.hq_copy_text.specs.Lists.{those}
use Rattle.hq_laws_written.specs.Metadata.Written.{rel_json}
use Rattle.hq_copy_text.proofs.relationships.rels_json.Given as goal

-- those so far, and then those of the relationships that are left
abbrev pub invariant-loop-rel : goal.invariant-loop-rel
invariant-loop-rel l =
    let written = λ (rels : List Rel). map (rel_json l.tables l.own) (those l.many rels) in
    map json_view l.all.items ++ written (drop l.rel-index l.rels) ≡ written l.rels
