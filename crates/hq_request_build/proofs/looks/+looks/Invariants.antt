use Rattle.std.proofs.Common.{◌≡◌, map, drop}
use Rattle.hq_base.specs.Due.{mapped}
use Rattle.hq_request_arguments.specs.Context.{context_view}
use Rattle.hq_request_build.specs.Looks.{looks_due}
use Rattle.hq_request_build.proofs.Walks.{front}
use Rattle.hq_request_tree.specs.Introspection.{looks, keyed_introspection_view}
use Rattle.hq_request_collect.specs.TreeSeen.{collected_view, trees_of}
use Rattle.hq_request_build.proofs.looks.+looks.Given as goal

-- what is read so far, in front of what is read of the fields that are left
abbrev pub invariant-ask_looks-loop-field : goal.invariant-ask_looks-loop-field
invariant-ask_looks-loop-field l =
    let c = context_view l.context in
    looks_due c l.place l.t (trees_of (map collected_view l.fields.items))
    ≡ mapped (front looks (map keyed_introspection_view l.looks.items)) (looks_due c l.place l.t (trees_of (map collected_view (drop l.field-index l.field-items))))
