use Rattle.std.proofs.Common.{◌≡◌, map, drop}
use Rattle.hq_base.specs.Due.{mapped}
use Rattle.hq_request_arguments.specs.Context.{context_view}
use Rattle.hq_request_build.specs.Summaries.{taken_due, with_taken}
use Rattle.hq_request_build.proofs.Walks.{front}
use Rattle.hq_request_build.proofs.Ends.{taken_pair}
use Rattle.hq_request_collect.specs.TreeSeen.{collected_view, trees_of}
use Rattle.hq_request_build.proofs.summaries.ask_all_taken.Given as goal

-- what is read so far, in front of what is read of the fields that are left
abbrev pub invariant-loop-field : goal.invariant-loop-field
invariant-loop-field l =
    let c = context_view l.context in
    taken_due c l.place l.t (trees_of (map collected_view l.fields.items))
    ≡ mapped (front with_taken (map taken_pair l.taken)) (taken_due c l.place l.t (trees_of (map collected_view (drop l.field-index l.field-items))))
