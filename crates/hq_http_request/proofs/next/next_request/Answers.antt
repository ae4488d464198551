use Rattle.std.proofs.Common.{rules, subst}
use Rattle.httparse.specs.Grammar.{MayBecomeRequest}
use Rattle.hq_http_request.specs.Holds.{window, Holds, large}
use Rattle.hq_http_request.specs.Reads.{IfWhole, SpansAre}
use Rattle.hq_http_request.proofs.Heads.{whole_head, spans_of_complete}
use Rattle.hq_http_request.proofs.next.next_request.Goals as goal

pub returns-in-Ok-Complete : goal.returns-in-Ok-Complete
returns-in-Ok-Complete c =
    let holds_next : Holds c.args.bytes.now c.answer.result =
    whole_head c.args.bytes.now c.parse_request.new.headers c.in-Ok-Complete.spans c.answer.result (search rules) (search rules) (search rules) in
    let spans : IfWhole c.answer.result (λ request. SpansAre (window c.args.bytes.now) c.parse_request.new.headers request) =
    spans_of_complete (window c.args.bytes.now) c.parse_request.new.headers c.in-Ok-Complete.spans c.answer.result (search rules) (search rules) (search rules) c.answer.ensures.fields in
    record { holds_next = holds_next; spans = spans }

pub returns-else-bytes-lt-HEAD_LIMIT : goal.returns-else-bytes-lt-HEAD_LIMIT
returns-else-bytes-lt-HEAD_LIMIT c =
    let unfinished = rw c.in-Ok-Partial.field-0-is at c.in-Ok-Partial.ensures.unfinished in
    let holds_next : Holds c.args.bytes.now _ = large (search rules) (search rules) (subst MayBecomeRequest c.front-window.ensures unfinished) (search rules) in
    record { holds_next = holds_next; spans = tt }
