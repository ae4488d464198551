use Rattle.std.proofs.Common.{◌≡◌, map, drop}
use Rattle.httparse.specs.Spans.{header_bytes}
use Rattle.hq_http_request.specs.Requests.{are_text}
use Rattle.hq_http_request.proofs.fields.are_text.Given as goal

abbrev pub invariant-loop-header : goal.invariant-loop-header
invariant-loop-header l = are_text (map (header_bytes l.buf) l.headers) ≡ are_text (map (header_bytes l.buf) (drop l.header-index l.headers))
