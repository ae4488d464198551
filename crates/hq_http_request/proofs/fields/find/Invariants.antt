use Rattle.std.proofs.Common.{◌≡◌, map, drop}
use Rattle.httparse.specs.Spans.{header_bytes}
use Rattle.hq_http_request.specs.Requests.{value_of}
use Rattle.hq_http_request.proofs.fields.find.Given as goal

abbrev pub invariant-loop-header : goal.invariant-loop-header
invariant-loop-header l = value_of l.name (map (header_bytes l.buf) l.headers) ≡ value_of l.name (map (header_bytes l.buf) (drop l.header-index l.headers))
