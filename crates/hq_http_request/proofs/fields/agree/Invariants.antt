use Rattle.std.proofs.Common.{◌≡◌, map, drop}
use Rattle.httparse.specs.Spans.{header_bytes}
use Rattle.hq_http_request.specs.Requests.{agree}
use Rattle.hq_http_request.proofs.fields.agree.Given as goal

abbrev pub invariant-loop-header : goal.invariant-loop-header
invariant-loop-header l = agree l.name l.value (map (header_bytes l.buf) l.headers) ≡ agree l.name l.value (map (header_bytes l.buf) (drop l.header-index l.headers))
