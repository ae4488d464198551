use Rattle.std.proofs.Common.{◌≡◌, map, drop}
use Rattle.httparse.specs.Spans.{header_bytes}
use Rattle.hq_http_request.specs.Requests.{closes}
use Rattle.hq_http_request.proofs.fields.closes.Given as goal

abbrev pub invariant-loop-header : goal.invariant-loop-header
invariant-loop-header l = closes (map (header_bytes l.buf) l.headers) ≡ closes (map (header_bytes l.buf) (drop l.header-index l.headers))
