use Rattle.std.proofs.Common.{◌≡◌, ◌++◌, map, drop}
use Rattle.httparse.specs.Spans.{header_bytes}
use Rattle.hq_http.specs.Fields.{headers_in}
use Rattle.hq_http.proofs.headers.read_headers.Given as goal

-- the headers so far, and those of the fields that are left
abbrev pub invariant-loop-field : goal.invariant-loop-field
invariant-loop-field l = l.headers ++ headers_in (map (header_bytes l.head) (drop l.field-index l.fields)) ≡ headers_in (map (header_bytes l.head) l.fields)
