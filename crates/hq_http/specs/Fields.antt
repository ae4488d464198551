-- The headers of a request, by the fields of its head.
use Rattle.std.specs.Prelude.{ℕ, List, map}
use Rattle.httparse.specs.Grammar.{RequestHead}
use Rattle.hq_session.specs.Fields.{lowered}
use Rattle.hq_session.specs.declared.header.Header.{Header}
use Rattle.hq_http_request.specs.Holds.{fields_of}

-- a field, with its name in lower case
abbrev pub header_of : List ℕ × List ℕ → Header
header_of field = record { name = lowered field.0; value = field.1 }

abbrev pub headers_in : List (List ℕ × List ℕ) → List Header
headers_in fields = map header_of fields

-- the headers of a head
abbrev pub headers_of : RequestHead → List Header
headers_of head = headers_in (fields_of head)
