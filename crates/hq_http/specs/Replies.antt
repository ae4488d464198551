-- The bytes of a reply (RFC 9112, sections 4 and 6; RFC 9110, sections 10.2.1 and 15).
use Rattle.std.specs.Prelude.{ℕ, Bool, ◌&&◌, nat_le, nat_lt, List, [], ◌++◌, length, codes, decimal, unwrap_or, if◌then◌else◌}
use Rattle.http.specs.StatusCode.{reason_phrase}
use Rattle.hq_http_request.specs.declared.fault.Fault.{Fault}
use Rattle.hq_http_request.specs.declared.fault.Fault.TheVariants.{BadRequest, Denied, NotFound, NotAllowed, LengthRequired, BodyTooLarge, HeadTooLarge, Failed, Unavailable}
use Rattle.hq_http_request.specs.declared.judge.Target.{Target}
use Rattle.hq_http_request.specs.declared.judge.Target.TheVariants.{Graphql, Health, NotPost, NotGet, Nowhere}
use Rattle.hq_http.specs.declared.reply.Manner.{Manner}

-- the status of a fault
abbrev pub number_of : Fault → ℕ
number_of BadRequest = 400
number_of Denied = 401
number_of NotFound = 404
number_of NotAllowed = 405
number_of LengthRequired = 411
number_of BodyTooLarge = 413
number_of HeadTooLarge = 431
number_of Failed = 500
number_of Unavailable = 503

-- the text of a fault with this message, code and status
abbrev pub fault_with : (message code status : List ℕ) → List ℕ
fault_with message code status =
    codes "{\"errors\":[{\"message\":\"" ++ message ++ codes "\",\"extensions\":{\"path\":\"$\",\"code\":\"" ++ code
    ++ codes "\",\"rule\":\"H" ++ status ++ codes "\",\"at\":null}}]}"

-- the body of a fault
unfoldable pub fault_text : Fault → List ℕ
fault_text BadRequest = fault_with (codes "bad request") (codes "bad-request") (codes "400")
fault_text Denied = fault_with (codes "access denied") (codes "access-denied") (codes "401")
fault_text NotFound = fault_with (codes "resource does not exist") (codes "not-found") (codes "404")
fault_text NotAllowed = fault_with (codes "method not allowed") (codes "not-found") (codes "405")
fault_text LengthRequired = fault_with (codes "length required") (codes "bad-request") (codes "411")
fault_text BodyTooLarge = fault_with (codes "body too large") (codes "bad-request") (codes "413")
fault_text HeadTooLarge = fault_with (codes "head too large") (codes "bad-request") (codes "431")
fault_text Failed = fault_with (codes "database error") (codes "unexpected") (codes "500")
fault_text Unavailable = fault_with (codes "out of memory") (codes "unexpected") (codes "503")

-- the phrase of a status of three digits, as the crate `http` has it
unfoldable pub phrase_of : ℕ → List ℕ
phrase_of status = if nat_le 100 status && nat_lt status 1000 then unwrap_or (reason_phrase status) [] else []

abbrev pub status_line : ℕ → List ℕ
status_line status = codes "HTTP/1.1 " ++ decimal status ++ codes " " ++ phrase_of status ++ codes "\r\n"

unfoldable pub type_line : (plain : Bool) → List ℕ
type_line plain = if plain then codes "Content-Type: text/plain; charset=utf-8\r\n" else codes "Content-Type: application/json; charset=utf-8\r\n"

unfoldable pub allow_line : Target → List ℕ
allow_line NotPost = codes "Allow: POST\r\n"
allow_line NotGet = codes "Allow: GET\r\n"
allow_line Graphql = []
allow_line Health = []
allow_line Nowhere = []

unfoldable pub close_line : (closes : Bool) → List ℕ
close_line closes = if closes then codes "Connection: close\r\n" else []

-- the head of a reply with a body of this length
abbrev pub reply_head : Manner → ℕ → List ℕ
reply_head m n =
    status_line m.status ++ type_line m.plain ++ codes "Content-Length: " ++ decimal n ++ codes "\r\n"
    ++ allow_line m.place ++ close_line m.closes ++ codes "\r\n"

-- the bytes of a reply
abbrev pub reply_bytes : Manner → (body : List ℕ) → List ℕ
reply_bytes m body = reply_head m (length body) ++ (if m.is_head then [] else body)
