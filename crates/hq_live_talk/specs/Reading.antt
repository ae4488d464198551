-- How a message is read (the protocol graphql-transport-ws, message types).
use Rattle.std.specs.Prelude.{ℕ, List, [], ◌∷◌, length, Bool, not, ◌&&◌, nat_lt, bytes_eq, codes, Option, Some, None, is_some, option_and_then, Result, Ok, Err, if◌then◌else◌}
use Rattle.std.specs.Option.{option_map}
use Rattle.hq_base.specs.Json.{JsonTree, null, obj}
use Rattle.hq_base.specs.Look.{member_in, str_in, object_in, member_list}
use Rattle.hq_base.specs.declared.body.JsonRefusal.{JsonRefusal}
use Rattle.hq_session.specs.declared.header.Header.{Header}
use Rattle.hq_session.specs.Fields.{lowered}
use Rattle.hq_live_text.specs.LiveText.{live_text, is_lasting}
use Rattle.hq_live_talk.specs.declared.said.Said.{Said}
use Rattle.hq_live_talk.specs.declared.said.Said.TheVariants as said
use Rattle.hq_live_talk.specs.declared.said.Kind.{Kind}
use Rattle.hq_live_talk.specs.declared.said.Kind.TheVariants as kind

-- the text of the member of this name, where it is one
abbrev pub text_in : JsonTree → (name : List ℕ) → Option (List ℕ)
text_in message name = option_and_then str_in (member_in message name)

abbrev pub kind_of : (name : List ℕ) → Kind
kind_of name =
    if bytes_eq name (codes "connection_init") then kind.Init else
    (if bytes_eq name (codes "subscribe") then kind.Subscribe else
    (if bytes_eq name (codes "ping") then kind.Ping else
    (if bytes_eq name (codes "pong") then kind.Pong else
    (if bytes_eq name (codes "complete") then kind.Complete else kind.Unknown))))

abbrev pub kind_by : Option (List ℕ) → Kind
kind_by None = kind.Unknown
kind_by (Some name) = kind_of name

abbrev pub kind_in : JsonTree → Kind
kind_in message = kind_by (text_in message (codes "type"))

-- a header: a name in lower case, and a text
abbrev pub header_of : List ℕ × JsonTree → Option Header
header_of m = option_map (λ value. record { name = lowered m.0; value = value }) (str_in m.1)

abbrev pub joined : Option Header → Option (List Header) → Option (List Header)
joined None more = None
joined (Some h) None = None
joined (Some h) (Some hs) = Some (h ∷ hs)

-- all of them, where all are headers
abbrev pub all_headers : List (List ℕ × JsonTree) → Option (List Header)
all_headers [] = Some []
all_headers (m ∷ ms) = joined (header_of m) (all_headers ms)

-- an object of at most 64 texts, or nothing
abbrev pub headers_if : Option JsonTree → Option (List Header)
headers_if None = Some []
headers_if (Some (obj ms)) = if nat_lt 64 (length (member_list ms)) then None else all_headers (member_list ms)
headers_if (Some _) = None

-- the headers that a payload has: it is absent, null, or an object whose `headers` is such an object or absent
abbrev pub payload_headers : Option JsonTree → Option (List Header)
payload_headers None = Some []
payload_headers (Some null) = Some []
payload_headers (Some (obj ms)) = headers_if (member_in (obj ms) (codes "headers"))
payload_headers (Some _) = None

abbrev pub init_by : Option (List Header) → Said
init_by None = said.BadInit
init_by (Some headers) = said.Init headers

abbrev pub init_said : JsonTree → Said
init_said message = init_by (payload_headers (member_in message (codes "payload")))

-- a name that is not empty, and an object
abbrev pub is_request : (id : List ℕ) → (payload : JsonTree) → Bool
is_request id payload = not (nat_lt (length id) 1) && is_some (object_in payload)

-- a request whose live text is at most 1,048,576 bytes long
abbrev pub request_said : (id : List ℕ) → (payload : JsonTree) → Said
request_said id payload =
    if is_request id payload then (if nat_lt 1048576 (length (live_text payload)) then said.BadSubscribe else said.Subscribe id (live_text payload) (is_lasting payload))
    else said.BadSubscribe

abbrev pub subscribe_by : Option (List ℕ) → Option JsonTree → Said
subscribe_by None payload = said.BadSubscribe
subscribe_by (Some id) None = said.BadSubscribe
subscribe_by (Some id) (Some payload) = request_said id payload

abbrev pub subscribe_said : JsonTree → Said
subscribe_said message = subscribe_by (text_in message (codes "id")) (member_in message (codes "payload"))

abbrev pub complete_by : Option (List ℕ) → Said
complete_by None = said.Bad
complete_by (Some id) = said.Complete id

abbrev pub complete_said : JsonTree → Said
complete_said message = complete_by (text_in message (codes "id"))

-- what a message of JSON says
abbrev pub said_by : Kind → JsonTree → Said
said_by kind.Init message = init_said message
said_by kind.Subscribe message = subscribe_said message
said_by kind.Ping message = said.Ping
said_by kind.Pong message = said.Pong
said_by kind.Complete message = complete_said message
said_by kind.Unknown message = said.Bad

abbrev pub said_in : JsonTree → Said
said_in message = said_by (kind_in message) message

-- what a text says: one that is refused, for another cause than memory, says nothing that is known
abbrev pub said_of : Result JsonTree JsonRefusal → Said
said_of (Ok message) = said_in message
said_of (Err e) = said.Bad
