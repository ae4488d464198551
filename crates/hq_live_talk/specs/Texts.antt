-- The texts that go out (the protocol graphql-transport-ws), compact, with members as shown.
use Rattle.std.specs.Prelude.{ℕ, ◌-◌, List, ◌++◌, length, take, drop, Bool, ◌&&◌, nat_eq, nat_le, codes}
use Rattle.std.specs.List.{starts_with, ends_with}
use Rattle.hq_base.specs.Compact.{quoted}

-- a reply tells a fault where it begins and ends so; every other reply is data
abbrev pub tells_fault : (reply : List ℕ) → Bool
tells_fault reply = nat_le 13 (length reply) && starts_with nat_eq reply (codes "{\"errors\":[") && ends_with nat_eq reply (codes "]}")

-- its faults, from that `[` to that `]`
abbrev pub errors_in : (reply : List ℕ) → List ℕ
errors_in reply = drop 10 (take (length reply - 1) reply)

abbrev pub named : (id : List ℕ) → List ℕ
named id = codes "{\"id\":" ++ quoted id

abbrev pub next_text : (id reply : List ℕ) → List ℕ
next_text id reply = named id ++ codes ",\"type\":\"next\",\"payload\":" ++ reply ++ codes "}"

abbrev pub error_text : (id errors : List ℕ) → List ℕ
error_text id errors = named id ++ codes ",\"type\":\"error\",\"payload\":" ++ errors ++ codes "}"

abbrev pub complete_text : (id : List ℕ) → List ℕ
complete_text id = named id ++ codes ",\"type\":\"complete\"}"

abbrev pub ack_text : List ℕ
ack_text = codes "{\"type\":\"connection_ack\"}"

abbrev pub pong_text : List ℕ
pong_text = codes "{\"type\":\"pong\"}"

-- why a subscription is not begun for one who has 100
abbrev pub too_many_errors : List ℕ
too_many_errors = codes "[{\"message\":\"too many subscriptions\",\"extensions\":{\"path\":\"$\",\"code\":\"bad-request\",\"rule\":\"L1\",\"at\":null}}]"
