-- Who the caller is by an admin secret (Hasura, Authentication: admin secret, unauthorized role).
use Rattle.std.specs.Prelude.{◌≡◌, ◌⊎◌, ℕ, List, [], ◌∷◌, codes, if◌then◌else◌, Result}
use Rattle.std.specs.declared.option.Option.{Option}
use Rattle.std.specs.declared.option.Option.TheVariants.{None, Some}
use Rattle.std.specs.declared.result.Result.TheVariants.{Ok, Err}
use Rattle.std.specs.Str.{bytes_eq}
use Rattle.hq_base.specs.declared.memory.Memory.{Memory}
use Rattle.hq_model.specs.declared.session.Session.{Session}
use Rattle.hq_session.specs.declared.header.Header.{Header}
use Rattle.hq_session.specs.declared.hook.HookAnswer.{HookAnswer}
use Rattle.hq_session.specs.declared.hook.HookAnswer.TheVariants as answer
use Rattle.hq_session.specs.declared.secret.SecretRule.{SecretRule}
use Rattle.hq_session.specs.Sessions.{value_of, role_variable, session_of}

abbrev pub secret_name : List ℕ
secret_name = codes "x-hasura-admin-secret"

-- the session of a role that has no other variable
abbrev pub session_by_role : List ℕ → Session
session_by_role role = record { role = role; vars = role_variable role ∷ [] }

-- the answer that a session is, where memory was there for it
abbrev pub answer_with : Result Session Memory → HookAnswer
answer_with (Ok session) = answer.Session session
answer_with (Err _) = answer.Memory

-- the answer to a caller that gives no secret, by the unauthorized role
abbrev pub answer_without : (unauthorized : Option (List ℕ)) → HookAnswer
answer_without None = answer.Denied
answer_without (Some role) = answer.Session (session_by_role role)

-- the answer by the secret that is set, the one that is given, and the unauthorized role
abbrev pub answer_by : (secret given unauthorized : Option (List ℕ)) → List Header → HookAnswer
answer_by None given unauthorized headers = answer.Session (session_of headers)
answer_by (Some secret) None unauthorized headers = answer_without unauthorized
answer_by (Some secret) (Some given) unauthorized headers = if bytes_eq given secret then answer.Session (session_of headers) else answer.Denied

-- the answer to the caller with these headers
abbrev pub answer_of : SecretRule → List Header → HookAnswer
answer_of rule headers = answer_by rule.secret (value_of headers secret_name) rule.unauthorized headers

-- that answer is allowed, and want of memory
abbrev pub AllowedBySecret : SecretRule → List Header → HookAnswer → Type 0
AllowedBySecret rule headers given = (given ≡ answer.Memory) ⊎ (given ≡ answer_of rule headers)
