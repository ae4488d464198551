-- Texts that name a session variable (Hasura, Authorization: session variables in permission rules).
use Rattle.std.specs.Prelude.{ℕ, List, Option, Some, None, is_some, if◌then◌else◌, codes}
use Rattle.std.specs.Str.{str_to_ascii_lowercase}
use Rattle.hq_base.specs.Text.{after}

-- The name of the session variable, kept in lower case: a text that begins with X-Hasura-, whatever the case of its
-- letters A to Z, names one.
unfoldable pub variable_named : List ℕ → Option (List ℕ)
variable_named s = if is_some (after (codes "x-hasura-") (str_to_ascii_lowercase s)) then Some (str_to_ascii_lowercase s) else None
