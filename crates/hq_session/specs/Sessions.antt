-- The session that headers give (Hasura, Authentication: session variables). A header's first value counts.
use Rattle.std.specs.Prelude.{ℕ, List, [], ◌∷◌, ◌++◌, filter, find, map, Bool, not, cond, ◌&&◌, Option, is_some, option_map, unwrap_or, bytes_eq, codes}
use Rattle.std.specs.List.{list_any}
use Rattle.hq_base.specs.Text.{after}
use Rattle.hq_model.specs.declared.session.Session.{Session}
use Rattle.hq_model.specs.declared.session.Var.{Var}
use Rattle.hq_session.specs.declared.header.Header.{Header}

-- the value of a name: the first one, where it stands more than once
abbrev pub value_of : List Header → (name : List ℕ) → Option (List ℕ)
value_of headers name = option_map (λ h. h.value) (find (λ h. bytes_eq h.name name) headers)

abbrev pub role_name : List ℕ
role_name = codes "x-hasura-role"

-- the role is the one that is named, or `admin`
abbrev pub role_in : List Header → List ℕ
role_in headers = unwrap_or (value_of headers role_name) (codes "admin")

-- the variable that a role is
abbrev pub role_variable : List ℕ → Var
role_variable role = record { name = role_name; value = role }

-- session variables begin so; the secret is none of them
abbrev pub is_variable : List ℕ → Bool
is_variable name = is_some (after (codes "x-hasura-") name) && not (bytes_eq name (codes "x-hasura-admin-secret"))

abbrev pub variable_of : Header → Var
variable_of h = record { name = h.name; value = h.value }

-- a variable of this name is there
abbrev pub has_variable : List Var → (name : List ℕ) → Bool
has_variable vars name = list_any (λ v. bytes_eq v.name name) vars

-- the variables of these whose name stands neither among the earlier ones nor among those before
abbrev pub new_variables : (earlier : List Var) → List Var → List Var
new_variables earlier [] = []
new_variables earlier (v ∷ vs) = cond (has_variable earlier v.name) (new_variables earlier vs) (v ∷ new_variables (earlier ++ v ∷ []) vs)

-- the role, and the variables of the headers, each name once
abbrev pub variables_in : List Header → List Var
variables_in headers =
    new_variables [] (role_variable (role_in headers) ∷ map variable_of (filter (λ h. is_variable h.name) headers))

-- the session of the headers
abbrev pub session_of : List Header → Session
session_of headers = record { role = role_in headers; vars = variables_in headers }
