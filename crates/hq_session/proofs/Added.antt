-- What a header adds to the variables so far, and what those behind it add.
use Rattle.std.proofs.Common.{◌≡◌, List, [], ◌∷◌, ◌++◌, cond, true, false, refl, append_assoc}
use Rattle.hq_model.specs.declared.session.Var.{Var}
use Rattle.hq_session.specs.declared.header.Header.{Header}
use Rattle.hq_session.specs.Sessions.{is_variable, variable_of, has_variable, new_variables}

-- one that is no variable adds nothing
pub none_added : (vars : List Var) (h : Header) → is_variable h.name ≡ false
    → (rest : List Var) → vars ++ new_variables vars rest ≡ vars ++ new_variables vars (cond (is_variable h.name) (variable_of h ∷ rest) rest)
none_added vars h other rest = rw other refl

-- nor does one whose name is there
pub known_added : (vars : List Var) (h : Header) → is_variable h.name ≡ true → has_variable vars h.name ≡ true
    → (rest : List Var) → vars ++ new_variables vars rest ≡ vars ++ new_variables vars (cond (is_variable h.name) (variable_of h ∷ rest) rest)
known_added vars h is there rest = rw (is, there) refl

-- a new one stands behind those that are there
pub new_added : (vars more : List Var) (h : Header) (v : Var) → is_variable h.name ≡ true → has_variable vars h.name ≡ false → v ≡ variable_of h → more ≡ vars ++ v ∷ []
    → (rest : List Var) → more ++ new_variables more rest ≡ vars ++ new_variables vars (cond (is_variable h.name) (variable_of h ∷ rest) rest)
new_added vars more h v is new made grows rest =
    rw (is, new, grows, made) (append_assoc vars (variable_of h ∷ []) (new_variables (vars ++ variable_of h ∷ []) rest))
