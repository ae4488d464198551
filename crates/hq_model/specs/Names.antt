-- Names (GraphQL October 2021, 2.1.9: Names, Reserved Names).
use Rattle.std.specs.Prelude.{ℕ, List, [], ◌∷◌, Bool, false, not, ◌&&◌, ◌||◌, ◌==◌, bytes_eq, codes}
use Rattle.std.specs.Char.{is_ascii_alphabetic, is_ascii_alphanumeric}
use Rattle.std.specs.List.{list_all}

-- a letter of A to Z or a to z, or an underscore
abbrev pub starts_name : ℕ → Bool
starts_name c = is_ascii_alphabetic c || (c == 95)

-- a letter, a digit or an underscore
abbrev pub continues_name : ℕ → Bool
continues_name c = is_ascii_alphanumeric c || (c == 95)

-- a Name
abbrev pub is_name : List ℕ → Bool
is_name [] = false
is_name (c ∷ cs) = starts_name c && list_all continues_name cs

-- a Name that is kept for introspection begins with two underscores
abbrev pub is_reserved : List ℕ → Bool
is_reserved [] = false
is_reserved (a ∷ []) = false
is_reserved (a ∷ b ∷ cs) = (a == 95) && (b == 95)

-- a Name that a schema may give
abbrev pub is_free_name : List ℕ → Bool
is_free_name n = is_name n && not (is_reserved n)

-- a name for a table: those of its types and root fields go on with an underscore
abbrev pub is_table_name : List ℕ → Bool
is_table_name n = is_free_name n && not (bytes_eq n (codes "_"))

-- the role that may see everything
abbrev pub is_admin_name : List ℕ → Bool
is_admin_name n = bytes_eq n (codes "admin")
