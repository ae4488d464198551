-- Two scopes that give the same rows to these aliases.
use Rattle.std.specs.Prelude.{◌≡◌, ℕ, List, true}
use Rattle.hq_sql_tree.specs.Meaning.{Scope}
use Rattle.hq_sql_conjuncts.specs.Closed.{is_named}

abbrev pub AgreeAt : List (List ℕ) → Scope → Scope → Type 0
AgreeAt names x y = (alias : List ℕ) → is_named names alias ≡ true → x alias ≡ y alias
