-- What a scope of the code stands for: the aliases in scope with the kinds of their columns.
use Rattle.std.specs.Borrow.{Bor}
use Rattle.std.specs.Prelude.{ℕ, List, [], ◌∷◌, map, Option, option_map, Bool, true, not, ◌&&◌}
use Rattle.hq_sql_tree.specs.WellFormed as well
use Rattle.hq_sql_tree.specs.WellFormed.{Names, Aliases}
use Rattle.hq_sql_check.specs.declared.scope.Kind.{Kind}
use Rattle.hq_sql_check.specs.declared.scope.Kind.TheVariants.{Whole, Text, Uuid, Truth, Json, Opaque}
use Rattle.hq_sql_check.specs.declared.scope.Name.{Name}
use Rattle.hq_sql_check.specs.declared.scope.Alias.{Alias}
use Rattle.hq_sql_check.specs.declared.scope.Scope.{Scope, Nothing, Level'}

abbrev pub kind_view : Kind → well.Kind
kind_view (Whole of_column) = well.whole of_column
kind_view Text = well.text
kind_view Uuid = well.uuid
kind_view Truth = well.truth
kind_view Json = well.json
kind_view Opaque = well.opaque

-- a column with its kind
abbrev pub name_view : Name → List ℕ × Option well.Kind
name_view n = (n.name.now, option_map kind_view n.kind)

-- an alias with its columns
abbrev pub alias_view : Alias → List ℕ × Names
alias_view a = (a.alias.now, map name_view a.names.items)

-- aliases put in front of what is in scope, one after the other
abbrev pub stacked : Aliases → Aliases → Aliases
stacked [] outer = outer
stacked (a ∷ aliases) outer = stacked aliases (a ∷ outer)

abbrev pub scope_view : Scope → Aliases
scope_view Nothing = []
scope_view (Level' aliases p outer) = stacked (map alias_view aliases.now) (scope_view outer)

-- the bytes of texts that are lent
abbrev pub texts : List (Bor (List ℕ)) → List (List ℕ)
texts = map (λ text. text.now)

-- each item differs from the next one
abbrev pub neighbours_differ : {A : Type 0} → (A → A → Bool) → List A → Bool
neighbours_differ same [] = true
neighbours_differ same (x ∷ []) = true
neighbours_differ same (x ∷ y ∷ xs) = not (same x y) && neighbours_differ same (y ∷ xs)
