-- What a session is granted of the tables that are copied.
use Rattle.std.specs.Prelude.{List, [], ◌∷◌, Result, Ok, Err}
use Rattle.hq_base.specs.Due.{and_then, mapped}
use Rattle.hq_copy_definition.specs.Refusals.{not_bound}
use Rattle.hq_copy_definition.specs.Sources.{Source}
use Rattle.hq_copy_definition.specs.declared.refusal.CopyRefusal.{CopyRefusal}
use Rattle.hq_model.specs.Binding.{bound_permission}
use Rattle.hq_model.specs.Permission.{Permission}
use Rattle.hq_model.specs.Schema.{Schema}
use Rattle.hq_model.specs.declared.bind.BindRefusal.{BindRefusal}
use Rattle.hq_model.specs.declared.session.Var.{Var}

-- a permission that is bound, or why no copy is made
abbrev pub or_not_bound : Result Permission BindRefusal → Result Permission CopyRefusal
or_not_bound (Ok p) = Ok p
or_not_bound (Err e) = Err (not_bound e)

-- each permission, bound, or why the first does not bind
abbrev pub granted_due : Schema → List Var → List Source → Result (List Permission) CopyRefusal
granted_due s vars [] = Ok []
granted_due s vars (o ∷ os) =
    and_then (λ p. mapped (λ ps. p ∷ ps) (granted_due s vars os)) (or_not_bound (bound_permission o.permission s vars o.entry.table))
