-- What values of the code stand for.
use Rattle.std.specs.Borrow.{Bor}
use Rattle.std.specs.Prelude.{ℕ, List, [], ◌∷◌, map, Option, Some, None, option_map}
use Rattle.hq_model.specs.Grants.{Grants}
use Rattle.hq_model.specs.PermView.{permission_view}
use Rattle.hq_model.specs.Schema.{Schema}
use Rattle.hq_model.specs.Described.{scope_schema}
use Rattle.hq_confine_rules.specs.Origins.{Origin, made, of, Shape, scan, outputs, Shapes}
use Rattle.hq_confine_rules.specs.Uses.{Fault}
use Rattle.hq_confine_uses.specs.declared.faults.Fault as fault
use Rattle.hq_confine_uses.specs.declared.origins.Cell.{Cell}
use Rattle.hq_confine_uses.specs.declared.origins.Path.{Path}
use Rattle.hq_confine_uses.specs.declared.known.Rules.{Rules}
use Rattle.hq_confine_uses.specs.declared.scope.Alias.{Alias}
use Rattle.hq_confine_uses.specs.declared.scope.Output.{Output}
use Rattle.hq_confine_uses.specs.declared.scope.Passed.{Passed}
use Rattle.hq_confine_uses.specs.declared.scope.Shape as shape
use Rattle.hq_confine_uses.specs.declared.scope.Shape.TheVariants.{Scan, Outputs}
use Rattle.hq_confine_uses.specs.declared.scope.Shapes as shapes

-- the bytes of texts that are lent
abbrev pub texts : List (Bor (List ℕ)) → List (List ℕ)
texts = map (λ text. text.now)

-- ---- what the rules are asked over

-- the schema of the catalog and the metadata
abbrev pub rules_schema : Rules → Schema
rules_schema r = scope_schema r.scope

-- what the session is granted
abbrev pub rules_grants : Rules → Grants
rules_grants r = map (option_map permission_view) r.grants.now

-- ---- faults

abbrev pub fault_view : fault.Fault → Fault
fault_view f = record { rule = f.rule; alias = f.alias.now }

-- a fault, where there is one
abbrev pub faulted : Option fault.Fault → Option Fault
faulted = option_map fault_view

-- ---- origins and shapes

-- the aliases of a path, the nearest first
abbrev pub path_view : Path → List (List ℕ)
path_view p = p.first.now ∷ texts p.rest.now

-- the origin of a column; without a cell its value is made by the statement
abbrev pub origin_view : Option Cell → Origin
origin_view None = made
origin_view (Some c) = of c.table (path_view c.path) c.column

-- that of an output
abbrev pub passed_view : Option Passed → Origin
passed_view None = made
passed_view (Some p) = of p.table (texts p.path.items) p.column

abbrev pub output_view : Output → List ℕ × Origin
output_view o = (o.name.now, passed_view o.origin)

abbrev pub shape_view : shape.Shape → Shape
shape_view (Scan t) = scan t
shape_view (Outputs os) = outputs (map output_view os.items)

abbrev pub alias_view : Alias → List ℕ × Shape
alias_view a = (a.alias.now, shape_view a.shape)

-- aliases put in front of what is in scope, one after the other
abbrev pub stacked : Shapes → Shapes → Shapes
stacked [] outer = outer
stacked (a ∷ aliases) outer = stacked aliases (a ∷ outer)

abbrev pub shapes_view : shapes.Shapes → Shapes
shapes_view shapes.Nothing = []
shapes_view (shapes.Level' aliases p outer) = stacked (map alias_view aliases.now) (shapes_view outer)
