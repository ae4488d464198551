use Rattle.std.proofs.Common.{◌≡◌, map, take}
use Rattle.hq_schema.specs.Schema.{type_view}
use Rattle.hq_request_introspect.proofs.by_name.types_of.Given as goal

abbrev pub invariant-loop-entry : goal.invariant-loop-entry
invariant-loop-entry l = map (λ t. type_view t.now) l.types.items ≡ map (λ e. type_view e.def.now) (take l.entry-index l.entries)
