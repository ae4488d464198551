use Rattle.std.proofs.Common.{◌≡◌, map, take}
use Rattle.hq_schema.specs.Schema.{type_view}
use Rattle.hq_request_introspect.specs.Types.{under}
use Rattle.hq_request_introspect.specs.Views.{entry_view}
use Rattle.hq_request_introspect.proofs.by_name.entries.Given as goal

abbrev pub invariant-loop-def : goal.invariant-loop-def
invariant-loop-def l = map entry_view l.entries.items ≡ map under (map type_view (take l.def-index l.types))
