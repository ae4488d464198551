use Rattle.std.proofs.Common.{◌≡◌, ◌++◌, take}
use Rattle.hq_schema_of_role.proofs.parts.push_all.Given as goal

abbrev pub invariant-loop-part : goal.invariant-loop-part
invariant-loop-part l = l.parts.items ≡ l.initial.parts.items ++ take l.part-index l.others
