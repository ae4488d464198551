use Rattle.std.proofs.Common.{◌≡◌, drop, find, bytes_eq}
use Rattle.hq_base.specs.Types.{catalog_name}
use Rattle.hq_base.proofs.column_type.type_named.Given as goal

-- the type is among those that are left, if it is among them all
abbrev pub invariant-loop-ty : goal.invariant-loop-ty
invariant-loop-ty l = find (λ ty. bytes_eq (catalog_name ty) l.name) (drop l.ty-index l.types) ≡ find (λ ty. bytes_eq (catalog_name ty) l.name) l.types
