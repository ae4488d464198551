use Rattle.std.proofs.Common.{◌≡◌, drop, bytes_eq}
use Rattle.std.specs.Prelude.{find}
use Rattle.hq_request_introspect.specs.FieldNames.{field_text}
use Rattle.hq_request_introspect.proofs.field_name.first_of.Given as goal

-- the field is among those that are left, if it is among them all
abbrev pub invariant-loop-field : goal.invariant-loop-field
invariant-loop-field l = find (λ f. bytes_eq (field_text f) l.name) (drop l.field-index l.fields) ≡ find (λ f. bytes_eq (field_text f) l.name) l.fields
