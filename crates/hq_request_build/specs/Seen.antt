-- What a field of a schema with its coerced arguments is seen as, and the parts of a collected field.
use Rattle.hq_request_arguments.specs.FieldArguments.{field_args_view}
use Rattle.hq_request_build.specs.KnownField.{KnownField}
use Rattle.hq_request_build.specs.declared.known.KnownField.{KnownField as RustKnown}
use Rattle.hq_schema.specs.Schema.{field_view}

abbrev pub known_view : RustKnown → KnownField
known_view k = (field_view k.def.now, field_args_view k.args.value)
