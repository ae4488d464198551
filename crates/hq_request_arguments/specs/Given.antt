-- Given arguments, without where they lie in memory.
use Rattle.hq_base.specs.Json.{json_view}
use Rattle.hq_schema.specs.Schema.{arg_view}
use Rattle.hq_request_arguments.specs.Reading.{Given}
use Rattle.hq_request_arguments.specs.declared.reading.Given.{Given as RustGiven}

-- what an argument that is given is seen as
abbrev pub given_view : RustGiven → Given
given_view g = record { arg = arg_view g.arg.now; value = json_view g.value.value }
