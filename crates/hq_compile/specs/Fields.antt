-- Fields, and the parts of an aggregate, without where they lie in memory.
use Rattle.std.specs.Prelude.{List, map}
use Rattle.hq_request_tree.specs.Fields.{FieldTrees, PartTrees, fields_of, parts_of, keyed_field_view, keyed_part_view}
use Rattle.hq_request_tree.specs.declared.field.KeyedAggPart.{KeyedAggPart}
use Rattle.hq_request_tree.specs.declared.field.KeyedAskField.{KeyedAskField}

abbrev pub fields_view : List KeyedAskField → FieldTrees
fields_view fs = fields_of (map keyed_field_view fs)

abbrev pub parts_view : List KeyedAggPart → PartTrees
parts_view ps = parts_of (map keyed_part_view ps)
