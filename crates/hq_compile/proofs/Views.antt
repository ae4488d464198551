-- A list without where it lies in memory.
use Rattle.std.proofs.Common.{◌≡◌, ℕ, Option, Vec, Global, rules}
use Rattle.hq_request_tree.specs.Arguments.{arguments_view}
use Rattle.hq_request_tree.specs.Fields.{origin_of, list, field_view}
use Rattle.hq_request_tree.specs.declared.arguments.Args.{Args}
use Rattle.hq_request_tree.specs.declared.field.AskField.{List as ListField, the_lemmas}
use Rattle.hq_request_tree.specs.declared.field.KeyedAskField.{KeyedAskField}
use Rattle.hq_compile.specs.Fields.{fields_view}

-- a list is seen by its origin, its arguments and its fields
pub list_seen : (t : ℕ) (r : Option ℕ) (a : Args) (fs : Vec KeyedAskField Global) → field_view (ListField t r a fs) ≡ list (origin_of t r) (arguments_view a) (fields_view fs.items)
list_seen t r a fs = search (rules, the_lemmas)
