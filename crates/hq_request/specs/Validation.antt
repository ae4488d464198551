-- Validation (GraphQL October 2021, section 5): a document goes on where it violates no rule for the schema of the session's role.
use Rattle.std.specs.Prelude.{cond, Option, Some, None, Result, Ok, Err}
use Rattle.std.specs.Cmp.Lexicographic.{slice_cmp}
use Rattle.std.specs.Ordering.{nat_cmp, is_lt}
use Rattle.hq_gql_tree.specs.Documents.{DocumentTree}
use Rattle.hq_gql_tree.specs.Rules.{rule_text}
use Rattle.hq_gql_tree.specs.declared.fault.Fault.{Fault}
use Rattle.hq_rules_doc.specs.First.{first_doc_fault}
use Rattle.hq_rules_fields.specs.First.{first_field_fault}
use Rattle.hq_schema.specs.Schema.{SchemaTree}
use Rattle.hq_faults.specs.declared.faults.RequestFault.TheVariants.{Rule}
use Rattle.hq_request.specs.declared.refusal.RequestRefusal.{RequestRefusal}
use Rattle.hq_request.specs.declared.refusal.RequestRefusal.TheVariants as refusal

-- of two faults the one whose rule has the number that stands first in the standard; each part of such a number has one digit, so
-- they are in the order of their bytes
abbrev pub earlier : Option Fault → Option Fault → Option Fault
earlier None g = g
earlier (Some f) None = Some f
earlier (Some f) (Some g) = cond (is_lt (slice_cmp nat_cmp (rule_text g.rule) (rule_text f.rule))) (Some g) (Some f)

-- the fault, where there is one, and else the value
abbrev pub unless_fault : {X : Type 0} → Option Fault → X → Result X RequestRefusal
unless_fault None x = Ok x
unless_fault (Some f) x = Err (refusal.Fault (Rule f))

-- a document that violates no rule
abbrev pub valid_due : SchemaTree → DocumentTree → Result DocumentTree RequestRefusal
valid_due schema document = unless_fault (earlier (first_doc_fault schema document) (first_field_fault schema document)) document
