-- The fault of a valid request is of building.
use Rattle.std.proofs.Common.{◌≡◌, ◌∙◌, refl, sym, ap, subst, ℕ, List, length, Bool, true, false, cond, Option, Some, None, Result, Ok, Err, codes}
use Rattle.std.specs.Cmp.Lexicographic.{slice_cmp}
use Rattle.std.specs.Ordering.{nat_cmp, is_lt}
use Rattle.hq_base.specs.Due.{◌>>=◌}
use Rattle.hq_base.specs.Json.{JsonTree}
use Rattle.hq_base.specs.Look.{member_in}
use Rattle.hq_request_build.specs.Due.{build_due}
use Rattle.hq_request_tree.specs.Request.{AskTree}
use Rattle.hq_request_coerce.specs.Choice.{chosen}
use Rattle.hq_request_coerce.specs.Due.{variables_due}
use Rattle.hq_request_coerce.specs.declared.refusal.CoerceRefusal.{CoerceRefusal}
use Rattle.hq_request_coerce.specs.declared.refusal.CoerceRefusal.TheVariants as coerce
use Rattle.hq_faults.specs.Faults.{rule_of}
use Rattle.hq_faults.specs.declared.faults.RequestFault.{RequestFault}
use Rattle.hq_faults.specs.declared.faults.RequestFault.TheVariants as fault
use Rattle.hq_gql_lexer.specs.Lexemes.{tokens_of}
use Rattle.hq_gql_lexer.specs.declared.token.Token.{Token}
use Rattle.hq_gql_parser.specs.Answered.{parsed}
use Rattle.hq_gql_parser.specs.Documents.{Parses}
use Rattle.hq_gql_tree.specs.Documents.{DocumentTree}
use Rattle.hq_gql_tree.specs.Rules.{rule_text}
use Rattle.hq_gql_tree.specs.declared.fault.Fault.{Fault}
use Rattle.hq_request.specs.Operation.{of_fault, of_coerce, operation_name, values_due, ask_due, operation_ask}
use Rattle.hq_request.specs.Reading.{of_lex, of_parse, refused_as, query_due, document_due}
use Rattle.hq_request.specs.Request.{request_by, fault_in}
use Rattle.hq_request.specs.Validation.{earlier, unless_fault, valid_due}
use Rattle.hq_request.specs.declared.refusal.RequestRefusal.{RequestRefusal}
use Rattle.hq_schema_of_role.specs.RoleSchema.{role_schema}
use Rattle.hq_rules_doc.specs.First.{first_doc_fault}
use Rattle.hq_rules_fields.specs.First.{first_field_fault}
use Rattle.hq_schema.specs.Schema.{SchemaTree}
use Rattle.hq_model.specs.Meta.{MetaTree}
use Rattle.hq_model.specs.Permission.{role_of}
use Rattle.hq_model.specs.declared.session.Session.{Session}
use Rattle.hq_model.specs.declared.table.Table.{Table}
use Rattle.hq_laws_request.specs.Built.Builds.{ValidBuilds}
use Rattle.hq_laws_request.specs.Built.Faults.{IsValid, ValidFaults}
use Rattle.hq_laws_request.specs.Built.Refusing.{is_of_building, IsBuilding}
use Rattle.hq_laws_request.proofs.Built.BuildingSteps.{then_ok}
use Rattle.hq_laws_request.proofs.Built.Constants.{document_constant}

-- a value under another refusal is the value
value_is : {X E F : Type 0} (f : E → F) (r : Result X E) (x : X) → refused_as f r ≡ Ok x → r ≡ Ok x
value_is f (Ok z) x h = let same : z ≡ x = cc in ap (λ v. Ok v) same
value_is f (Err e) x h = absurd cc

-- no fault of two where neither comes first
no_fault : (a b : Option Fault) (x y : DocumentTree) → unless_fault (earlier a b) x ≡ Ok y → (a ≡ None) × (b ≡ None)
no_fault None None x y e = (refl, refl)
no_fault None (Some b) x y e = absurd cc
no_fault (Some a) None x y e = absurd cc
no_fault (Some a) (Some b) x y e = absurd (by (is_lt (slice_cmp nat_cmp (rule_text b.rule) (rule_text a.rule))) e)
  where
    by : (c : Bool) → unless_fault (cond c (Some b) (Some a)) x ≡ Ok y → ⊥
    by true e = cc
    by false e = cc

-- a fault under the request's refusal
fault_building : (r : Result AskTree CoerceRefusal) (f : RequestFault) → IsBuilding r → fault_in (refused_as of_coerce r) ≡ Some f → is_of_building (rule_of f) ≡ true
fault_building (Ok a) f h e = absurd cc
fault_building (Err (coerce.Fault q)) f h e = let same : fault.Rule q ≡ f = cc in subst (λ (g : RequestFault). is_of_building (rule_of g) ≡ true) same h
fault_building (Err coerce.Memory) f h e = absurd cc

module _ (tables : List Table) (meta : MetaTree) (session : Session) (body : List ℕ) where
  abbrev R : SchemaTree
  R = role_schema tables meta (role_of session.role)

  abbrev after_operation : JsonTree → DocumentTree → ℕ → Result AskTree RequestRefusal
  after_operation json document operation = values_due R json document operation >>= λ variables. ask_due R tables meta session document operation variables

  abbrev after_document : JsonTree → DocumentTree → Result AskTree RequestRefusal
  after_document json document = valid_due R document >>= λ valid. operation_ask R tables meta session json valid

  abbrev after_text : JsonTree → List ℕ → Result AskTree RequestRefusal
  after_text json text = document_due text >>= after_document json

  abbrev after_json : JsonTree → Result AskTree RequestRefusal
  after_json json = query_due json >>= after_text json

  -- a valid request is what building makes of it
  valid_is : (v : IsValid tables meta session body) → request_by R tables meta session body ≡ ask_due R tables meta session v.document v.operation v.variables
  unfolding request_by
  valid_is v =
      ap (λ r. r >>= after_json) v.read
      ∙ (ap (λ r. r >>= after_text v.json) v.found ∙ (ap (λ r. r >>= after_document v.json) v.parsed ∙ (ap (λ r. r >>= λ valid. operation_ask R tables meta session v.json valid) v.valid
      ∙ (ap (λ r. r >>= after_operation v.json v.document) v.chosen ∙ ap (λ r. r >>= λ variables. ask_due R tables meta session v.document v.operation variables) v.valued))))

  pub valid_faults : ValidBuilds tables meta session → ((e : ℕ) (us : List Token) → Parses e us (parsed e us)) → (f : RequestFault) → ValidFaults tables meta session body f
  valid_faults builds parses f catalog fit v e =
      let none = no_fault (first_doc_fault R v.document) (first_field_fault R v.document) v.document v.document v.valid in
      let read = then_ok (λ tokens. refused_as of_parse (parsed (length v.text) tokens)) (refused_as of_lex (tokens_of v.text)) v.document v.parsed in
      let spelled = subst (Parses (length v.text) read.0) (value_is of_parse (parsed (length v.text) read.0) v.document read.2) (parses (length v.text) read.0) in
      let constants = document_constant v.document read.0 spelled.0 v.operation in
      let choice = value_is of_fault (chosen v.document (operation_name v.json)) v.operation v.chosen in
      let valued = value_is of_coerce (variables_due R v.document v.operation (member_in v.json (codes "variables"))) v.variables v.valued in
      let built = builds catalog fit v.document (operation_name v.json) (member_in v.json (codes "variables")) v.operation v.variables none.0 none.1 choice constants valued in
      fault_building (build_due v.document v.operation v.variables R tables meta session) f built (ap fault_in (sym (valid_is v)) ∙ e)
