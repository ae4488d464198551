-- What a body makes is a typed request of its session.
use Rattle.std.proofs.Common.{◌≡◌, ℕ, ◌≤◌, List, length, Result, Ok, Err, ap, subst, arith, codes}
use Rattle.hq_laws_request.specs.Formed.Built.{Builds}
use Rattle.hq_request_tree.specs.Request.{AskTree}
use Rattle.hq_base.specs.Body.{body_of}
use Rattle.hq_base.specs.Look.{member_in}
use Rattle.hq_request_coerce.specs.Due.{variables_due}
use Rattle.hq_request_coerce.specs.Variables.{VarTree}
use Rattle.hq_request_build.specs.Due.{build_due}
use Rattle.hq_gql_lexer.specs.Lexemes.{tokens_of}
use Rattle.hq_gql_lexer.specs.declared.token.Token.{Token}
use Rattle.hq_gql_parser.specs.Answered.{parsed}
use Rattle.hq_gql_parser.specs.Documents.{Parses}
use Rattle.hq_gql_tree.specs.Documents.{DocumentTree}
use Rattle.hq_gql_tree.specs.Nesting.{document_nest}
use Rattle.hq_request.specs.Made.{Makes}
use Rattle.hq_request.specs.Operation.{of_coerce}
use Rattle.hq_request.specs.Reading.{of_json, of_lex, of_parse, refused_as, document_due}
use Rattle.hq_laws_request.specs.Formed.Formed.{MakesFormed}
use Rattle.hq_schema_of_role.specs.RoleSchema.{role_schema}
use Rattle.hq_model.specs.Meta.{MetaTree}
use Rattle.hq_model.specs.Permission.{role_of}
use Rattle.hq_model.specs.declared.session.Session.{Session}
use Rattle.hq_model.specs.declared.table.Table.{Table}
use Rattle.hq_laws_request.proofs.Formed.BodyNest.{body_nests}
use Rattle.hq_laws_request.proofs.Formed.Steps.{then_ok}
use Rattle.hq_laws_request.proofs.Formed.VariablesNest.{member_nests, variables_shallow}

-- a value under another refusal is the value
value_is : {X E F : Type 0} (f : E → F) (r : Result X E) (x : X) → refused_as f r ≡ Ok x → r ≡ Ok x
value_is f (Ok z) x h = let same : z ≡ x = cc in ap (λ v. Ok v) same
value_is f (Err e) x h = absurd cc

-- a document that is parsed nests at most 50 deep
parsed_nests : (end : ℕ) (ts : List Token) (d : DocumentTree) → ((e : ℕ) (us : List Token) → Parses e us (parsed e us)) → parsed end ts ≡ Ok d → document_nest d ≤ 50
parsed_nests end ts d due h = (subst (Parses end ts) h (due end ts)).1

document_nests : (text : List ℕ) (d : DocumentTree) → ((e : ℕ) (us : List Token) → Parses e us (parsed e us)) → document_due text ≡ Ok d → document_nest d ≤ 50
document_nests text d due h =
    let p = then_ok (λ tokens. refused_as of_parse (parsed (length text) tokens)) (refused_as of_lex (tokens_of text)) d h in
    parsed_nests (length text) p.0 d due (value_is of_parse (parsed (length text) p.0) d p.2)

module _ (tables : List Table) (meta : MetaTree) (session : Session) (body : List ℕ) (ask : AskTree) where
  pub made_formed : Makes (role_schema tables meta (role_of session.role)) tables meta session body ask → ((e : ℕ) (us : List Token) → Parses e us (parsed e us))
      → ((document : DocumentTree) (op : ℕ) (vars : List VarTree) → Builds tables meta session document op vars) → MakesFormed tables meta session body ask
  made_formed builds parses forms catalog fit h =
      let b = builds h in
      let schema = role_schema tables meta (role_of session.role) in
      let document = document_nests b.text b.document parses b.parsed in
      let json = body_nests body b.json (value_is of_json (body_of body) b.json b.read) in
      let vars = variables_shallow schema b.document b.operation (member_in b.json (codes "variables")) 127 b.variables (omega arith)
      (λ x e. let below = member_nests b.json (codes "variables") x e in omega arith)
      (value_is of_coerce (variables_due schema b.document b.operation (member_in b.json (codes "variables"))) b.variables b.valued) in
      let f = forms b.document b.operation b.variables catalog fit document vars ask (value_is of_coerce (build_due b.document b.operation b.variables schema tables meta session) ask b.built) in
      record { formed = f.request; granted = f.is_for }
