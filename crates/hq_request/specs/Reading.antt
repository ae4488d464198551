-- The steps by which a request is read: its body as JSON, the query text of a request, and the document that it spells. Neither
-- metadata nor a database is looked at.
use Rattle.std.specs.Prelude.{ℕ, List, length, Some, ok_or, Result, Ok, Err}
use Rattle.hq_base.specs.Body.{body_of}
use Rattle.hq_base.specs.Due.{◌>>=◌}
use Rattle.hq_base.specs.Json.{JsonTree}
use Rattle.hq_base.specs.declared.body.JsonRefusal.{JsonRefusal}
use Rattle.hq_base.specs.declared.body.JsonRefusal.TheVariants as json
use Rattle.hq_gql_lexer.specs.Lexemes.{tokens_of}
use Rattle.hq_gql_lexer.specs.declared.refusal.LexRefusal.{LexRefusal}
use Rattle.hq_gql_lexer.specs.declared.refusal.LexRefusal.TheVariants as lex
use Rattle.hq_gql_parser.specs.Answered.{parsed}
use Rattle.hq_gql_parser.specs.declared.refusal.ParseRefusal.{ParseRefusal}
use Rattle.hq_gql_parser.specs.declared.refusal.ParseRefusal.TheVariants as parse
use Rattle.hq_gql_tree.specs.Documents.{DocumentTree}
use Rattle.hq_gql_tree.specs.declared.rule.RuleId.TheVariants.{InvalidToken, SyntaxError}
use Rattle.hq_faults.specs.Faults.{fault_at}
use Rattle.hq_request.specs.RequestForm.{form_fault, query_in}
use Rattle.hq_faults.specs.declared.faults.BodyFault.TheVariants.{NotJson, Fraction, ZeroByte}
use Rattle.hq_faults.specs.declared.faults.RequestFault.TheVariants.{Body}
use Rattle.hq_request.specs.declared.refusal.RequestRefusal.{RequestRefusal}
use Rattle.hq_request.specs.declared.refusal.RequestRefusal.TheVariants.{Fault, Memory}

-- the refusal of a part, as a fault of the request
abbrev pub of_json : JsonRefusal → RequestRefusal
of_json json.NotJson = Fault (Body NotJson)
of_json json.Fraction = Fault (Body Fraction)
of_json json.ZeroByte = Fault (Body ZeroByte)
of_json json.Memory = Memory

abbrev pub bad_token : ℕ → RequestRefusal
bad_token at = Fault (fault_at InvalidToken (Some at))

abbrev pub of_lex : LexRefusal → RequestRefusal
of_lex (lex.BadByte at) = bad_token at
of_lex (lex.BadEscape at) = bad_token at
of_lex (lex.OpenString at) = bad_token at
of_lex (lex.BadNumber at) = bad_token at
of_lex (lex.NotUtf8 at) = bad_token at
of_lex lex.Memory = Memory

abbrev pub bad_syntax : ℕ → RequestRefusal
bad_syntax at = Fault (fault_at SyntaxError (Some at))

abbrev pub of_parse : ParseRefusal → RequestRefusal
of_parse (parse.Unexpected at) = bad_syntax at
of_parse (parse.TooDeep at) = bad_syntax at
of_parse parse.Empty = bad_syntax 0
of_parse parse.Memory = Memory

-- the refusal under f
abbrev pub refused_as : {X E F : Type 0} → (E → F) → Result X E → Result X F
refused_as f (Ok x) = Ok x
refused_as f (Err e) = Err (f e)

-- a body as JSON
abbrev pub json_due : List ℕ → Result JsonTree RequestRefusal
json_due body = refused_as of_json (body_of body)

-- the query text of a request
abbrev pub query_due : JsonTree → Result (List ℕ) RequestRefusal
query_due body = ok_or (query_in body) (Fault form_fault)

-- the document of a query text
abbrev pub document_due : List ℕ → Result DocumentTree RequestRefusal
document_due text = refused_as of_lex (tokens_of text) >>= λ tokens. refused_as of_parse (parsed (length text) tokens)
