-- Live texts: the compact text of a request, in which each keyword `subscription` that begins an operation of the query text
-- (GraphQL October 2021, 2.3) is written as `query` and seven spaces, so that places stay.
use Rattle.std.specs.Prelude.{ℕ, List, [], ◌∷◌, ◌++◌, ◌+◌, length, take, drop, map, Bool, nat_lt, bytes_eq, codes, Option, Some, None, is_some, option_and_then, Result, Ok, Err, if◌then◌else◌}
use Rattle.std.specs.List.{list_any}
use Rattle.hq_base.specs.Json.{JsonTree, str, obj, members_of}
use Rattle.hq_base.specs.Look.{member_in, object_in, str_in}
use Rattle.hq_base.specs.Compact.{compact}
use Rattle.hq_gql_lexer.specs.Lexemes.{tokens_of}
use Rattle.hq_gql_lexer.specs.declared.token.Token.{Token}
use Rattle.hq_gql_lexer.specs.declared.refusal.LexRefusal.{LexRefusal}
use Rattle.hq_gql_tree.specs.Documents.{DocumentTree, DefinitionTree, operation, fragment}
use Rattle.hq_gql_tree.specs.declared.document.OpKind.{OpKind}
use Rattle.hq_gql_tree.specs.declared.document.OpKind.TheVariants.{Query, Mutation, Subscription}
use Rattle.hq_gql_parser.specs.Answered.{parsed}
use Rattle.hq_gql_parser.specs.declared.refusal.ParseRefusal.{ParseRefusal}

-- the document that a text spells, if it spells one
abbrev pub accepted : Result DocumentTree ParseRefusal → Option DocumentTree
accepted (Ok document) = Some document
accepted (Err e) = None

abbrev pub document_of : (end : ℕ) → Result (List Token) LexRefusal → Option DocumentTree
document_of end (Ok tokens) = accepted (parsed end tokens)
document_of end (Err e) = None

abbrev pub document_in : List ℕ → Option DocumentTree
document_in text = document_of (length text) (tokens_of text)

-- the place of the keyword `subscription` that begins a definition, if one does
abbrev pub place_by : OpKind → (at : ℕ) → Option ℕ
place_by Query at = None
place_by Mutation at = None
place_by Subscription at = Some at

abbrev pub keyword_place : DefinitionTree → Option ℕ
keyword_place (operation o) = place_by o.kind o.at
keyword_place (fragment f) = None

abbrev pub begins_subscription : DefinitionTree → Bool
begins_subscription d = is_some (keyword_place d)

-- as many bytes as `subscription` has
abbrev pub query_word : List ℕ
query_word = codes "query       "

-- a text with the twelve bytes from this place on written as `query`; a keyword is within its text
abbrev pub with_query_at : (at : ℕ) → List ℕ → List ℕ
with_query_at at text = if nat_lt (length text) (at + 12) then text else take at text ++ query_word ++ drop (at + 12) text

abbrev pub with_query_if : Option ℕ → List ℕ → List ℕ
with_query_if None text = text
with_query_if (Some at) text = with_query_at at text

abbrev pub with_query : DefinitionTree → List ℕ → List ℕ
with_query d text = with_query_if (keyword_place d) text

-- the same at each definition that is a subscription
abbrev pub with_queries : DocumentTree → List ℕ → List ℕ
with_queries [] text = text
with_queries (d ∷ ds) text = with_queries ds (with_query d text)

-- the live text of a query text, where a keyword is written anew
abbrev pub live_if : Option DocumentTree → List ℕ → Option (List ℕ)
live_if None text = None
live_if (Some ds) text = if list_any begins_subscription ds then Some (with_queries ds text) else None

abbrev pub live_query : List ℕ → Option (List ℕ)
live_query text = live_if (document_in text) text

-- the query text of a request, and its live text where a keyword is written anew
abbrev pub query_in : JsonTree → Option (List ℕ)
query_in request = option_and_then str_in (member_in request (codes "query"))

abbrev pub query_of : JsonTree → Option (List ℕ)
query_of request = option_and_then live_query (query_in request)

-- a request with this query text
abbrev pub with_member_text : (query : List ℕ) → List ℕ × JsonTree → List ℕ × JsonTree
with_member_text query m = if bytes_eq m.0 (codes "query") then (m.0, str query) else m

abbrev pub with_texts : (query : List ℕ) → JsonTree → Option (List (List ℕ × JsonTree)) → JsonTree
with_texts query j None = j
with_texts query j (Some ms) = obj (members_of (map (with_member_text query) ms))

abbrev pub with_query_text : (query : List ℕ) → JsonTree → JsonTree
with_query_text query j = with_texts query j (object_in j)

-- a request with the live text of its query text
abbrev pub live_json_by : Option (List ℕ) → JsonTree → JsonTree
live_json_by None request = request
live_json_by (Some query) request = with_query_text query request

-- the live text of a request
abbrev pub live_text : JsonTree → List ℕ
live_text request = compact (live_json_by (query_of request) request)

-- a request lasts where a keyword is written anew: it is a subscription, and not a query
abbrev pub is_lasting : JsonTree → Bool
is_lasting request = is_some (query_of request)
