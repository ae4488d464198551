-- The front of what is told of a fault: the line and column of its place in the query's text, where it has one, and its rule.
use Rattle.std.specs.Prelude.{ℕ, List, [], ◌++◌, codes, decimal, unwrap_or, option_and_then, Option, Some, None, Result, Ok, Err}
use Rattle.hq_base.specs.Body.{body_of}
use Rattle.hq_base.specs.Json.{JsonTree}
use Rattle.hq_base.specs.Look.{member_in, str_in}
use Rattle.hq_base.specs.declared.body.JsonRefusal.{JsonRefusal}
use Rattle.hq_faults.specs.Faults.{place_of, rule_of}
use Rattle.hq_faults.specs.declared.faults.RequestFault.{RequestFault}
use Rattle.hq_gql_tree.specs.Rules.{rule_text}
use Rattle.hq_explain_places.specs.Lines.{column_of, line_of}

-- the text of a body's member `query`; none where that is no text, or the body no JSON
abbrev pub query_in : Result JsonTree JsonRefusal → List ℕ
query_in (Ok json) = unwrap_or (option_and_then str_in (member_in json (codes "query"))) []
query_in (Err e) = []

abbrev pub query_text : (body : List ℕ) → List ℕ
query_text body = query_in (body_of body)

-- a place in a text, as line and column
abbrev pub place_front : (text : List ℕ) → Option ℕ → List ℕ
place_front text None = []
place_front text (Some at) = codes "query:" ++ (decimal (line_of text at) ++ (codes ":" ++ (decimal (column_of text at) ++ codes ": ")))

abbrev pub rule_front : RequestFault → List ℕ
rule_front f = codes "error[" ++ (rule_text (rule_of f) ++ codes "]: ")

-- the whole front
abbrev pub fault_front : (body : List ℕ) → RequestFault → List ℕ
fault_front body f = place_front (query_text body) (place_of f) ++ rule_front f
