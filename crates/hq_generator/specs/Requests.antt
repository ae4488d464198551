-- The bodies of the requests that are answered over a generated database, and the session that asks.
use Rattle.std.specs.Prelude.{ℕ, List, [], ◌∷◌, codes}
use Rattle.hq_model.specs.declared.session.Session.{Session}
use Rattle.hq_model.specs.declared.session.Var.{Var}

-- a list, an aggregate, a list in a list, a test through a relationship, and the first of each group
abbrev pub requests : List (List ℕ)
requests =
    codes "{\"query\":\"{author(limit:10){id name}}\"}"
    ∷ codes "{\"query\":\"{article_aggregate{aggregate{count sum{rating}}}}\"}"
    ∷ codes "{\"query\":\"{author(limit:100,order_by:{name:asc}){id articles{id title}}}\"}"
    ∷ codes "{\"query\":\"{article(where:{author:{name:{_like:\\\"a1%\\\"}}},limit:50){id author{name}}}\"}"
    ∷ codes "{\"query\":\"{article(distinct_on:rating){rating id}}\"}"
    ∷ []

abbrev pub variable_of : (name value : List ℕ) → Var
variable_of name value = record { name = name; value = value }

-- the user of number 1
abbrev pub caller : Session
caller = record {
  role = codes "user";
  vars = variable_of (codes "x-hasura-role") (codes "user") ∷ variable_of (codes "x-hasura-user-id") (codes "1") ∷ [];
}
