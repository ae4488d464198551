use Rattle.std.proofs.Common.{◌≡◌, ◌++◌, take, drop}
use Rattle.hq_http_request.specs.Requests.{before_question}
use Rattle.hq_http_request.proofs.fields.before_question.Given as goal

abbrev pub invariant-loop-b : goal.invariant-loop-b
invariant-loop-b l = record {
  at : l.at ≡ l.b-index;
  split : before_question l.target ≡ take l.b-index l.target ++ before_question (drop l.b-index l.target);
}
