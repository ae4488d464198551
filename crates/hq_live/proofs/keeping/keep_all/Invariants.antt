use Rattle.std.proofs.Common.{◌≡◌, length, min}
use Rattle.hq_live.specs.Answers.{kept_all}
use Rattle.hq_live.proofs.keeping.keep_all.Given as goal

abbrev pub invariant-keeping : goal.invariant-keeping
invariant-keeping l = record {
  so_far : l.subscriptions ≡ kept_all l.fn.subscriptions l.yielded;
  place : l.at ≡ min (length l.yielded) (length l.fn.subscriptions);
}
