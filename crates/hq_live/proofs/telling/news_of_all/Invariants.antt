use Rattle.std.proofs.Common.{◌≡◌, ◌++◌, drop}
use Rattle.hq_live.specs.Answers.{news_all}
use Rattle.hq_live.proofs.telling.news_of_all.Given as goal

abbrev pub invariant-telling : goal.invariant-telling
invariant-telling l = l.sends ++ news_all (drop l.subscription-index l.subscriptions) l.rest ≡ news_all l.subscriptions l.answers
