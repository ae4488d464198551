use Rattle.std.proofs.Common.{◌≡◌, sym, subst, map, take, List, [], ◌∷◌, ◌++◌, ◌+◌, true, arith, rules}
use Rattle.std.proofs.lemmas.List.{take_all}
use Rattle.std.proofs.lemmas.List.Elements.{All-push, All-get_or, All-nil}
use Rattle.hq_rules_reach.specs.declared.uses.Use.{Use}
use Rattle.hq_rules_reach.specs.Uses.{use_view, IsNumbered}
use Rattle.std.specs.List.{All}
use Rattle.hq_rules_reach.specs.Summaries.{IsSummary, HasLike}
use Rattle.hq_rules_reach.proofs.Summing.{summary_none, summary_kept, summary_more}
use Rattle.hq_rules_reach.proofs.summaries.summary.Goals as goal
use Rattle.hq_rules_reach.proofs.summaries.summary.Goals.{then-not-has_like+in_ok-note_last+in_ok-push+in_ok-push-2, else-not-has_like}

pub loop-found-init : goal.loop-found-init
loop-found-init c = record {
  summary = subst (λ (xs : List Use). IsSummary (map use_view xs) []) (sym c.new-kept.ensures.items) summary_none;
  numbered = λ f h. subst (λ (xs : List Use). All (IsNumbered f) xs) (sym c.new-kept.ensures.items) (All-nil (IsNumbered f));
}

pub loop-found-preserved : goal.loop-found-preserved
loop-found-preserved c =
    let us = c.args.uses.now in
    let i = c.loop-found.found-index in
    let u = c.found-item.result in
    elim c.if-not-has_like.branch [
      | then-not-has_like+in_ok-note_last+in_ok-push+in_ok-push-2 w ↦
          let items : c.if-not-has_like.kept.items ≡ c.loop-found.kept.items ++ u ∷ [] = search rules in
          record {
            summary = summary_kept us i u c.loop-found.kept.items c.if-not-has_like.kept.items c.loop-found-test.true c.found-item.is items c.loop-found.invariant.summary;
            numbered = λ f h. subst (λ (xs : List Use). All (IsNumbered f) xs) (sym items) (All-push (IsNumbered f) c.loop-found.kept.items u (c.loop-found.invariant.numbered f h)
                (subst (IsNumbered f) (sym c.found-item.is) (All-get_or (IsNumbered f) us i u c.loop-found-test.true h)));
          }
      | else-not-has_like w ↦
          let items : c.if-not-has_like.kept.items ≡ c.loop-found.kept.items = search rules in
          let same : c.deref-in-loop-found-2.result.now ≡ c.loop-found.kept.items = search rules in
          let told : c.has_like.result ≡ true = search rules in
          record {
            summary = subst (λ (xs : List Use). IsSummary (map use_view xs) (map use_view (take (i + 1) us))) (sym items)
                (summary_more us i u c.loop-found.kept.items c.loop-found-test.true c.found-item.is
                (subst (λ (xs : List Use). HasLike xs u) same (c.has_like.ensures told)) c.loop-found.invariant.summary);
            numbered = λ f h. subst (λ (xs : List Use). All (IsNumbered f) xs) (sym items) (c.loop-found.invariant.numbered f h);
          }
    ]

pub returns : goal.returns
returns c = record {
  summary =
      subst (λ (xs : List Use). IsSummary (map use_view c.loop-found.kept.items) (map use_view xs))
      (take_all c.loop-found.found-index c.args.uses.now (omega arith)) c.loop-found.invariant.summary;
  numbered = c.loop-found.invariant.numbered;
}
