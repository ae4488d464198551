-- A new pair is added, and marked.
use Rattle.hq_overlap_sets.specs.Sets.{arena_view}
use Rattle.hq_rules_overlap.specs.Walk.{is_marked}
use Rattle.hq_rules_overlap.proofs.Steps.{push_step, mark_cases}
use Rattle.hq_overlap_sets.proofs.Stepping.{on_ok_weaker3}
use Rattle.hq_rules_overlap.proofs.walk.Walk.meet.Goals as goal

pub returns-clause-step : goal.returns-clause-step
returns-clause-step c =
    on_ok_weaker3 c.push.result
    (λ pushed marks best. push_step (arena_view c.args.arena.now) c.args.self.now c.push.new.self c.args.left c.args.right c.requires.together pushed best
    (λ s t. mark_cases c.args.left c.args.right s t (is_marked c.args.self.now s t) (is_marked c.push.new.self s t) (marks s t)))
    c.push.ensures.pairs c.push.ensures.marks c.push.ensures.best
