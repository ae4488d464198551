-- What is kept has the same answer.
use Rattle.std.proofs.lemmas.Result.{IfOk-weaker}
use Rattle.hq_schema.specs.Schema.{schema_view}
use Rattle.hq_overlap_classes.specs.Disputes.{noted_in}
use Rattle.hq_overlap_classes.proofs.Sifting.{first_still}
use Rattle.hq_overlap_sets.specs.Sets.{arena_view}
use Rattle.hq_rules_overlap.proofs.first.first_sifted.Goals as goal

pub first_kept-requires-clause-smaller : goal.first_kept-requires-clause-smaller
first_kept-requires-clause-smaller c = c.in_ok-sets.ensures.smaller

pub returns-clause-first : goal.returns-clause-first
returns-clause-first c =
    let a = c.args.arena.now in
    IfOk-weaker c.first_kept.result _ _
    (λ place first. first_still (noted_in (schema_view a.schema.now) c.args.disputes.now) (arena_view a) _ c.in_ok-sets.ensures.kept c.requires.known place first) c.first_kept.ensures.first
