-- The sets are those of the document.
use Rattle.std.proofs.Common.{◌≡◌, subst, List}
use Rattle.std.specs.Prelude.{Err}
use Rattle.std.specs.Result.{IfOk}
use Rattle.std.proofs.lemmas.Result.{IfOk-weaker}
use Rattle.hq_schema.specs.Schema.{schema_view}
use Rattle.hq_gql_tree.specs.View.{document_view}
use Rattle.hq_overlap_classes.specs.Classes.{MoreAtFault}
use Rattle.hq_overlap_sets.specs.Pairs.{IsFirst}
use Rattle.hq_overlap_sets.specs.Sets.{SetTree}
use Rattle.hq_overlap_sets.proofs.Together.{first_is_place}
use Rattle.hq_rules_overlap.specs.declared.refusal.OverlapRefusal.TheVariants.{TooMuchAtFault}
use Rattle.hq_rules_overlap.proofs.first.first_overlap.Goals as goal

pub returns-clause-first : goal.returns-clause-first
returns-clause-first c = subst (λ (sets : List SetTree). IfOk c.first_in.result (IsFirst sets)) c.in_ok-arena.ensures c.first_in.ensures.first

pub returns-clause-place : goal.returns-clause-place
returns-clause-place c =
    let s = schema_view c.args.schema.now in
    let d = document_view c.args.document.now in
    IfOk-weaker c.first_in.result _ _ (λ place first. first_is_place s d place (subst (λ (sets : List SetTree). IsFirst sets place) c.in_ok-arena.ensures first)) c.first_in.ensures.first

pub returns-clause-many : goal.returns-clause-many
returns-clause-many c = subst (λ (sets : List SetTree). c.first_in.result ≡ Err TooMuchAtFault → MoreAtFault sets 10000) c.in_ok-arena.ensures c.first_in.ensures.many
