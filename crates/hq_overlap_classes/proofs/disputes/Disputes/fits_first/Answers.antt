-- The tests tell what is noted.
use Rattle.std.proofs.Common.{rules}
use Rattle.std.proofs.lemmas.Result.{IfOk-weaker}
use Rattle.hq_schema.specs.Schema.{schema_view}
use Rattle.hq_overlap_classes.proofs.Sifting.{true_first}
use Rattle.hq_overlap_classes.proofs.disputes.Disputes.fits_first.Goals as goal

pub returns-then-is_disputed : goal.returns-then-is_disputed
returns-then-is_disputed c =
    λ _. true_first (schema_view c.args.schema.now) c.args.self.now c.args.class c.args.key c.args.first.now c.args.entry.now c.requires.key
    c.requires.first (search rules) (search rules) (λ e. absurd (search rules))

pub returns : goal.returns
returns c =
    IfOk-weaker c.is_settled.result _ _
    (λ fits settled held. true_first (schema_view c.args.schema.now) c.args.self.now c.args.class c.args.key c.args.first.now
    c.args.entry.now c.requires.key c.requires.first (search rules) (search rules) (λ e. settled held))
    c.is_settled.ensures
