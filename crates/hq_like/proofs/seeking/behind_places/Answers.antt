use Rattle.std.proofs.Common.{rules, ◌∙◌}
use Rattle.hq_like.specs.Reading.{read}
use Rattle.hq_like.proofs.Searches.{places_met, missed_first, missed_end}
use Rattle.hq_like.proofs.seeking.behind_places.Goals as goal

pub returns-in-Some : goal.returns-in-Some
returns-in-Some c =
    λ later. c.ends.invariant.1 later ∙ places_met c.args.places.now later (read c.args.fold c.ends.left.now) (read c.args.fold c.in-Some.rest.now) c.in-Some.ensures

pub ends-preserved : goal.ends-preserved
ends-preserved c = (
  (search rules),
  λ later. c.ends.invariant.1 later
      ∙ missed_first c.args.places.now later (read c.args.fold c.ends.left.now) c.in-Some-read_first.field-0-0
      (read c.args.fold c.in-Some-read_first.later.now) c.in-Some-read_first.ensures c.in-None.ensures,
)

pub returns-in-None-read_first : goal.returns-in-None-read_first
returns-in-None-read_first c =
    λ later. c.ends.invariant.1 later ∙ missed_end c.args.places.now later (read c.args.fold c.ends.left.now) c.in-None-read_first.ensures c.in-None.ensures
