use Rattle.std.proofs.Common.{rules, ◌≡◌, ◌∷◌, ◌∙◌, sym, ap, refl, arith}
use Rattle.std.specs.Str.{chars}
use Rattle.hq_base.specs.Fronts.{front, misfit}
use Rattle.hq_base.specs.Patterns.{some_end, meets}
use Rattle.hq_base.proofs.Matching.{up_to_any_finds, whole_finds, misfit_goes_on, misfit_ends, up_to_any_smaller}
use Rattle.hq_base.proofs.pattern.finds.Goals as goal

pub loop-rest-preserved-in-Some : goal.loop-rest-preserved-in-Some
loop-rest-preserved-in-Some c =
    let steps = c.loop-rest.steps.now in
    let no_fit : front c.args.fold steps (c.in-Some.field-0-0 ∷ chars c.in-Some.rest.now) ≡ misfit = ap (front c.args.fold steps) (sym c.in-Some.ensures) ∙ sym c.in-Misfit.ensures in
    ((search rules), c.loop-rest.invariant.1 ∙ ap (some_end (meets c.args.fold steps)) c.in-Some.ensures ∙ misfit_goes_on c.args.fold steps c.in-Some.field-0-0 (chars c.in-Some.rest.now) no_fit)

pub returns-in-None : goal.returns-in-None
returns-in-None c =
    let steps = c.loop-rest.steps.now in
    let no_fit = ap (front c.args.fold steps) (sym c.in-None.ensures) ∙ sym c.in-Misfit.ensures in
    sym (c.loop-rest.invariant.1 ∙ ap (some_end (meets c.args.fold steps)) c.in-None.ensures ∙ misfit_ends c.args.fold steps no_fit)

pub returns-in-Whole : goal.returns-in-Whole
returns-in-Whole c = sym (c.loop-rest.invariant.1 ∙ whole_finds c.args.fold c.loop-rest.steps.now (chars c.loop-rest.text.now) (sym c.in-Whole.ensures))

pub loop-rest-smaller : goal.loop-rest-smaller
loop-rest-smaller c =
    let less = up_to_any_smaller c.args.fold c.loop-rest.steps.now c.in-UpToAny.later.now (chars c.loop-rest.text.now) (chars c.in-UpToAny.rest.now) (sym c.in-UpToAny.ensures) in
    omega (arith, less)

pub loop-rest-preserved : goal.loop-rest-preserved
loop-rest-preserved c = (
  (search rules),
  c.loop-rest.invariant.1
      ∙ up_to_any_finds c.args.fold c.loop-rest.steps.now c.in-UpToAny.later.now (chars c.loop-rest.text.now) (chars c.in-UpToAny.rest.now)
      _ (sym c.in-UpToAny.ensures) refl,
)
