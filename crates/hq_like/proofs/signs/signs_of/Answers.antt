use Rattle.std.proofs.Common.{rules, ◌∙◌, ◌++◌, ◌∷◌, false, map, ap}
use Rattle.std.specs.Option.{option_map_or}
use Rattle.std.specs.Str.{chars}
use Rattle.hq_base.specs.Patterns.{meets, steps_of}
use Rattle.hq_like.specs.Reading.{read}
use Rattle.hq_like.specs.Signs.{lowered, signs_view}
use Rattle.hq_like.proofs.Steps.{like_read, sign_read, signs_whole}
use Rattle.hq_like.proofs.signs.signs_of.Goals as goal

pub returns-in_default-sign_at : goal.returns-in_default-sign_at
returns-in_default-sign_at c =
    λ text. like_read c.args.fold c.args.pattern.now text ∙ c.loop-c.invariant.1 (read c.args.fold text)
    ∙ ap
    (λ o. option_map_or
    (λ steps. meets false (signs_view c.loop-c.signs.items ++ map (lowered c.args.fold) steps) (read c.args.fold text)) o false)
    (ap steps_of c.in-Some.ensures ∙ c.in_default-sign_at.ensures.sign)

pub loop-c-preserved : goal.loop-c-preserved
loop-c-preserved c =
    let fold = c.args.fold in
    let before = c.loop-c.signs.items in (
      (search rules),
      λ cs. c.loop-c.invariant.1 cs ∙ ap (λ o. option_map_or (λ steps. meets false (signs_view before ++ map (lowered fold) steps) cs) o false) (ap steps_of c.in-Some.ensures)
          ∙ sign_read fold before c.add.new.signs.items c.in-Some-sign_at.sign (steps_of (c.in-Some.c ∷ chars c.in-Some.rest.now))
          (steps_of (chars c.in-Some-sign_at.rest.now)) cs c.in-Some-sign_at.ensures.sign c.in_ok-add.ensures,
    )

pub returns : goal.returns
returns c =
    λ text. like_read c.args.fold c.args.pattern.now text ∙ c.loop-c.invariant.1 (read c.args.fold text)
    ∙ signs_whole c.args.fold c.loop-c.signs.items (steps_of (chars c.loop-c.left.now)) (read c.args.fold text) (ap steps_of c.in_default.ensures)
