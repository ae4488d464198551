use Rattle.std.proofs.Common.{◌∙◌, ◌+◌, ◌++◌, ◌∷◌, [], sym, ap, inr, Err, drop}
use Rattle.std.specs.List.{list_any}
use Rattle.std.specs.Prelude.{bytes_eq}
use Rattle.hq_load_meta_names.specs.declared.refusal.NameRefusal.TheVariants.{Repeated}
use Rattle.hq_load_meta_names.specs.Added.{added}
use Rattle.hq_load_meta_names.proofs.Differ.{added-known, added-new}
use Rattle.hq_load_meta_names.proofs.known.added.Goals as goal

pub returns-then-contains : goal.returns-then-contains
returns-then-contains c =
    inr
    (sym c.loop-name.invariant
    ∙ added-known c.args.path.now c.loop-name.all c.args.names.now c.loop-name.name-index c.name-item.result c.loop-name-test.true c.name-item.is
    (ap (list_any (λ k. bytes_eq k c.name-item.result)) (sym c.as_slice.ensures) ∙ sym c.contains.ensures.value ∙ c.if-contains.true)
    ∙ ap (λ path. Err (Repeated path)) (sym c.in_ok-copy.ensures))

pub loop-name-preserved : goal.loop-name-preserved
loop-name-preserved c =
    ap (λ all. added c.args.path.now all (drop (c.loop-name.name-index + 1) c.args.names.now)) (c.in_ok-push.ensures.ok ∙ ap (λ n. c.loop-name.all ++ n ∷ []) c.in_ok-copy-2.ensures)
    ∙ sym (added-new c.args.path.now c.loop-name.all c.args.names.now c.loop-name.name-index c.name-item.result c.loop-name-test.true c.name-item.is
    (ap (list_any (λ k. bytes_eq k c.name-item.result)) (sym c.as_slice.ensures) ∙ sym c.contains.ensures.value ∙ c.if-contains.false))
    ∙ c.loop-name.invariant
