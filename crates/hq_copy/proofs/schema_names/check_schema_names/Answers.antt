use Rattle.std.proofs.Common.{◌≡◌, ◌∙◌, ℕ, List, [], None, Option, ap, ap₂, flat_map, refl, subst, sym}
use Rattle.hq_copy_definition.specs.Refusals.{first_of, or_else, repeated_after, scalar_refusal}
use Rattle.hq_copy_definition.specs.declared.refusal.CopyRefusal.{CopyRefusal}
use Rattle.hq_model.specs.Meta.{meta_view}
use Rattle.hq_model.specs.Schema.{schema_of}
use Rattle.hq_model.specs.SchemaNames.{all_types, roots_of}
use Rattle.hq_copy.specs.Refused.{Refuses}
use Rattle.hq_copy.proofs.Causes.{or_else_assoc}
use Rattle.hq_copy.proofs.SchemaNames.{refused_next}
use Rattle.hq_copy.proofs.schema_names.check_schema_names.Goals as goal

pub returns-in_err-check_repeats : goal.returns-in_err-check_repeats
returns-in_err-check_repeats c =
    let m = meta_view c.args.meta.now in
    let z = schema_of c.args.tables.now m in
    let types = repeated_after [] (all_types z m) in
    let roots = repeated_after [] (flat_map (roots_of z) m.tracked) in
    let scalars = first_of (scalar_refusal z (all_types z m)) m.tracked in
    refused_next (repeated_after [] c.as_slice.result.now) (or_else roots scalars) _ _ c.in_err-check_repeats.field-0.0 c.from_residual-in_err-check_repeats.result refl
    (ap (λ (ns : List (List ℕ)). or_else (repeated_after [] ns) (or_else roots scalars)) (c.as_slice.ensures ∙ c.in_ok-types.ensures m) ∙ sym (or_else_assoc types roots scalars))
    c.in_err-check_repeats.ensures c.from_residual-in_err-check_repeats.ensures.1

pub returns-in_err-check_repeats-2 : goal.returns-in_err-check_repeats-2
returns-in_err-check_repeats-2 c =
    let m = meta_view c.args.meta.now in
    let z = schema_of c.args.tables.now m in
    let types = repeated_after [] (all_types z m) in
    let roots = repeated_after [] (flat_map (roots_of z) m.tracked) in
    let scalars = first_of (scalar_refusal z (all_types z m)) m.tracked in
    let fine : types ≡ None = ap (repeated_after []) (sym (c.as_slice.ensures ∙ c.in_ok-types.ensures m)) ∙ c.in_ok-check_repeats.ensures in
    refused_next (repeated_after [] c.as_slice-2.result.now) scalars _ _ c.in_err-check_repeats-2.field-0.0 c.from_residual-in_err-check_repeats-2.result refl
    (ap (λ (ns : List (List ℕ)). or_else (repeated_after [] ns) scalars) (c.as_slice-2.ensures ∙ c.in_ok-roots.ensures m)
    ∙ sym (ap (λ (first : Option CopyRefusal). or_else (or_else first roots) scalars) fine))
    c.in_err-check_repeats-2.ensures c.from_residual-in_err-check_repeats-2.ensures.1

pub returns : goal.returns
returns c =
    let m = meta_view c.args.meta.now in
    let z = schema_of c.args.tables.now m in
    let types = repeated_after [] (all_types z m) in
    let roots = repeated_after [] (flat_map (roots_of z) m.tracked) in
    let fine : types ≡ None = ap (repeated_after []) (sym (c.as_slice.ensures ∙ c.in_ok-types.ensures m)) ∙ c.in_ok-check_repeats.ensures in
    let good : roots ≡ None = ap (repeated_after []) (sym (c.as_slice-2.ensures ∙ c.in_ok-roots.ensures m)) ∙ c.in_ok-check_repeats-2.ensures in
    let scalars = first_of (scalar_refusal z (all_types z m)) m.tracked in
    subst (λ (due : Option CopyRefusal). Refuses due c.check_scalars.result)
    (ap (λ (ns : List (List ℕ)). first_of (scalar_refusal z ns) m.tracked) (c.as_slice-3.ensures ∙ c.in_ok-types.ensures m)
    ∙ sym (ap₂ (λ (a b : Option CopyRefusal). or_else (or_else a b) scalars) fine good))
    (c.check_scalars.ensures m)
