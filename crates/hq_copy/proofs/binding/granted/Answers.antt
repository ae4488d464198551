use Rattle.std.proofs.Common.{◌≡◌, ◌∙◌, ap, refl, sym, List, map, Err, inl, inr}
use Rattle.std.specs.Prelude.{◌⊎◌, Result}
use Rattle.std.proofs.lemmas.List.{map-append}
use Rattle.hq_copy_definition.specs.Refusals.{not_bound}
use Rattle.hq_copy_definition.specs.declared.refusal.CopyRefusal.{CopyRefusal}
use Rattle.hq_copy_definition.specs.declared.refusal.CopyRefusal.TheVariants.{Memory}
use Rattle.hq_copy_tables.specs.Views.{source_view}
use Rattle.hq_copy_tables.specs.declared.seen.Source.{Source}
use Rattle.hq_copy.specs.Granted.{granted_due, or_not_bound}
use Rattle.hq_model.specs.Binding.{bound_permission}
use Rattle.hq_model.specs.Permission.{Permission}
use Rattle.hq_model.specs.PermView.{permission_view}
use Rattle.hq_model.specs.Schema.{Schema}
use Rattle.hq_model.specs.Described.{scope_schema}
use Rattle.hq_model.specs.declared.session.Var.{Var}
use Rattle.hq_model.proofs.Steps.{ReadsBy, read_more, read_refused}
use Rattle.hq_copy.proofs.binding.granted.Goals as goal

-- what is granted of several tables, and of one
abbrev due_of : Schema → List Var → List Source → Result (List Permission) CopyRefusal
due_of s vars os = granted_due s vars (map source_view os)

abbrev due_for : Schema → List Var → Source → Result Permission CopyRefusal
due_for s vars o = or_not_bound (bound_permission (source_view o).permission s vars (source_view o).entry.table)

granted_read : (s : Schema) (vars : List Var) → ReadsBy (due_of s vars) (due_for s vars)
granted_read s vars o os = refl

-- a permission is bound, and the loop goes on behind it
pub loop-source-preserved : goal.loop-source-preserved
loop-source-preserved c =
    let s = scope_schema c.args.scope.now in
    let vars = c.args.session.now.vars in
    read_more (due_of s vars) (due_for s vars) (granted_read s vars)
    c.args.sources.now c.loop-source.source-index c.source-item.result _ _ (permission_view c.in-Ok.permission) _ c.loop-source.invariant c.loop-source-test.true c.source-item.is
    (ap or_not_bound c.in-Ok.ensures)
    (ap (map permission_view) c.in_ok-push-in-Ok.ensures.ok ∙ map-append permission_view _ _)

-- one that does not bind is the refusal of them all
pub returns-in-Err : goal.returns-in-Err
returns-in-Err c =
    let s = scope_schema c.args.scope.now in
    let vars = c.args.session.now.vars in
    let refused : (c.not_bound.result ≡ Memory) ⊎ (due_of s vars c.args.sources.now ≡ Err c.not_bound.result) =
    elim c.in-Err.ensures [
      | inl m ↦ inl (c.not_bound.ensures ∙ ap not_bound m)
      | inr given ↦ inr (read_refused (due_of s vars) (due_for s vars) (granted_read s vars)
          c.args.sources.now c.loop-source.source-index c.source-item.result _ c.not_bound.result _ c.loop-source.invariant c.loop-source-test.true c.source-item.is
          (ap or_not_bound given ∙ ap Err (sym c.not_bound.ensures)))
    ] in
    refused
