use Rattle.std.proofs.Common.{◌≡◌, ◌∙◌, ℕ, List, [], map, Result, Ok, sym, ap, subst}
use Rattle.hq_base.specs.Due.{Gives, and_then}
use Rattle.hq_model.specs.Meta.{TrackedTree, tracked_view, meta_view}
use Rattle.hq_model.specs.Schema.{schema_of}
use Rattle.hq_model.specs.SchemaNames.{fixed_types}
use Rattle.hq_model.specs.declared.meta.Tracked.{Tracked}
use Rattle.hq_load_meta_names.specs.declared.known.Shared.{Shared}
use Rattle.hq_load_meta_names.specs.declared.refusal.NameRefusal.{NameRefusal}
use Rattle.hq_load_meta_names.specs.declared.refusal.NameRefusal.TheVariants.{Memory}
use Rattle.hq_load_meta_names.specs.Repeats.{with_tables, scalars_due, names_due}
use Rattle.hq_load_meta_names.proofs.check.names_of.Goals as goal

pub returns : goal.returns
unfolding names_due
returns c =
    let m = meta_view c.args.meta.now in
    let s = schema_of c.args.catalog.now.tables m in
    let path = c.args.path.now in
    let with = λ (types roots : List (List ℕ)) (tracked : List TrackedTree). let known : Shared = record { types = types; roots = roots } in with_tables s m path 0 known tracked in
    let after = λ (shared : Shared). scalars_due s shared.types path 0 m.tracked in
    let first : with fixed_types [] m.tracked ≡ Ok c.in_ok-all.all =
    ap (λ types. with types [] m.tracked) (sym c.in_ok-fixed_types.ensures)
    ∙ ap (λ roots. with c.in_ok-fixed_types.field-0 roots m.tracked) (sym c.new.ensures)
    ∙ ap (λ (tracked : List Tracked). with c.in_ok-fixed_types.field-0 c.new.result (map tracked_view tracked)) (sym c.as_slice-tracked.ensures)
    ∙ c.in_ok-all.ensures in
    let last : scalars_due s c.as_slice.result.now path 0 (map tracked_view c.as_slice-tracked.result.now) ≡ and_then after (with fixed_types [] m.tracked) =
    ap (λ types. scalars_due s types path 0 (map tracked_view c.as_slice-tracked.result.now)) c.as_slice.ensures
    ∙ ap (λ (tracked : List Tracked). scalars_due s c.in_ok-all.all.types path 0 (map tracked_view tracked)) c.as_slice-tracked.ensures
    ∙ sym (ap (and_then after) first) in
    subst (λ (due : Result (Unit {0}) NameRefusal). Gives (λ (done : Unit {0}). done) Memory due c.check_scalars.result) last c.check_scalars.ensures
