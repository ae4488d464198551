use Rattle.std.proofs.Common.{◌≡◌, true, Result, Ok, Err}
use Rattle.std.specs.Prelude.{IfOk, OnOk}
use Rattle.std.proofs.lemmas.Result.{IfOk-at_ok}
use Rattle.hq_base.specs.Due.{Gives}
use Rattle.hq_model.specs.Meta.{meta_view}
use Rattle.hq_model.specs.Schema.{schema_of}
use Rattle.hq_model.specs.SchemaNames.{names_differ}
use Rattle.hq_load_meta_names.specs.declared.refusal.NameRefusal.{NameRefusal}
use Rattle.hq_load_meta_names.specs.declared.refusal.NameRefusal.TheVariants.{Memory}
use Rattle.hq_load_meta_names.specs.Repeats.{names_due}
use Rattle.hq_load_meta_names.proofs.Grown.{names_due-differ}
use Rattle.hq_load_meta_names.proofs.check.check_names.Goals as goal

-- what holds where nothing is due holds where nothing is answered
answered : (P : Type 0) (due r : Result (Unit {0}) NameRefusal) → Gives (λ (done : Unit {0}). done) Memory due r → IfOk due (λ done. P) → OnOk r P
answered P due (Ok done) g h = IfOk-at_ok (λ (done : Unit {0}). P) g h
answered P due (Err e) g h = tt

pub returns-clause-differ : goal.returns-clause-differ
returns-clause-differ c =
    let m = meta_view c.args.meta.now in
    let s = schema_of c.args.catalog.now.tables m in
    answered (names_differ s m ≡ true) (names_due s m c.args.path.now) c.names_of.result c.names_of.ensures (names_due-differ s m c.args.path.now)
