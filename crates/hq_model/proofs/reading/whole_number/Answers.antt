use Rattle.std.proofs.Common.{◌≡◌, ◌≢◌, ◌∙◌, sym, w64, to_z, of_z, rules}
use Rattle.std.specs.Prelude.{slice_index}
use Rattle.std.specs.Int.RustNames.{FitsSigned}
use Rattle.std.proofs.lemmas.Int.{to_z-of_z}
use Rattle.hq_model.proofs.Numbers.{whole_number-parsed, whole_number-refused}
use Rattle.hq_model.proofs.reading.whole_number.Goals as goal

pub returns-in-Ok : goal.returns-in-Ok
returns-in-Ok c =
    let no_plus : slice_index c.args.text.now 0 ≢ 43 = search rules in
    let read = c.in-Ok.ensures.value.0 in
    let small : FitsSigned w64 c.in-Ok.n = search rules in
    let same : to_z w64 (of_z w64 c.in-Ok.n) ≡ c.in-Ok.n = to_z-of_z w64 c.in-Ok.n small in
    whole_number-parsed c.args.ty c.args.text.now (to_z w64 (of_z w64 c.in-Ok.n)) no_plus read.0.0 (same ∙ read.1) (sym c.if-fits.ensures)

pub returns-in-Err : goal.returns-in-Err
returns-in-Err c =
    let no_plus : slice_index c.args.text.now 0 ≢ 43 = search rules in
    whole_number-refused c.args.ty c.args.text.now no_plus c.in-Err.ensures.value.0
