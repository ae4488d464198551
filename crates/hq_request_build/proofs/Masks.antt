-- Masks are bound one after the other.
use Rattle.std.proofs.Common.{◌≡◌, refl, ℕ, List, ◌∷◌, map, Result, Ok, Err}
use Rattle.hq_base.specs.Due.{and_then, mapped}
use Rattle.hq_model.specs.Bexp.{BexpTree}
use Rattle.hq_model.specs.Binding.{bound, bound_masks}
use Rattle.hq_model.specs.Permission.{Mask}
use Rattle.hq_model.specs.PermView.{mask_view}
use Rattle.hq_model.specs.Schema.{Schema}
use Rattle.hq_model.specs.declared.bind.BindRefusal.{BindRefusal}
use Rattle.hq_model.specs.declared.perm.Mask.{Mask as Declared}
use Rattle.hq_model.specs.declared.session.Var.{Var}
use Rattle.hq_model.proofs.Steps.{ReadsBy}
use Rattle.hq_request_build.specs.Bound.{mask_due}

pub masks_read : (s : Schema) (vars : List Var) (t : ℕ) → ReadsBy (λ (ms : List Declared). bound_masks (map mask_view ms) s vars t) (λ m. mask_due (mask_view m) s vars t)
masks_read s vars t m ms =
    let k : Mask = mask_view m in
    let rest : Result (List Mask) BindRefusal = bound_masks (map mask_view ms) s vars t in
    let by : (r : Result BexpTree BindRefusal)
    → and_then (λ shown. mapped (λ more. record { column = k.column; shown = shown } ∷ more) rest) r
    ≡ and_then (λ y. mapped (λ ys. y ∷ ys) rest) (mapped (λ shown. record { column = k.column; shown = shown }) r) =
    elim [ Ok b ↦ refl | Err e ↦ refl ] in
    by (bound k.shown s vars t)
