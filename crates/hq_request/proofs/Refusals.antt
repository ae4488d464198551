-- What refusals of parts are to a request.
use Rattle.std.proofs.Common.{◌≡◌, ◌⊎◌, inl, inr, Result, Err, ap, ◌∙◌}
use Rattle.hq_request.specs.Reading.{refused_as}
use Rattle.hq_request.specs.declared.refusal.RequestRefusal.{RequestRefusal}
use Rattle.hq_request.specs.declared.refusal.RequestRefusal.TheVariants.{Memory}

-- the due refusal of a part, or its want of memory, is that of the request
pub refused : {Y E : Type 0} (f : E → RequestRefusal) (memory : E) (due : Result Y E) (e : E) → f memory ≡ Memory → (e ≡ memory) ⊎ (due ≡ Err e) → (f e ≡ Memory) ⊎ (refused_as f due ≡ Err (f e))
refused f memory due e m (inl h) = inl (ap f h ∙ m)
refused f memory due e m (inr h) = inr (ap (refused_as f) h)
