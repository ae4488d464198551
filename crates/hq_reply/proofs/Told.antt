-- Which replies tell a fault.
use Rattle.std.proofs.Common.{◌≡◌, ℕ, List, ◌++◌, codes, true, false, refl, ap, ◌∙◌}
use Rattle.hq_base.specs.Compact.{escaped}
use Rattle.hq_faults.specs.FaultTexts.{fault_text, tells_fault}
use Rattle.hq_faults.specs.declared.faults.RequestFault.{RequestFault}

-- the text of a fault tells one
fault_tells : (f : RequestFault) → tells_fault (fault_text f) ≡ true
unfolding escaped
fault_tells f = refl

-- the same of a body that is such a text
pub tells : (f : RequestFault) (body : List ℕ) → body ≡ fault_text f → tells_fault body ≡ true
tells f body is = ap tells_fault is ∙ fault_tells f

-- and of one that begins with data none
pub tells_not : (members filled body : List ℕ) → filled ≡ codes "{\"data\":{" ++ members → body ≡ filled ++ codes "}}" → tells_fault body ≡ false
tells_not members filled body a b = ap tells_fault (b ∙ ap (λ t. t ++ codes "}}") a)
