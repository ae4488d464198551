-- AND over a list, begun with a truth.
use Rattle.std.proofs.Common.{◌≡◌, refl}
use Rattle.hq_model.specs.Logic.{and3}
use Rattle.hq_model.specs.declared.truth.Truth.{Truth}
use Rattle.hq_model.specs.declared.truth.Truth.TheVariants.{Yes, No, Unknown}

pub and3_assoc : (a b c : Truth) → and3 (and3 a b) c ≡ and3 a (and3 b c)
and3_assoc Yes b c = refl
and3_assoc No b c = refl
and3_assoc Unknown No c = refl
and3_assoc Unknown Yes c = refl
and3_assoc Unknown Unknown No = refl
and3_assoc Unknown Unknown Yes = refl
and3_assoc Unknown Unknown Unknown = refl
