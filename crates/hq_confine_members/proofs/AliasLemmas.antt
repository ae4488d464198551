-- The alias of number 0.
use Rattle.std.proofs.Common.{◌≡◌, [], ◌∷◌, refl}
use Rattle.std.specs.Fmt.{digits}
use Rattle.hq_translation.specs.Names.{table_alias}

pub written_alias : (116 ∷ (48 ∷ [])) ≡ table_alias 0
unfolding table_alias digits
written_alias = refl
