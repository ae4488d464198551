-- What a test for a cause answers.
use Rattle.std.specs.Prelude.{◌≡◌, ◌⊎◌, Option, Some, None, Result, Ok, Err}
use Rattle.hq_copy_definition.specs.declared.refusal.CopyRefusal.{CopyRefusal}
use Rattle.hq_copy_definition.specs.declared.refusal.CopyRefusal.TheVariants.{Memory}

-- that no cause is there, or the cause; or that memory is wanted
abbrev pub Refuses : {X : Type 0} → Option CopyRefusal → Result X CopyRefusal → Type 0
Refuses due (Ok x) = due ≡ None
Refuses due (Err e) = (e ≡ Memory) ⊎ (due ≡ Some e)
