-- What holds of the value of a step, where there is one.
use Rattle.std.proofs.Common.{Result, Ok, Err}
use Rattle.std.specs.Prelude.{IfOk, ⊤}
use Rattle.hq_base.specs.Due.{and_then, mapped}

pub ok_always : {A E : Type 0} (r : Result A E) → IfOk r (λ _. ⊤)
ok_always (Ok x) = tt
ok_always (Err e) = tt

-- the value under f, from what holds of the value
pub ok_mapped : {A B E : Type 0} (f : A → B) (P : A → Type 0) (Q : B → Type 0) → ((a : A) → P a → Q (f a)) → (r : Result A E) → IfOk r P → IfOk (mapped f r) Q
ok_mapped f P Q g (Ok x) h = g x h
ok_mapped f P Q g (Err e) h = tt

-- the value of the next step
pub ok_and_then : {A B E : Type 0} (f : A → Result B E) (P : A → Type 0) (Q : B → Type 0) → ((a : A) → P a → IfOk (f a) Q) → (r : Result A E) → IfOk r P → IfOk (and_then f r) Q
ok_and_then f P Q g (Ok x) h = g x h
ok_and_then f P Q g (Err e) h = tt
