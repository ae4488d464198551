-- What holds of the value of a step, where there is one.
use Rattle.std.proofs.Common.{subst, Option, Some, None, Result, Ok, Err}
use Rattle.std.specs.Prelude.{IfOk, IfSome, ok_or, ⊤}
use Rattle.hq_base.specs.Due.{and_then, mapped, Gives}

pub ok_always : {A E : Type 0} (r : Result A E) → IfOk r (λ _. ⊤)
ok_always (Ok x) = tt
ok_always (Err e) = tt

pub ok_weaker : {A E : Type 0} (r : Result A E) (P Q : A → Type 0) → ((a : A) → P a → Q a) → IfOk r P → IfOk r Q
ok_weaker (Ok x) P Q f h = f x h
ok_weaker (Err e) P Q f h = tt

-- the value under f, from what holds of the value
pub ok_mapped : {A B E : Type 0} (f : A → B) (P : B → Type 0) (Q : A → Type 0) → ((a : A) → Q a → P (f a)) → (r : Result A E) → IfOk r Q → IfOk (mapped f r) P
ok_mapped f P Q g (Ok x) h = g x h
ok_mapped f P Q g (Err e) h = tt

-- the value of the next step
pub ok_and_then : {A B E : Type 0} (f : A → Result B E) (P : B → Type 0) (Q : A → Type 0) → ((a : A) → Q a → IfOk (f a) P) → (r : Result A E) → IfOk r Q → IfOk (and_then f r) P
ok_and_then f P Q g (Ok x) h = g x h
ok_and_then f P Q g (Err e) h = tt

-- the value that is there
pub ok_given : {A E : Type 0} (o : Option A) (e : E) (P : A → Type 0) → IfSome o P → IfOk (ok_or o e) P
ok_given (Some x) e P h = h
ok_given None e P h = tt

-- what holds of the due value holds of the one that is given
pub ok_gives : {X Y E : Type 0} (view : X → Y) (memory : E) (due : Result Y E) (P : Y → Type 0) (r : Result X E) → IfOk due P → Gives view memory due r → IfOk r (λ x. P (view x))
ok_gives view memory due P (Ok x) h given = subst (λ d. IfOk d P) given h
ok_gives view memory due P (Err e) h given = tt
