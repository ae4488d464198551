-- Lemmas for loops that read or write piece by piece.
use Rattle.std.specs.Prelude.{◌+◌, ℕ, List, [], ◌++◌, take, drop, refl}
use Rattle.std.specs.declared.option.Option.{Option}
use Rattle.std.specs.declared.option.Option.TheVariants.{None, Some}
use Rattle.std.specs.Io.KnownBytes.{Appends, Consumes, Keeps}
use Rattle.std.proofs.Common.{arith, append_assoc, ap, sym, ◌∙◌}
use Rattle.std.proofs.Math.Seq.{take-add}
use Rattle.std.proofs.lemmas.Grind.{common_steps}

-- before the first piece nothing was appended
pub appends_none : (a : Option (List ℕ)) → Appends a a []
appends_none None = tt
appends_none (Some xs) = Prim.grind (arith, common_steps)

-- a failed write appends nothing
pub appends_kept : (a b c : Option (List ℕ)) (xs : List ℕ) → Appends a b xs → Keeps b c → Appends a c xs
appends_kept None b c xs h k = tt
appends_kept (Some x) None c xs h k = absurd h
appends_kept (Some x) (Some y) None xs h k = absurd k
appends_kept (Some x) (Some y) (Some z) xs h k = k ∙ h

-- after d bytes, the next n of what is left of them make d + n
pub appends_more : (a b c : Option (List ℕ)) (xs : List ℕ) (d n : ℕ) → Appends a b (take d xs) → Appends b c (take n (drop d xs)) → Appends a c (take (d + n) xs)
appends_more None b c xs d n h k = tt
appends_more (Some x) None c xs d n h k = absurd h
appends_more (Some x) (Some y) None xs d n h k = absurd k
appends_more (Some x) (Some y) (Some z) xs d n h k =
    k ∙ (ap (λ w. w ++ take n (drop d xs)) h ∙ (append_assoc x (take d xs) (take n (drop d xs)) ∙ ap (λ w. x ++ w) (sym (take-add d n xs))))

-- before the first piece nothing was consumed
pub consumes_none : (a : Option (List ℕ)) → Consumes a a []
consumes_none None = tt
consumes_none (Some xs) = refl

-- a failed read consumes nothing
pub consumes_kept : (a b c : Option (List ℕ)) (xs : List ℕ) → Consumes a b xs → Keeps b c → Consumes a c xs
consumes_kept None b c xs h k = tt
consumes_kept (Some x) None c xs h k = absurd h
consumes_kept (Some x) (Some y) None xs h k = absurd k
consumes_kept (Some x) (Some y) (Some z) xs h k = h ∙ ap (λ w. xs ++ w) (sym k)

-- two pieces that were consumed one after the other make one
pub consumes_more : (a b c : Option (List ℕ)) (xs ys : List ℕ) → Consumes a b xs → Consumes b c ys → Consumes a c (xs ++ ys)
consumes_more None b c xs ys h k = tt
consumes_more (Some x) None c xs ys h k = absurd h
consumes_more (Some x) (Some y) None xs ys h k = absurd k
consumes_more (Some x) (Some y) (Some z) xs ys h k = h ∙ (ap (λ w. xs ++ w) k ∙ sym (append_assoc xs ys z))
