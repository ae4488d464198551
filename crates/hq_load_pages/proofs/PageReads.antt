-- What a read of a page gives.
use Rattle.std.proofs.Common.{◌≡◌, ◌∙◌, ℕ, zero, suc, ◌*◌, ◌-◌, min, List, [], ◌∷◌, take, drop, length, Option, Some, None, IfSome, refl, sym, ap, arith}
use Rattle.std.proofs.lemmas.List.{length-take, length-drop}
use Rattle.hq_io.specs.Disks.{HoldsAt}
use Rattle.hq_load_pages.specs.Held.{page_at, WhereTold}

-- as many items as there are, or as were asked for
pub taken : (most n : ℕ) (xs : List ℕ) → n ≡ min most (length xs) → take n xs ≡ take most xs
taken zero n xs e = let none : n ≡ 0 = omega (arith, e) in rw none refl
taken (suc most) n [] e = let none : n ≡ 0 = omega (arith, e) in rw none refl
taken (suc most) n (x ∷ xs) e = let some : n ≡ suc (min most (length xs)) = omega (arith, e) in rw some (ap (λ (ys : List ℕ). x ∷ ys) (taken most (min most (length xs)) xs refl))

-- a told page was read
pub page_read : (o : Option (List ℕ)) (buf : List ℕ) (n page size at : ℕ) → length buf ≡ 4096 → at ≡ 4096 * page → n ≡ min (length buf) (size - at) → IfSome o (λ held. length held ≡ size)
    → HoldsAt o at (take n buf) → IfSome o (λ held. take n buf ≡ page_at held page)
page_read None buf n page size at long place count told holds = tt
page_read (Some held) buf n page size at long place count told holds =
    let few : length (take n buf) ≡ n = length-take n buf ∙ omega (arith, count) in
    let all : n ≡ min 4096 (length (drop at held)) = omega (arith, count, long, told, length-drop at held) in
    sym holds ∙ ap (λ (k : ℕ). take k (drop at held)) few ∙ taken 4096 n (drop at held) all ∙ ap (λ (k : ℕ). take 4096 (drop k held)) place

-- the same of what is left of the buffer
pub page_got : (o : Option (List ℕ)) (buf got : List ℕ) (n page size at : ℕ) → got ≡ take n buf → length buf ≡ 4096 → at ≡ 4096 * page → n ≡ min (length buf) (size - at)
    → IfSome o (λ held. length held ≡ size) → HoldsAt o at (take n buf) → WhereTold o (λ held. got ≡ page_at held page)
page_got None buf got n page size at same long place count told holds held is = cc
page_got (Some h) buf got n page size at same long place count told holds held is =
    let here : h ≡ held = cc in
    same ∙ page_read (Some h) buf n page size at long place count told holds ∙ ap (λ (xs : List ℕ). page_at xs page) here
