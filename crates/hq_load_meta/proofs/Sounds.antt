-- Sound filters of permissions, one by one.
use Rattle.std.proofs.Common.{◌≡◌, ℕ, ◌*◌, ◌≤◌, List, [], ◌∷◌, ◌++◌, map, Bool, Result, Ok, Err, refl, subst, arith}
use Rattle.std.specs.Prelude.{IfOk}
use Rattle.std.specs.List.{list_any}
use Rattle.hq_base.specs.Due.{Gives}
use Rattle.hq_model.specs.Meta.{MetaTree, perm_view}
use Rattle.hq_model.specs.declared.table.Table.{Table}
use Rattle.hq_model.specs.declared.meta.Perm.{Perm}
use Rattle.hq_load_meta.specs.Sound.{Sound, AllSound}

-- the item of a list that the view shows
pub any_seen : {A B : Type 0} (p : B → Bool) (f : A → B) (xs : List A) → list_any p (map f xs) ≡ list_any (λ x. p (f x)) xs
any_seen p f [] = refl
any_seen p f (x ∷ xs) = Prim.cc (any_seen p f xs)

pub sound_more : (tables : List Table) (m : MetaTree) (t : ℕ) (ps : List Perm) (p : Perm) → AllSound tables m t (map perm_view ps)
    → Sound tables m t (perm_view p) → AllSound tables m t (map perm_view (ps ++ p ∷ []))
sound_more tables m t [] p all h = (h, tt)
sound_more tables m t (q ∷ ps) p all h = (all.0, sound_more tables m t ps p all.1 h)

-- a filter of shallow JSON is shallow
pub shallow_filter : (d n m : ℕ) → d ≤ 2 * n → n ≤ m → m ≤ 127 → d ≤ 300
shallow_filter d n m deep below shallow = omega (arith, deep, below, shallow)

-- what is due and found out beside it
pub given_ok : {X Y E : Type 0} (view : X → Y) (memory : E) (due : Result Y E) (r : Result X E) (P : Y → Type 0) → Gives view memory due r → IfOk due P → IfOk r (λ x. P (view x))
given_ok view memory due (Ok x) P gives h = subst (λ d. IfOk d P) gives h
given_ok view memory due (Err e) P gives h = tt

pub ok_three : {X E : Type 0} (r : Result X E) (P Q R S : X → Type 0) → ((x : X) → P x → Q x → R x → S x) → IfOk r P → IfOk r Q → IfOk r R → IfOk r S
ok_three (Ok x) P Q R S f p q r = f x p q r
ok_three (Err e) P Q R S f p q r = tt
