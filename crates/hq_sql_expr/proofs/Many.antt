-- Reading a list, one after another.
use Rattle.std.proofs.Common.{◌≡◌, ℕ, suc, ◌+◌, ◌-◌, ◌<◌, ◌≤◌, List, [], ◌∷◌, ◌++◌, Option, Some, None, refl, sym, ap, ◌∙◌, append_assoc, arith}
use Rattle.hq_sql_tree.specs.declared.word.Word.{Word}
use Rattle.hq_sql_expr.specs.declared.refusal.ReadRefusal.{ReadRefusal}
use Rattle.hq_sql_expr.specs.declared.refusal.ReadRefusal.TheVariants.{NotSql, Memory}
use Rattle.hq_sql_expr.specs.Reading.{Refuses, ◌>>=◌, Reader, after, many}

-- what was read before, and what is still read
abbrev pub with_front : {A : Type 0} → List A → Option (List A × List ℕ) → Option (List A × List ℕ)
with_front front None = None
with_front front (Some x) = Some (front ++ x.0, x.1)

regroup : {A : Type 0} (front : List A) (x : A) (read : Option (List A × List ℕ)) → with_front front (read >>= λ xs. Some (x ∷ xs.0, xs.1)) ≡ with_front (front ++ x ∷ []) read
regroup front x None = refl
regroup front x (Some xs) = ap (λ ys. Some (ys, xs.1)) (sym (append_assoc front (x ∷ []) xs.0))

module _ {A : Type 0} (item : Reader A) (w : Word) (front : List A) (count i : ℕ) (bytes : List ℕ) (total : Option (List A × List ℕ))
    (lt : i < count) (so_far : with_front front (many item w (count - i) bytes) ≡ total) where
  pub goes_on : (x : A) (left next : List ℕ) → item bytes ≡ Some (x, left) → after w left ≡ Some next → with_front (front ++ x ∷ []) (many item w (count - (i + 1)) next) ≡ total
  unfolding many
  goes_on x left next read word =
      let k : count - i ≡ suc (count - (i + 1)) = omega arith in
      let one : with_front front (many item w (count - i) bytes) ≡ with_front (front ++ x ∷ []) (many item w (count - (i + 1)) next) =
      rw (k, read, word) (regroup front x (many item w (count - (i + 1)) next)) in
      sym one ∙ so_far

  pub fails : item bytes ≡ None → total ≡ None
  unfolding many
  fails read =
      let k : count - i ≡ suc (count - (i + 1)) = omega arith in
      let one : with_front front (many item w (count - i) bytes) ≡ None = rw (k, read) refl in
      sym so_far ∙ one

  pub finishes : (x : A) (left : List ℕ) → item bytes ≡ Some (x, left) → after w left ≡ None → total ≡ Some (front ++ x ∷ [], left)
  unfolding many
  finishes x left read word =
      let k : count - i ≡ suc (count - (i + 1)) = omega arith in
      let one : with_front front (many item w (count - i) bytes) ≡ Some (front ++ x ∷ [], left) = rw (k, read, word) refl in
      sym so_far ∙ one

pub ends : {A : Type 0} (item : Reader A) (w : Word) (front : List A) (count i : ℕ) (bytes : List ℕ) (total : Option (List A × List ℕ))
    → count ≤ i → with_front front (many item w (count - i) bytes) ≡ total → total ≡ None
unfolding many
ends item w front count i bytes total le so_far =
    let k : count - i ≡ 0 = omega arith in
    let one : with_front front (many item w (count - i) bytes) ≡ None = rw k refl in
    sym so_far ∙ one

-- a refusal of one step is that of the whole
pub refuses_more : {X Y : Type 0} (e : ReadRefusal) (step : Option X) (total : Option Y) → Refuses e step → (step ≡ None → total ≡ None) → Refuses e total
refuses_more Memory step total h f = tt
refuses_more NotSql step total h f = f h
