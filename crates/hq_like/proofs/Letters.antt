-- Letters that a text begins with.
use Rattle.std.proofs.Common.{◌≡◌, ◌∙◌, refl, sym, ap, subst, ℕ, zero, suc, ◌+◌, ◌<◌, ◌≤◌, List, [], ◌∷◌, ◌++◌, length, append_assoc, take, drop, get_or, Bool, true, false, ◌&&◌, ◌==◌, eq-eqb, ◌⊎◌, ⊎_elim, inl, inr, arith}
use Rattle.std.proofs.lemmas.Bool.{cases_lt}
use Rattle.std.proofs.lemmas.List.{take_more, get_or_append_left}
use Rattle.hq_base.specs.Patterns.{meets, some_end}
use Rattle.hq_base.specs.declared.pattern.Step.{Step}
use Rattle.hq_like.specs.Backs.{Reads, IsBack, AreBacks, letters_then, but_first}

and_false : (b m : Bool) → m ≡ false → (b && m) ≡ false
and_false true m h = h
and_false false m h = refl

-- a text that is too short does not begin with the letters
pub too_short : (letters : List ℕ) (more : List Step) (cs : List ℕ) → length cs < length letters → meets false (letters_then letters more) cs ≡ false
too_short [] more cs lt = absurd (omega (arith, lt))
too_short (d ∷ ds) more [] lt = refl
too_short (d ∷ ds) more (c ∷ cs) lt = and_false (d == c) (meets false (letters_then ds more) cs) (too_short ds more cs (omega (arith, lt)))

-- and none of its ends does
pub ends_too_short : (letters : List ℕ) (more : List Step) (cs : List ℕ) → length cs < length letters → some_end (meets false (letters_then letters more)) cs ≡ false
ends_too_short letters more [] lt = too_short letters more [] lt
ends_too_short letters more (c ∷ cs) lt = rw (too_short letters more (c ∷ cs) lt) (ends_too_short letters more cs (omega (arith, lt)))

-- first letters and then another one than the next
pub other_letter : (letters : List ℕ) (more : List Step) (state c : ℕ) (rest : List ℕ) → state < length letters
    → (get_or letters state 0 == c) ≡ false → meets false (letters_then letters more) (take state letters ++ c ∷ rest) ≡ false
other_letter [] more state c rest lt other = absurd (omega (arith, lt))
other_letter (d ∷ ds) more zero c rest lt other = rw other refl
other_letter (d ∷ ds) more (suc state) c rest lt other =
    and_false (d == d) (meets false (letters_then ds more) (take state ds ++ c ∷ rest)) (other_letter ds more state c rest (omega (arith, lt)) other)

-- all letters, and then the rest
pub letters_first : (letters : List ℕ) (more : List Step) (cs : List ℕ) → meets false (letters_then letters more) (letters ++ cs) ≡ meets false more cs
letters_first [] more cs = refl
letters_first (d ∷ ds) more cs = rw (eq-eqb d d refl) (letters_first ds more cs)

-- where a text does not fit at its first character, its other ends are left
pub first_fails : (test : List ℕ → Bool) (front rest : List ℕ) → 0 < length front → test (front ++ rest) ≡ false → some_end test (front ++ rest) ≡ some_end test (but_first front ++ rest)
first_fails test [] rest some fails = absurd (omega (arith, some))
first_fails test (c ∷ cs) rest some fails = rw fails refl

-- so many first letters are some
taken_some : (letters : List ℕ) (state : ℕ) → state < length letters → 0 < state → 0 < length (take state letters)
taken_some [] state lt some = absurd (omega (arith, lt))
taken_some (c ∷ cs) zero lt some = absurd (omega (arith, some))
taken_some (c ∷ cs) (suc state) lt some = omega arith

but_first_more : (cs : List ℕ) (c : ℕ) → 0 < length cs → but_first (cs ++ c ∷ []) ≡ but_first cs ++ c ∷ []
but_first_more [] c some = absurd (omega (arith, some))
but_first_more (d ∷ ds) c some = refl

-- ---- what is read

-- one more letter behind what is read
pub reads_more : (letters text : List ℕ) (state next c : ℕ) → Reads letters text state → Reads letters (take state letters ++ c ∷ []) next → Reads letters (text ++ c ∷ []) next
reads_more letters text state next c before after =
    record {
      same = λ more rest.
          let test = meets false (letters_then letters more) in
          ap (some_end test) (append_assoc text (c ∷ []) rest) ∙ before.same more (c ∷ rest) ∙ ap (some_end test) (sym (append_assoc (take state letters) (c ∷ []) rest)) ∙ after.same more rest;
    }

-- the letter is still to be read: so many first letters count for those that were read
pub record Waits (letters : List ℕ) (c read state : ℕ) : Type 0 where
  pub same : (more : List Step) (rest : List ℕ)
      → some_end (meets false (letters_then letters more)) (take read letters ++ c ∷ rest)
      ≡ some_end (meets false (letters_then letters more)) (take state letters ++ c ∷ rest)

-- going back where the next letter is another one
pub waits_back : (letters : List ℕ) (c read state back : ℕ) → Waits letters c read state → state < length letters → 0 < state
    → (get_or letters state 0 == c) ≡ false → IsBack letters state back → Waits letters c read back
waits_back letters c read state back waits lt some other is =
    record {
      same = λ more rest.
          let test = meets false (letters_then letters more) in
          let long : 0 < length (take state letters) = taken_some letters state lt some in
          waits.same more rest ∙ first_fails test (take state letters) (c ∷ rest) long (other_letter letters more state c rest lt other) ∙ is.reads.same more (c ∷ rest);
    }

-- no letter is left where the first one is another one
pub waits_none : (letters : List ℕ) (c read : ℕ) → Waits letters c read 0 → 0 < length letters → (get_or letters 0 0 == c) ≡ false → Reads letters (take read letters ++ c ∷ []) 0
waits_none letters c read waits lt other =
    record {
      same = λ more rest.
          let test = meets false (letters_then letters more) in
          ap (some_end test) (append_assoc (take read letters) (c ∷ []) rest) ∙ waits.same more rest ∙ first_fails test (c ∷ []) rest (omega arith) (other_letter letters more 0 c rest lt other);
    }

-- one letter more is read where it is the next one
pub waits_more : (letters : List ℕ) (c read state : ℕ) → Waits letters c read state → state < length letters → get_or letters state 0 ≡ c → Reads letters (take read letters ++ c ∷ []) (state + 1)
waits_more letters c read state waits lt is =
    record {
      same = λ more rest.
          let test = meets false (letters_then letters more) in
          let longer : take (state + 1) letters ≡ take state letters ++ c ∷ [] = take_more letters state 0 lt ∙ ap (λ x. take state letters ++ x ∷ []) is in
          ap (some_end test) (append_assoc (take read letters) (c ∷ []) rest) ∙ waits.same more rest
          ∙ sym (ap (λ l. some_end test (l ++ rest)) longer ∙ ap (some_end test) (append_assoc (take state letters) (c ∷ []) rest));
    }

-- ---- the table

last_entry : (backs : List ℕ) (next n : ℕ) → length backs ≡ n → get_or (backs ++ next ∷ []) n 0 ≡ next
last_entry [] next n is = ap (λ k. get_or (next ∷ []) k 0) (sym is)
last_entry (b ∷ bs) next n is = ap (λ k. get_or (b ∷ (bs ++ next ∷ [])) k 0) (sym is) ∙ last_entry bs next (length bs) refl

le_or_last : (j at : ℕ) → j ≤ at + 1 → (j ≤ at) ⊎ (j ≡ at + 1)
le_or_last j at within = ⊎_elim (λ lt. inl (omega (arith, lt))) (λ le. inr (omega (arith, le, within))) (cases_lt j (at + 1))

-- behind one letter none is left
pub back_one : (letters : List ℕ) → 0 < length letters → IsBack letters 1 0
back_one [] lt = absurd (omega (arith, lt))
back_one (c ∷ cs) lt = record { shorter = omega arith; reads = record { same = λ more rest. refl } }

-- the entry behind one more letter
pub back_more : (letters : List ℕ) (state back next : ℕ) → 0 < state → state < length letters → IsBack letters state back → next ≤ back + 1
    → Reads letters (take back letters ++ get_or letters state 0 ∷ []) next → IsBack letters (state + 1) next
back_more letters state back next some lt is within reads =
    let c = get_or letters state 0 in
    let longer : but_first (take (state + 1) letters) ≡ but_first (take state letters) ++ c ∷ [] =
    ap but_first (take_more letters state 0 lt) ∙ but_first_more (take state letters) c (taken_some letters state lt some) in
    let shorter = is.shorter in
    record { shorter = omega (arith, shorter); reads = subst (λ l. Reads letters l next) (sym longer) (reads_more letters (but_first (take state letters)) back next c is.reads reads) }

-- one entry more
pub backs_more : (letters backs : List ℕ) (at next : ℕ) → length backs ≡ at + 1 → AreBacks letters backs at → IsBack letters (at + 1) next → AreBacks letters (backs ++ next ∷ []) (at + 1)
backs_more letters backs at next many all is j some within =
    let old : j ≤ at → IsBack letters j (get_or (backs ++ next ∷ []) j 0) =
    λ le. subst (λ b. IsBack letters j b) (sym (get_or_append_left backs (next ∷ []) 0 j (omega (arith, le, many)))) (all j some le) in
    let new : j ≡ at + 1 → IsBack letters j (get_or (backs ++ next ∷ []) j 0) =
    λ e. subst (λ k. IsBack letters k (get_or (backs ++ next ∷ []) k 0)) (sym e) (subst (λ b. IsBack letters (at + 1) b) (sym (last_entry backs next (at + 1) many)) is) in
    elim (le_or_last j at within) [ inl le ↦ old le | inr e ↦ new e ]

-- one item less
pub drop_next : (n : ℕ) (xs : List ℕ) (x : ℕ) (ys : List ℕ) → drop n xs ≡ x ∷ ys → drop (n + 1) xs ≡ ys
drop_next zero [] x ys is = cc
drop_next zero (z ∷ zs) x ys is = let same : zs ≡ ys = cc in same
drop_next (suc n) [] x ys is = cc
drop_next (suc n) (z ∷ zs) x ys is = let e : suc n + 1 ≡ suc (n + 1) = omega arith in ap (λ k. drop k (z ∷ zs)) e ∙ drop_next n zs x ys is
