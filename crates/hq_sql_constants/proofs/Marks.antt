-- Marks of the rows that have one of some values.
use Rattle.std.proofs.Common.{◌≡◌, ◌∙◌, ◌<◌, ◌+◌, ◌≤◌, ℕ, zero, suc, List, [], ◌∷◌, ◌++◌, filter, length, get_or, take, Bool, true, false, ◌||◌, cond, refl, sym, ap, subst, add-one, arith}
use Rattle.std.specs.Prelude.{◌==◌, replicate}
use Rattle.std.specs.List.{list_any}
use Rattle.std.proofs.Math.Seq.{take-suc}
use Rattle.std.proofs.lemmas.Bool.{eqb-false, eqb-true, true≢false}
use Rattle.std.proofs.lemmas.List.{take_all, length-replicate}
use Rattle.hq_base.specs.Cells.{cell_of}
use Rattle.hq_base.specs.declared.value.Val.{Val}
use Rattle.hq_load_index.specs.Indexes.{counted, rows_with}
use Rattle.hq_load_index.specs.Keys.{has_key}
use Rattle.hq_sql_constants.specs.Sifted.{MarksAll}
use Rattle.hq_sql_constants.proofs.Ones.{any_append, or_false}

-- a number of these that is not among the chosen ones is not chosen
not_chosen : (q : ℕ → Bool) (from count t : ℕ) → from ≤ t → t < from + count → list_any (λ u. u == t) (filter q (counted from count)) ≡ false → q t ≡ false
not_chosen q from zero t le lt e = absurd (omega (arith, le, lt))
not_chosen q from (suc count) t le lt e =
    let rest = filter q (counted (suc from) count) in
    let go : (b : Bool) → q from ≡ b → list_any (λ u. u == t) (cond b (from ∷ rest) rest) ≡ false → (d : Bool) → (from == t) ≡ d → q t ≡ false =
    elim [
      | true ↦ λ is f. elim [
        | true ↦ λ same. absurd (true≢false (sym (ap (λ c. c || list_any (λ u. u == t) rest) same) ∙ f))
        | false ↦ λ other. not_chosen q (suc from) count t (later from t le other) (omega (arith, lt)) (sym (ap (λ c. c || list_any (λ u. u == t) rest) other) ∙ f)
      ]
      | false ↦ λ is f. elim [
        | true ↦ λ same. ap q (sym (eqb-true from t same)) ∙ is
        | false ↦ λ other. not_chosen q (suc from) count t (later from t le other) (omega (arith, lt)) f
      ]
    ] in
    go (q from) refl e (from == t) refl
  where
    later : (a b : ℕ) → a ≤ b → (a == b) ≡ false → suc a ≤ b
    later a b le other = omega (arith, le, eqb-false a b other)

-- marks of which none is set, before any value
pub marks_none : (rows : List (List Val)) (columns : List ℕ) (vs : List Val) (marks : List Bool) (n : ℕ) → n ≡ length rows → marks ≡ replicate n false
    → MarksAll rows columns (take 0 vs) marks
marks_none rows columns vs marks n e is = record { count = ap length is ∙ (length-replicate n false ∙ e); none = λ t lt h. refl }

-- with the marks of the rows that have one value more
pub marks_more : (rows : List (List Val)) (columns : List ℕ) (vs : List Val) (i : ℕ) (v : Val) (old new : List Bool) (found : List ℕ)
    → i < length vs → v ≡ get_or vs i v
    → MarksAll rows columns (take i vs) old → found ≡ rows_with columns (cell_of v ∷ []) rows → length new ≡ length old
    → ((t : ℕ) → t < length old → get_or new t false ≡ false → get_or old t false ≡ false)
    → ((t : ℕ) → t < length old → get_or old t false ≡ false → get_or new t false ≡ list_any (λ u. u == t) found)
    → MarksAll rows columns (take (i + 1) vs) new
marks_more rows columns vs i v old new found lt is so_far finds long left set =
    let longer : take (i + 1) vs ≡ take i vs ++ v ∷ [] = ap (λ n. take n vs) (add-one i) ∙ take-suc vs i v lt ∙ ap (λ d. take i vs ++ d ∷ []) (sym is) in
    record {
      count = long ∙ so_far.count;
      none = λ t within h.
          let p : Val → Bool = λ x. has_key columns (cell_of x ∷ []) (get_or rows t []) in
          let near : t < length old = subst (λ n. t < n) (sym so_far.count) within in
          let before : get_or old t false ≡ false = left t near h in
          let missed : list_any (λ u. u == t) (rows_with columns (cell_of v ∷ []) rows) ≡ false =
          ap (list_any (λ u. u == t)) (sym finds) ∙ sym (set t near before) ∙ h in
          let last : p v ≡ false = not_chosen (λ n. has_key columns (cell_of v ∷ []) (get_or rows n [])) 0 (length rows) t (omega arith) (omega (arith, within)) missed in
          ap (list_any p) longer ∙ any_append p (take i vs) (v ∷ []) ∙ ap (λ b. b || list_any p (v ∷ [])) (so_far.none t within before)
          ∙ or_false (p v) ∙ last;
    }

-- with those of all values
pub marks_end : (rows : List (List Val)) (columns : List ℕ) (vs : List Val) (i : ℕ) (marks : List Bool) → length vs ≤ i
    → MarksAll rows columns (take i vs) marks → MarksAll rows columns vs marks
marks_end rows columns vs i marks le so_far = subst (λ l. MarksAll rows columns l marks) (take_all i vs le) so_far
