-- What csv's writer writes of records by its defaults, its reader reads as those records.
use Rattle.std.proofs.Common.{◌≡◌, ◌≢◌, ℕ, zero, suc, ◌+◌, ◌≤◌, true, false, List, [], ◌∷◌, ◌++◌, length, flat_map, Some, None, refl, sym, ap, subst, arith}
use Rattle.csv.specs.Machine.{Read, next_record, step, is_end, ends_at_end, fields_after, field_after}
use Rattle.csv.specs.Reading.{Reached, default_config, records, records_from}
use Rattle.csv.specs.Writing.{default_writer, row_text}
use Rattle.csv.specs.declared.parser.Config.{Config}
use Rattle.csv.specs.declared.parser.State.{State}
use Rattle.csv.specs.declared.parser.State.TheVariants as st
use Rattle.csv.proofs.RoundTrip.{read-write}
use Rattle.hq_base.specs.Lists.{Each}

-- a record takes at least one byte of a text that has one
pub shrinks : (cfg : Config) (rest : List ℕ) (s : State) (f : List (List ℕ)) (p : List ℕ) (c : ℕ) (r : Read) → next_record cfg s f p (c ∷ rest) ≡ Some r → length r.2 ≤ length rest
unfolding next_record
shrinks cfg [] s f p c r h = (elim (is_end (step cfg s c).1) as (λ b. is_end (step cfg s c).1 ≡ b → length r.2 ≤ 0) [
  | true ↦ λ t. let g = rw t at h in let e : [] ≡ r.2 = cc in rw (← e) (omega arith)
  | false ↦ λ t. (elim (ends_at_end (step cfg s c).0) as (λ b. ends_at_end (step cfg s c).0 ≡ b → length r.2 ≤ 0) [
    | true ↦ λ u. let g = rw (t, u) at h in let e : [] ≡ r.2 = cc in rw (← e) (omega arith)
    | false ↦ λ u. let g = rw (t, u) at h in cc
  ]) refl
]) refl
shrinks cfg (d ∷ rest) s f p c r h = (elim (is_end (step cfg s c).1) as (λ b. is_end (step cfg s c).1 ≡ b → length r.2 ≤ length (d ∷ rest)) [
  | true ↦ λ t. let g = rw t at h in let e : d ∷ rest ≡ r.2 = cc in rw (← e) (omega arith)
  | false ↦ λ t. let below = shrinks cfg rest (step cfg s c).0 (fields_after (step cfg s c).1 f p) (field_after (step cfg s c).1 c p) d r (rw t at h) in omega (arith, below)
]) refl

-- nothing is reached past the end
at_end : (cfg : Config) (rows : List (List (List ℕ))) (s2 : State) (ys : List ℕ) → Reached cfg st.StartRecord [] rows s2 ys → length rows ≡ 0
unfolding next_record Reached
at_end cfg [] s2 ys h = refl
at_end cfg (r ∷ rs) s2 ys (p, none, same, rest) = cc

-- no more records are reached than there are bytes, and one
few : (cfg : Config) (s : State) (xs : List ℕ) (rows : List (List (List ℕ))) (s2 : State) (ys : List ℕ) → Reached cfg s xs rows s2 ys → length rows ≤ length xs + 1
unfolding next_record Reached
few cfg s xs [] s2 ys h = omega arith
few cfg s [] (r ∷ rs) s2 ys (p, is, same, rest) = (elim (ends_at_end s) as (λ b. ends_at_end s ≡ b → length (r ∷ rs) ≤ 1) [
  | true ↦ λ t.
      let g = rw t at is in
      let state : st.StartRecord ≡ p.1 = cc in
      let left : [] ≡ p.2 = cc in
      let none = at_end cfg rs s2 ys (subst (λ zs. Reached cfg st.StartRecord zs rs s2 ys) (sym left) (subst (λ s'. Reached cfg s' p.2 rs s2 ys) (sym state) rest)) in
      omega (arith, none)
  | false ↦ λ t. let g = rw t at is in cc
]) refl
few cfg s (c ∷ xs) (r ∷ rs) s2 ys (p, is, same, rest) =
    let below = shrinks cfg xs s [] [] c p is in
    let more = few cfg p.1 p.2 rs s2 ys rest in
    omega (arith, below, more)

stops : (cfg : Config) (n : ℕ) (s : State) (ys : List ℕ) → next_record cfg s [] [] ys ≡ None → records_from cfg n s ys ≡ []
unfolding records_from
stops cfg zero s ys none = refl
stops cfg (suc n) s ys none = rw none refl

-- records that are reached, and behind which none follows, are all of the text
runs : (cfg : Config) (n : ℕ) (s : State) (xs : List ℕ) (rows : List (List (List ℕ))) (s2 : State) (ys : List ℕ)
    → Reached cfg s xs rows s2 ys → next_record cfg s2 [] [] ys ≡ None → length rows ≤ n → records_from cfg n s xs ≡ rows
unfolding Reached records_from
runs cfg n s xs [] s2 ys (state, text) none enough = rw (state, text) (stops cfg n s2 ys none)
runs cfg zero s xs (r ∷ rs) s2 ys h none enough = absurd (omega (arith, enough))
runs cfg (suc n) s xs (r ∷ rs) s2 ys (p, is, same, rest) none enough = rw (is, same) (ap (λ more. p.0 ∷ more) (runs cfg n p.1 p.2 rs s2 ys rest none (omega (arith, enough))))

-- a record with a field
abbrev pub IsFilled : List (List ℕ) → Type 0
IsFilled fields = fields ≢ []

-- such a record is read as it was written
pub filled_row : (fields : List (List ℕ)) (tail : List ℕ) → IsFilled fields
    → next_record default_config st.StartRecord [] [] (row_text default_writer fields ++ tail) ≡ Some (fields, st.StartRecord, tail)
filled_row [] tail h = absurd (h refl)
filled_row (x ∷ xs) tail h = read-write (x ∷ xs) tail

reached : (rows : List (List (List ℕ))) → Each IsFilled rows → Reached default_config st.StartRecord (flat_map (row_text default_writer) rows) rows st.StartRecord []
unfolding Reached
reached [] h = (refl, refl)
reached (row ∷ rows) h = ((row, st.StartRecord, flat_map (row_text default_writer) rows), filled_row row _ h.0, refl, reached rows h.1)

ended : next_record default_config st.StartRecord [] [] [] ≡ None
unfolding next_record
ended = refl

-- the records of what was written are those that it was written from
pub records_written : (rows : List (List (List ℕ))) → Each IsFilled rows → records default_config (flat_map (row_text default_writer) rows) ≡ rows
records_written rows h =
    let text = flat_map (row_text default_writer) rows in
    let all = reached rows h in
    runs default_config (length text + 1) st.StartRecord text rows st.StartRecord [] all ended (few default_config st.StartRecord text rows st.StartRecord [] all)
