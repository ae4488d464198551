-- A written file ends behind a record, and not inside a quoted field.
use Rattle.std.proofs.Common.{◌≡◌, ◌∙◌, ℕ, ◌≤◌, true, false, List, [], ◌∷◌, ◌++◌, length, flat_map, Option, Some, refl, ap, arith, length-append}
use Rattle.csv.specs.Machine.{Read, next_record, step, is_end, fields_after, field_after}
use Rattle.csv.specs.Reading.{default_config}
use Rattle.csv.specs.Writing.{default_writer, row_text}
use Rattle.csv.specs.declared.parser.State.{State}
use Rattle.csv.specs.declared.parser.State.TheVariants as st
use Rattle.hq_base.specs.Lists.{Each}
use Rattle.hq_load_tables.specs.Unclosed.{state_after, state_behind}
use Rattle.hq_laws_written.proofs.Tables.Records.{shrinks, IsFilled, filled_row}

-- where the reader stands behind two texts
state_behind-append : (s : State) (xs ys : List ℕ) → state_behind s (xs ++ ys) ≡ state_behind (state_behind s xs) ys
state_behind-append s [] ys = refl
state_behind-append s (x ∷ xs) ys = state_behind-append (state_after s x) xs ys

-- nothing stands before a text that ends with all of it
none_before : (s : State) (xs : List ℕ) (c : ℕ) (ys zs : List ℕ) → xs ++ c ∷ ys ≡ zs → length zs ≤ length (c ∷ ys) → state_behind s xs ≡ s
none_before s [] c ys zs e h = refl
none_before s (x ∷ xs) c ys zs e h = absurd (omega (arith, ap length e, length-append xs (c ∷ ys), h))

-- the parts of what a read tells
told : (f g : List (List ℕ)) (s s2 : State) (r r2 : List ℕ) → ◌≡◌ {A = Option Read} (Some (f, s, r)) (Some (g, s2, r2)) → (s ≡ s2) × (r ≡ r2)
told f g s s2 r r2 e = let both : ◌≡◌ {A = Read} (f, s, r) (g, s2, r2) = cc in (ap (λ p. p.1) both, ap (λ p. p.2) both)

-- a record that ends before a byte leaves the reader in the state that it tells
stands : (xs ys : List ℕ) (c : ℕ) (s s2 : State) (f fields : List (List ℕ)) (p : List ℕ)
    → next_record default_config s f p (xs ++ c ∷ ys) ≡ Some (fields, s2, c ∷ ys) → state_behind s xs ≡ s2
unfolding next_record
stands [] ys c s s2 f fields p h = absurd (omega (arith, shrinks default_config ys s f p c (fields, s2, c ∷ ys) h))
stands (x ∷ xs) ys c s s2 f fields p h =
    (elim (is_end (step default_config s x).1) as (λ b. is_end (step default_config s x).1 ≡ b → state_behind s (x ∷ xs) ≡ s2) [
      | true ↦ λ t.
          let parts = told (fields_after (step default_config s x).1 f p) fields (step default_config s x).0 s2 (xs ++ c ∷ ys) (c ∷ ys) (rw t at h) in
          none_before (state_after s x) xs c ys (c ∷ ys) parts.1 (omega arith) ∙ parts.0
      | false ↦ λ t. stands xs ys c (step default_config s x).0 s2 (fields_after (step default_config s x).1 f p) fields (field_after (step default_config s x).1 x p) (rw t at h)
    ]) refl

-- behind a written record the reader stands at the start of the next
behind_row : (fields : List (List ℕ)) → IsFilled fields → state_behind st.StartRecord (row_text default_writer fields) ≡ st.StartRecord
behind_row fields h = stands (row_text default_writer fields) [] 0 st.StartRecord st.StartRecord [] fields [] (filled_row fields (0 ∷ []) h)

-- and so it does behind all of them
pub behind_rows : (rows : List (List (List ℕ))) → Each IsFilled rows → state_behind st.StartRecord (flat_map (row_text default_writer) rows) ≡ st.StartRecord
behind_rows [] h = refl
behind_rows (row ∷ rows) h =
    state_behind-append st.StartRecord (row_text default_writer row) (flat_map (row_text default_writer) rows)
    ∙ ap (λ s. state_behind s (flat_map (row_text default_writer) rows)) (behind_row row h.0)
    ∙ behind_rows rows h.1
