-- What is written reads back.
use Rattle.std.proofs.Common.{◌≡◌, ◌∙◌, ℤ, ℕ, suc, ◌-◌, ◌<◌, ◌≤◌, ◌^◌, true, false, List, [], ◌∷◌, ◌++◌, length, Option, Some, None, nat_le, refl, sym, ap, arith, append_assoc, length-append, FitsSigned}
use Rattle.std.proofs.lemmas.List.{take_at, drop_at, append-nil}
use Rattle.std.proofs.lemmas.Grind.{flat_map-append}
use Rattle.std.proofs.lemmas.Nat.{from_be_bytes-to_be_bytes_8, from_be_bytes-to_be_bytes_4}
use Rattle.std.proofs.lemmas.Int.{to_z-of_z}
use Rattle.std.proofs.lemmas.Bool.{le-leb}
use mir.ValLaws.{of_z_fits}
use Rattle.std.specs.Int.{w32, w64, to_be_bytes, from_be_bytes, cast_signed, cast_unsigned}
use Rattle.std.specs.Str.{is_utf8}
use Rattle.std.specs.Option.{option_and_then, option_map}
use Rattle.hq_base.specs.Text.{has_zero}
use Rattle.hq_base.specs.declared.value.Val.{Val}
use Rattle.hq_base.specs.declared.value.Val.TheVariants as val
use Rattle.hq_load_pages.specs.Cells.{cell_bytes, cell_front, int_front, text_front, text_of_length, ReadsBack}
use Rattle.hq_load_pages.specs.Runs.{run_of, cells_of}
use Rattle.hq_base.specs.Lists.{Each}

-- a front of this many bytes is there
enough : (p rest : List ℕ) (n : ℕ) → length p ≡ n → nat_le n (length (p ++ rest)) ≡ true
enough p rest n h = le-leb n (length (p ++ rest)) (omega (arith, h, length-append p rest))

-- what reads a front of eight bytes
int_of : (p rest : List ℕ) → length p ≡ 8 → int_front (p ++ rest) ≡ Some (val.Int (cast_signed w64 (from_be_bytes w64 p)), rest)
int_of p rest h = rw (enough p rest 8 h, take_at p rest 8 h, drop_at p rest 8 h) refl

-- a whole number reads back
int_written : (n : ℤ) (rest : List ℕ) → FitsSigned w64 n → int_front (to_be_bytes w64 (cast_unsigned w64 n) ++ rest) ≡ Some (val.Int n, rest)
int_written n rest fits =
    let back = from_be_bytes-to_be_bytes_8 (cast_unsigned w64 n) (of_z_fits w64 n fits).fits in
    int_of (to_be_bytes w64 (cast_unsigned w64 n)) rest refl ∙ ap (λ (m : ℕ). Some (val.Int (cast_signed w64 m), rest)) back ∙ ap (λ (z : ℤ). Some (val.Int z, rest)) (to_z-of_z w64 n fits)

-- a text of a length that is at hand
text_there : (s rest : List ℕ) → is_utf8 s ≡ true → has_zero s ≡ false → text_of_length (length s) (s ++ rest) ≡ Some (val.Text s, rest)
text_there s rest utf8 free =
    let enough : nat_le (length s) (length (s ++ rest)) ≡ true = le-leb (length s) (length (s ++ rest)) (omega (arith, length-append s rest)) in
    rw (enough, take_at s rest (length s) refl, drop_at s rest (length s) refl, utf8, free) refl

-- what reads a front of four bytes
text_from : (p rest : List ℕ) → length p ≡ 4 → text_front (p ++ rest) ≡ text_of_length (from_be_bytes w32 p) rest
text_from p rest h = rw (enough p rest 4 h, take_at p rest 4 h, drop_at p rest 4 h) refl

-- a text reads back
text_written : (s rest : List ℕ) → length s < 2 ^ 32 → is_utf8 s ≡ true → has_zero s ≡ false → text_front ((to_be_bytes w32 (length s) ++ s) ++ rest) ≡ Some (val.Text s, rest)
text_written s rest short utf8 free =
    ap text_front (append_assoc (to_be_bytes w32 (length s)) s rest) ∙ text_from (to_be_bytes w32 (length s)) (s ++ rest) refl
    ∙ ap (λ (n : ℕ). text_of_length n (s ++ rest)) (from_be_bytes-to_be_bytes_4 (length s) short) ∙ text_there s rest utf8 free

-- a whole number of 64 bits reads back
pub int_back : (n : ℤ) → FitsSigned w64 n → ReadsBack (val.Int n)
int_back n fits rest = int_written n rest fits

-- a text reads back
pub text_back : (s : List ℕ) → length s < 2 ^ 32 → is_utf8 s ≡ true → has_zero s ≡ false → ReadsBack (val.Text s)
text_back s short utf8 free rest = text_written s rest short utf8 free

-- a run reads back
pub run_written : (vs : List Val) → Each ReadsBack vs → cells_of (length vs) (run_of vs) ≡ Some vs
run_written [] h = refl
run_written (v ∷ vs) h =
    ap (option_and_then (λ c. option_map (λ ws. c.0 ∷ ws) (cells_of (length vs) c.1))) (h.0 (run_of vs))
    ∙ ap (option_map (λ ws. v ∷ ws)) (run_written vs h.1)

-- one cell more behind those before
more_cells : (vs ws : List Val) (v : Val) → vs ++ v ∷ ws ≡ (vs ++ v ∷ []) ++ ws
more_cells vs ws v = sym (append_assoc vs (v ∷ []) ws)

map_more : (vs : List Val) (v : Val) (o : Option (List Val)) → option_map (λ ws. (vs ++ v ∷ []) ++ ws) o ≡ option_map (λ ws. vs ++ ws) (option_map (λ ws. v ∷ ws) o)
map_more vs v None = refl
map_more vs v (Some ws) = ap Some (sym (more_cells vs ws v))

next_cells : (vs : List Val) (v : Val) (k : ℕ) (rest behind : List ℕ) → cell_front rest ≡ Some (v, behind)
    → option_map (λ ws. (vs ++ v ∷ []) ++ ws) (cells_of k behind) ≡ option_map (λ ws. vs ++ ws) (cells_of (suc k) rest)
next_cells vs v k rest behind e =
    map_more vs v (cells_of k behind) ∙ ap (λ (o : Option (Val × List ℕ)). option_map (λ ws. vs ++ ws) (option_and_then (λ c. option_map (λ ws. c.0 ∷ ws) (cells_of k c.1)) o)) (sym e)

-- the loop's step: a cell more is read
pub cells_step : (vs : List Val) (v : Val) (count : ℕ) (bytes rest behind : List ℕ) → length vs < count → cell_front rest ≡ Some (v, behind) → cell_bytes v ++ behind ≡ rest
    → option_map (λ ws. vs ++ ws) (cells_of (count - length vs) rest) ≡ cells_of count bytes → run_of vs ++ rest ≡ bytes
    → (length (vs ++ v ∷ []) ≤ count) × (option_map (λ ws. (vs ++ v ∷ []) ++ ws) (cells_of (count - length (vs ++ v ∷ [])) behind) ≡ cells_of count bytes) × (run_of (vs ++ v ∷ []) ++ behind ≡ bytes)
cells_step vs v count bytes rest behind lt e exact so_far written =
    let one : length (vs ++ v ∷ []) ≡ suc (length vs) = omega (arith, length-append vs (v ∷ [])) in
    let left : suc (count - length (vs ++ v ∷ [])) ≡ count - length vs = omega (arith, lt, one) in (
      omega (arith, lt, one),
      next_cells vs v (count - length (vs ++ v ∷ [])) rest behind e ∙ ap (λ (k : ℕ). option_map (λ ws. vs ++ ws) (cells_of k rest)) left ∙ so_far,
      ap (λ (xs : List ℕ). xs ++ behind) (flat_map-append cell_bytes vs (v ∷ []))
          ∙ ap (λ (xs : List ℕ). (run_of vs ++ xs) ++ behind) (append-nil (cell_bytes v))
          ∙ append_assoc (run_of vs) (cell_bytes v) behind ∙ ap (λ (xs : List ℕ). run_of vs ++ xs) exact ∙ written,
    )

-- no cell at all reads back
pub none_back : (vs : List Val) → length vs < 1 → Each ReadsBack vs
none_back [] few = tt
none_back (v ∷ vs) few = absurd (omega (arith, few))
