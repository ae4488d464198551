-- The closing quotes of a block string.
use Rattle.std.proofs.Common.{◌≡◌, ℕ, zero, suc, ◌+◌, ◌-◌, ◌<◌, ◌≤◌, true, false, List, [], ◌∷◌, length, drop, Some, refl, sym, ap, ◌∙◌, arith, subst}
use Rattle.std.specs.Prelude.{nat_eq, slice_range}
use Rattle.std.specs.List.{starts_with}
use Rattle.std.specs.Option.{option_map}
use Rattle.std.proofs.lemmas.Bool.{cond-true, cond-false}
use Rattle.std.proofs.lemmas.List.{drop-drop, length-drop}
use Rattle.std.proofs.lemmas.Slice.{between_to_end}
use Rattle.hq_gql_lexer.specs.Strings.{quotes, block_step, block_len}
use Rattle.hq_gql_lexer.proofs.OptionLemmas.{option_map-add, option_map-zero}

-- bytes that are taken already are passed over
pub block_skip : (k : ℕ) (bytes : List ℕ) → k ≤ length bytes → block_len k bytes ≡ option_map (λ n. k + n) (block_len 0 (drop k bytes))
block_skip zero bytes h = option_map-zero (block_len 0 bytes)
block_skip (suc k) [] h = absurd (omega arith)
block_skip (suc k) (b ∷ bytes) h =
    ap (option_map (λ n. 1 + n)) (block_skip k bytes (omega arith)) ∙ option_map-add 1 k (suc k) (block_len 0 (drop k bytes)) (omega arith)

-- the first byte of a step, and the others
block_rest : (k b : ℕ) (bytes : List ℕ) → 0 < k → k ≤ length (b ∷ bytes)
    → option_map (λ n. 1 + n) (block_len (k - 1) bytes) ≡ option_map (λ n. k + n) (block_len 0 (drop k (b ∷ bytes)))
block_rest zero b bytes some h = absurd (omega arith)
block_rest (suc k) b bytes some h =
    ap (λ j. option_map (λ n. 1 + n) (block_len j bytes)) (omega arith) ∙ ap (option_map (λ n. 1 + n)) (block_skip k bytes (omega arith))
    ∙ option_map-add 1 k (suc k) (block_len 0 (drop k bytes)) (omega arith)

-- a step that closes nothing
block_one : (bytes : List ℕ) → 0 < length bytes → starts_with nat_eq bytes quotes ≡ false → 0 < block_step bytes → block_step bytes ≤ length bytes
    → block_len 0 bytes ≡ option_map (λ n. block_step bytes + n) (block_len 0 (drop (block_step bytes) bytes))
block_one [] some open_yet on h = absurd (omega arith)
block_one (b ∷ bytes) some open_yet on h = cond-false _ (Some 0) _ open_yet ∙ block_rest (block_step (b ∷ bytes)) b bytes on h

-- what a loop over a block string has: the string is open up to here, and closed where it is closed from here on
pub record IsOpen (at : ℕ) (bytes : List ℕ) : Type 0 where
  pub within : at ≤ length bytes
  pub so_far : option_map (λ n. at + n) (block_len 0 (drop at bytes)) ≡ block_len 0 bytes

-- a turn at the rest of the text, as a slice has it
pub open_more : (at k : ℕ) (bytes rest : List ℕ) → IsOpen at bytes → at < length bytes → rest ≡ slice_range bytes at (length bytes)
    → starts_with nat_eq rest quotes ≡ false → k ≡ block_step rest → 0 < k → (0 < length rest → k ≤ length rest) → IsOpen (at + k) bytes
open_more at k bytes rest is_open more cut open_yet e on h =
    let same : rest ≡ drop at bytes = cut ∙ between_to_end bytes at (length bytes) (omega arith) in
    let len : length rest ≡ length bytes - at = ap length same ∙ length-drop at bytes in
    let some : 0 < length rest = omega (arith, len) in
    let one = block_one rest some open_yet (subst (λ n. 0 < n) e on) (subst (λ n. n ≤ length rest) e (h some)) in
    record {
      within = omega (arith, len, h some);
      so_far = sym (option_map-add at k (at + k) (block_len 0 (drop (at + k) bytes)) refl)
          ∙ ap (option_map (λ n. at + n))
          (ap (λ bs. option_map (λ n. k + n) (block_len 0 bs)) (sym (drop-drop k at bytes) ∙ ap (drop k) (sym same))
          ∙ ap (λ j. option_map (λ n. j + n) (block_len 0 (drop j rest))) e ∙ sym one ∙ ap (block_len 0) same)
          ∙ is_open.so_far;
    }

-- where three quotes are next, the block ends
closed_here : (rest : List ℕ) → 0 < length rest → starts_with nat_eq rest quotes ≡ true → block_len 0 rest ≡ Some 0
closed_here [] some closed = absurd (omega arith)
closed_here (b ∷ rest) some closed = cond-true _ (Some 0) _ closed

-- the quotes that close it
pub open_ends : (at : ℕ) (bytes rest : List ℕ) → IsOpen at bytes → at < length bytes → rest ≡ slice_range bytes at (length bytes)
    → starts_with nat_eq rest quotes ≡ true → Some at ≡ block_len 0 bytes
open_ends at bytes rest is_open more cut closed =
    let same : rest ≡ drop at bytes = cut ∙ between_to_end bytes at (length bytes) (omega arith) in
    let here = closed_here rest (omega (arith, ap length same, length-drop at bytes)) closed in
    ap Some (omega arith) ∙ ap (option_map (λ n. at + n)) (sym here ∙ ap (block_len 0) same) ∙ is_open.so_far
