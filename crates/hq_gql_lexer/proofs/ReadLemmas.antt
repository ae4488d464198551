-- What is read between a string's quotes is UTF-8.
use Rattle.std.proofs.Common.{◌≡◌, ℕ, zero, suc, Bool, true, false, cond, List, length, take, Ok, Err, refl, sym, ap, ◌∙◌, subst, ⊎_elim}
use Rattle.std.specs.Str.{IsUtf8, is_utf8}
use Rattle.std.specs.Str.Lossy.{valid_len_up_to, utf8_valid_len}
use Rattle.std.proofs.lemmas.Bool.{cases_Bool, cond-true, cond-false, ltb-false}
use Rattle.std.proofs.lemmas.List.{take_all}
use Rattle.std.proofs.lemmas.Str.{IsUtf8-nil, IsUtf8-from_is_utf8}
use Rattle.hq_gql_lexer.specs.declared.refusal.LexRefusal.{LexRefusal}
use Rattle.hq_gql_lexer.specs.declared.characters.StringKind.{StringKind}
use Rattle.hq_gql_lexer.specs.Steps.{steps}
use Rattle.hq_gql_lexer.specs.Strings.{character_at, characters}
use Rattle.hq_gql_lexer.proofs.StepsLemmas.{bind_ok}

-- the bytes that are found to be UTF-8 are so
utf8_up_to : (bytes : List ℕ) (n : ℕ) → IsUtf8 (take (valid_len_up_to bytes n) bytes)
utf8_up_to bytes zero = IsUtf8-nil
utf8_up_to bytes (suc n) = ⊎_elim
    (λ (yes' : is_utf8 (take (suc n) bytes) ≡ true).
    subst (λ k. IsUtf8 (take k bytes)) (sym (cond-true _ (suc n) (valid_len_up_to bytes n) yes')) (IsUtf8-from_is_utf8 _ yes'))
    (λ (no' : is_utf8 (take (suc n) bytes) ≡ false).
    subst (λ k. IsUtf8 (take k bytes)) (sym (cond-false _ (suc n) (valid_len_up_to bytes n) no')) (utf8_up_to bytes n))
    (cases_Bool (is_utf8 (take (suc n) bytes)))

-- the front that is UTF-8 is
pub utf8_front : (bytes : List ℕ) → IsUtf8 (take (utf8_valid_len bytes) bytes)
unfolding utf8_valid_len
utf8_front bytes = utf8_up_to bytes (length bytes)

-- what is read is all of the bytes
pub record IsRead (string_kind : StringKind) (at : ℕ) (bytes value : List ℕ) : Type 0 where
  pub utf8 : IsUtf8 bytes
  pub read : steps (character_at string_kind) 0 at bytes ≡ Ok value

-- where there is an answer, the test of a refusal has failed
pub unless : {A : Type 0} (t : Bool) (e : LexRefusal) (x y : A) → cond t (Err e) (Ok x) ≡ Ok y → (t ≡ false) × (x ≡ y)
unless true e x y h = cc
unless false e x y h = (refl, cc)

-- where characters are read, all bytes are UTF-8 and the steps gave the value
pub characters_read : (string_kind : StringKind) (at : ℕ) (bytes value : List ℕ) → characters string_kind at bytes ≡ Ok value → IsRead string_kind at bytes value
unfolding characters
characters_read string_kind at bytes value h = bind_ok (steps (character_at string_kind) 0 at (take (utf8_valid_len bytes) bytes)) _ value h (λ found read whole.
    let end = unless _ _ found value whole in
    let all : take (utf8_valid_len bytes) bytes ≡ bytes = take_all (utf8_valid_len bytes) bytes (ltb-false _ _ end.0) in
    record {
      utf8 = subst IsUtf8 all (utf8_front bytes);
      read = ap (steps (character_at string_kind) 0 at) (sym all) ∙ read ∙ ap Ok end.1;
    })
