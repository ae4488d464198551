-- How a body is read, step by step.
use Rattle.std.proofs.Common.{◌≡◌, ◌⊎◌, inl, inr, ap, ◌∙◌, ◌++◌, ◌∷◌, [], ℕ, List, Result, Ok, Err, Some, None, Bool, true, false, IsUtf8, map, append_assoc, refl}
use Rattle.std.proofs.lemmas.List.{map-append}
use Rattle.std.specs.Str.{is_utf8}
use Rattle.std.proofs.lemmas.Str.{is_utf8-from_IsUtf8, IsUtf8-from_is_utf8}
use Rattle.serde_json.specs.Data.{Data, Members, member}
use Rattle.serde_json.specs.Read.{read}
use Rattle.hq_base.specs.Due.{mapped}
use Rattle.hq_base.specs.Json.{JsonTree, member_view}
use Rattle.hq_base.specs.Body.{clean, refusal_of, value_of, members_in, body_of}
use Rattle.hq_base.specs.Text.{has_zero}
use Rattle.hq_base.specs.Refused.{text_of}
use Rattle.hq_base.specs.declared.txt.TxtRefusal.{TxtRefusal}
use Rattle.hq_base.specs.declared.txt.TxtRefusal.TheVariants as text
use Rattle.hq_base.specs.declared.body.JsonRefusal.{JsonRefusal}
use Rattle.hq_base.specs.declared.body.JsonRefusal.TheVariants.{NotJson, Memory}
use Rattle.hq_base.specs.declared.json.Member.{Member}

cleaned : (s : List ℕ) (e : TxtRefusal) (utf8 zero : Bool) → is_utf8 s ≡ utf8 → has_zero s ≡ zero → utf8 ≡ true → text_of s ≡ Err e → clean s ≡ Err (refusal_of e)
cleaned s e utf8 true u z is h = let k = rw (u, is, z) at h in rw z (cc)
cleaned s e utf8 false u z is h = let k = rw (u, is, z) at h in cc

-- UTF-8 that is no text is refused for the same cause
pub clean_at_err : (s : List ℕ) (e : TxtRefusal) → IsUtf8 s → (e ≡ text.Memory) ⊎ (text_of s ≡ Err e) → (refusal_of e ≡ Memory) ⊎ (clean s ≡ Err (refusal_of e))
clean_at_err s e utf8 (inl h) = inl (ap refusal_of h)
clean_at_err s e utf8 (inr h) = inr (cleaned s e _ _ refl refl (is_utf8-from_IsUtf8 s utf8) h)

-- items put before the rest, one after the other, are put there together
more : {A : Type 0} (done : List A) (x : A) (rest : Result (List A) JsonRefusal)
    → mapped (λ xs. done ++ xs) (mapped (λ xs. x ∷ xs) rest) ≡ mapped (λ xs. (done ++ x ∷ []) ++ xs) rest
more done x (Ok xs) = rw append_assoc
more done x (Err e) = refl

-- the members that are read so far, with the next one
pub one_more_member : (all : Result (List (List ℕ × JsonTree)) JsonRefusal) (done now : List Member) (m : Member) (k name : List ℕ) (d : Data) (j : JsonTree) (ms : Members)
    → all ≡ mapped (λ rest. map member_view done ++ rest) (members_in (member k d ms))
    → clean k ≡ Ok name → value_of d ≡ Ok j → now ≡ done ++ m ∷ [] → member_view m ≡ (name, j)
    → all ≡ mapped (λ rest. map member_view now ++ rest) (members_in ms)
one_more_member all done now m k name d j ms so_far text value more_items view =
    so_far ∙ rw (text, value, more_items, map-append, view) (more (map member_view done) (name, j) (members_in ms))

-- a body that serde_json reads
pub body_of-value : (bytes : List ℕ) (d : Data) → IsUtf8 bytes → read bytes ≡ Some d → body_of bytes ≡ value_of d
body_of-value bytes d text is = rw (is_utf8-from_IsUtf8 bytes text, is) refl

-- a body that it does not read
pub body_of-not_json : (bytes : List ℕ) → (IsUtf8 bytes → read bytes ≡ None) → body_of bytes ≡ Err NotJson
body_of-not_json bytes none = (elim (is_utf8 bytes) as (λ b. is_utf8 bytes ≡ b → body_of bytes ≡ Err NotJson) [
  | true ↦ λ t. rw (t, none (IsUtf8-from_is_utf8 bytes t)) refl
  | false ↦ λ t. rw t refl
]) refl
