-- The pieces in a cache are those that are due, through look-ups and after a `put`.
use Rattle.std.proofs.Common.{◌≡◌, ◌∙◌, ℕ, zero, suc, ◌-◌, ◌<◌, Bool, true, false, List, [], ◌∷◌, take, length, get_or, Option, Some, None, nat_eq, refl, sym, ap, arith}
use Rattle.std.specs.Prelude.{slice_get, option_map}
use Rattle.std.specs.Cmp.Lexicographic.{bytes_decides}
use Rattle.std.specs.List.{list_all}
use Rattle.std.specs.Map.{lookup, lookup_entry, remove_entry, keys_of}
use Rattle.std.specs.Option.{option_and_then, option_map_or}
use Rattle.std.specs.List.{list_any}
use Rattle.std.proofs.lemmas.Bool.{and_from, and_parts, eqb-true, false≢true}
use Rattle.lru.specs.LruCache.{lru_cache, promoted, put_entries}
use Rattle.hq_load_pages.specs.Held.{are_pieces, due_piece, is_piece, page_at, WhereTold}
use Rattle.hq_load_pages.specs.Pages.{piece_of}
use Rattle.hq_load_pages.specs.declared.header.Header.{Header}
use Rattle.hq_load_pages.proofs.Keys.{any_if_found, no_entry}

-- ---- tests of all entries

all_take : {X : Type 0} (f : X → Bool) (n : ℕ) (xs : List X) → list_all f xs ≡ true → list_all f (take n xs) ≡ true
all_take f zero xs e = refl
all_take f (suc n) [] e = refl
all_take f (suc n) (x ∷ xs) e = let both = and_parts (f x) (list_all f xs) e in and_from (f x) (list_all f (take n xs)) both.0 (all_take f n xs both.1)

all_removed : {V : Type 0} (f : ℕ × V → Bool) (p : ℕ) (es : List (ℕ × V)) → list_all f es ≡ true → list_all f (remove_entry (nat_eq p) es) ≡ true
all_removed f p [] e = refl
all_removed f p (x ∷ es) e = let both = and_parts (f x) (list_all f es) e in (elim (nat_eq p x.0) as (λ b. nat_eq p x.0 ≡ b → list_all f (remove_entry (nat_eq p) (x ∷ es)) ≡ true) [
  | true ↦ λ t. rw t both.1
  | false ↦ λ t. rw t (and_from (f x) (list_all f (remove_entry (nat_eq p) es)) both.0 (all_removed f p es both.1))
]) refl

all_found : {V : Type 0} (f : ℕ × V → Bool) (p : ℕ) (es : List (ℕ × V)) (x : ℕ × V) → list_all f es ≡ true → lookup_entry (nat_eq p) es ≡ Some x → f x ≡ true
all_found f p [] x e h = cc
all_found f p (y ∷ es) x e h = let both = and_parts (f y) (list_all f es) e in (elim (nat_eq p y.0) as (λ b. nat_eq p y.0 ≡ b → f x ≡ true) [
  | true ↦ λ t. let h' = rw t at h in let same : y ≡ x = cc in rw (← same) both.0
  | false ↦ λ t. all_found f p es x both.1 (rw t at h)
]) refl

-- a look-up leaves all entries
all_promoted : {V : Type 0} (f : ℕ × V → Bool) (p : ℕ) (es : List (ℕ × V)) (o : Option (ℕ × V)) → lookup_entry (nat_eq p) es ≡ o
    → list_all f es ≡ true → list_all f (option_map_or (λ e. e ∷ remove_entry (nat_eq p) es) o es) ≡ true
all_promoted f p es None h e = e
all_promoted f p es (Some x) h e = and_from (f x) (list_all f (remove_entry (nat_eq p) es)) (all_found f p es x e h) (all_removed f p es e)

-- ---- pieces

pub pieces_promoted : {V : Type 0} (bytes : V → List ℕ) (headers : List Header) (held : List ℕ) (p : ℕ) (es : List (ℕ × V))
    → are_pieces bytes headers held es ≡ true → are_pieces bytes headers held (promoted (nat_eq p) es) ≡ true
pieces_promoted bytes headers held p es e = all_promoted (λ x. is_piece (due_piece headers held x.0) (bytes x.1)) p es (lookup_entry (nat_eq p) es) refl e

-- bytes that are a piece
piece_is : (o : Option (List ℕ)) (b : List ℕ) → is_piece o b ≡ true → o ≡ Some b
piece_is None b e = absurd (false≢true e)
piece_is (Some p) b e = ap Some ((bytes_decides p b).0 e)

is_due : (o : Option (List ℕ)) (b : List ℕ) → o ≡ Some b → is_piece o b ≡ true
is_due None b e = cc
is_due (Some p) b e = let same : p ≡ b = cc in (bytes_decides p b).1 same

-- what a look-up finds is the due piece
pub found_piece : {V : Type 0} (bytes : V → List ℕ) (headers : List Header) (held : List ℕ) (p : ℕ) (es : List (ℕ × V)) (b : List ℕ)
    → are_pieces bytes headers held es ≡ true → Some b ≡ option_map bytes (lookup (nat_eq p) es) → due_piece headers held p ≡ Some b
found_piece bytes headers held p [] b e h = cc
found_piece bytes headers held p (x ∷ es) b e h =
    let both = and_parts (is_piece (due_piece headers held x.0) (bytes x.1)) (are_pieces bytes headers held es) e in (elim (nat_eq p x.0) as
    (λ c. nat_eq p x.0 ≡ c → due_piece headers held p ≡ Some b) [
      | true ↦ λ t.
          let key : p ≡ x.0 = eqb-true p x.0 t in
          let h' = rw t at h in
          let same : bytes x.1 ≡ b = cc in
          ap (due_piece headers held) key ∙ piece_is (due_piece headers held x.0) (bytes x.1) both.0 ∙ ap Some same
      | false ↦ λ t. found_piece bytes headers held p es b both.1 (rw t at h)
    ]) refl

-- a due piece is put
pub pieces_put : {V : Type 0} (bytes : V → List ℕ) (headers : List Header) (held : List ℕ) (p : ℕ) (v : V) (cap : ℕ) (es : List (ℕ × V))
    → are_pieces bytes headers held es ≡ true → list_any (nat_eq p) (keys_of es) ≡ false → due_piece headers held p ≡ Some (bytes v)
    → are_pieces bytes headers held (put_entries nat_eq (lru_cache es cap) p v) ≡ true
pieces_put bytes headers held p v cap es e none due =
    rw (no_entry p es (any_if_found p es ∙ none))
    (and_from (is_piece (due_piece headers held p) (bytes v)) (are_pieces bytes headers held (take (cap - 1) es))
    (is_due (due_piece headers held p) (bytes v) due) (all_take (λ x. is_piece (due_piece headers held x.0) (bytes x.1)) (cap - 1) es e))

-- the piece of a page, by the due at its place
pub due_there : (headers : List Header) (held : List ℕ) (page : ℕ) (d : Header) (o : Option (List ℕ)) → page < length headers
    → piece_of (get_or headers page d) (page_at held page) ≡ o → due_piece headers held page ≡ o
due_there headers held page d o lt e = ap (option_and_then (λ due. piece_of due (page_at held page))) (at headers page lt) ∙ e
  where
    at : (xs : List Header) (i : ℕ) → i < length xs → slice_get xs i ≡ Some (get_or xs i d)
    at [] i lt = absurd (omega (arith, lt))
    at (x ∷ xs) zero lt = refl
    at (x ∷ xs) (suc i) lt = at xs i (omega (arith, lt))

-- ---- the same where the disk tells its bytes

pub told_promoted : {V : Type 0} (bytes : V → List ℕ) (headers : List Header) (told : Option (List ℕ)) (p : ℕ) (es new : List (ℕ × V))
    → WhereTold told (λ held. are_pieces bytes headers held es ≡ true) → new ≡ promoted (nat_eq p) es
    → WhereTold told (λ held. are_pieces bytes headers held new ≡ true)
told_promoted bytes headers told p es new all e held is = ap (are_pieces bytes headers held) e ∙ pieces_promoted bytes headers held p es (all held is)

pub told_found : {V : Type 0} (bytes : V → List ℕ) (headers : List Header) (told : Option (List ℕ)) (p : ℕ) (es : List (ℕ × V)) (b : List ℕ)
    → WhereTold told (λ held. are_pieces bytes headers held es ≡ true) → Some b ≡ option_map bytes (lookup (nat_eq p) es)
    → WhereTold told (λ held. due_piece headers held p ≡ Some b)
told_found bytes headers told p es b all e held is = found_piece bytes headers held p es b (all held is) e

pub told_put : {V : Type 0} (bytes : V → List ℕ) (headers : List Header) (told : Option (List ℕ)) (p : ℕ) (v : V) (cap : ℕ)
    (es new : List (ℕ × V))
    → WhereTold told (λ held. are_pieces bytes headers held es ≡ true) → list_any (nat_eq p) (keys_of es) ≡ false
    → WhereTold told (λ held. due_piece headers held p ≡ Some (bytes v)) → new ≡ put_entries nat_eq (lru_cache es cap) p v → WhereTold told (λ held. are_pieces bytes headers held new ≡ true)
told_put bytes headers told p v cap es new all none due e held is = ap (are_pieces bytes headers held) e ∙ pieces_put bytes headers held p v cap es (all held is) none (due held is)

-- the piece of a page that was read
pub told_due : (headers : List Header) (told : Option (List ℕ)) (page : ℕ) (d : Header) (got : List ℕ) (o : Option (List ℕ)) → page < length headers
    → WhereTold told (λ held. got ≡ page_at held page) → piece_of (get_or headers page d) got ≡ o
    → WhereTold told (λ held. due_piece headers held page ≡ o)
told_due headers told page d got o lt read e held is = due_there headers held page d o lt (ap (piece_of (get_or headers page d)) (sym (read held is)) ∙ e)
