-- The keys of a cache after a look-up and after a `put`.
use Rattle.std.proofs.Common.{◌≡◌, ◌∙◌, ℕ, ◌+◌, ◌-◌, ◌<◌, ◌≤◌, true, false, cond, List, [], ◌∷◌, length, Option, Some, None, is_some, nat_eq, refl, sym, ap, arith, zero, suc}
use Rattle.std.proofs.lemmas.List.{take_all, take-map}
use Rattle.std.specs.List.{list_any}
use Rattle.std.specs.Option.{option_map_or, option_map}
use Rattle.std.specs.Map.{keys_of, lookup, lookup_entry, remove_entry}
use Rattle.lru.specs.LruCache.{lru_cache, promoted, put_entries}
use Rattle.std.proofs.lemmas.Map.Entries.{length-keys_of}
use Rattle.hq_load_pages.specs.Touch.{touched, without}

pub any_if_found : {V : Type 0} → (p : ℕ) (es : List (ℕ × V)) → is_some (lookup (nat_eq p) es) ≡ list_any (nat_eq p) (keys_of es)
any_if_found p [] = refl
any_if_found p (e ∷ es) = (elim (nat_eq p e.0) as (λ b. nat_eq p e.0 ≡ b → is_some (lookup (nat_eq p) (e ∷ es)) ≡ list_any (nat_eq p) (keys_of (e ∷ es))) [
  | true ↦ λ t. rw t refl
  | false ↦ λ t. rw t (any_if_found p es)
]) refl

pub entry_if_found : {V : Type 0} → (p : ℕ) (es : List (ℕ × V)) → is_some (lookup_entry (nat_eq p) es) ≡ is_some (lookup (nat_eq p) es)
entry_if_found p [] = refl
entry_if_found p (e ∷ es) = (elim (nat_eq p e.0) as (λ b. nat_eq p e.0 ≡ b → is_some (lookup_entry (nat_eq p) (e ∷ es)) ≡ is_some (lookup (nat_eq p) (e ∷ es))) [
  | true ↦ λ t. rw t refl
  | false ↦ λ t. rw t (entry_if_found p es)
]) refl

pub keys-remove : {V : Type 0} → (p : ℕ) (es : List (ℕ × V)) → keys_of (remove_entry (nat_eq p) es) ≡ without p (keys_of es)
keys-remove p [] = refl
keys-remove p (e ∷ es) = (elim (nat_eq p e.0) as (λ b. nat_eq p e.0 ≡ b → keys_of (remove_entry (nat_eq p) (e ∷ es)) ≡ without p (keys_of (e ∷ es))) [
  | true ↦ λ t. rw t refl
  | false ↦ λ t. rw t (ap (λ ks. e.0 ∷ ks) (keys-remove p es))
]) refl

pub without-absent : (p : ℕ) (ks : List ℕ) → list_any (nat_eq p) ks ≡ false → without p ks ≡ ks
without-absent p [] h = refl
without-absent p (k ∷ ks) h = (elim (nat_eq p k) as (λ b. nat_eq p k ≡ b → without p (k ∷ ks) ≡ k ∷ ks) [
  | true ↦ λ t. let bad = rw t at h in cc
  | false ↦ λ t. rw t (ap (λ xs. k ∷ xs) (without-absent p ks (rw t at h)))
]) refl

length-without : (p : ℕ) (ks : List ℕ) → list_any (nat_eq p) ks ≡ true → 1 + length (without p ks) ≡ length ks
length-without p [] h = cc
length-without p (k ∷ ks) h = (elim (nat_eq p k) as (λ b. nat_eq p k ≡ b → 1 + length (without p (k ∷ ks)) ≡ length (k ∷ ks)) [
  | true ↦ λ t. rw t (grind arith)
  | false ↦ λ t. let rest = length-without p ks (rw t at h) in rw t (grind (arith, rest))
]) refl

found_key : {V : Type 0} → (p : ℕ) (es : List (ℕ × V)) (e : ℕ × V) → lookup_entry (nat_eq p) es ≡ Some e → nat_eq p e.0 ≡ true
found_key p [] e h = cc
found_key p (f ∷ es) e h = (elim (nat_eq p f.0) as (λ b. nat_eq p f.0 ≡ b → nat_eq p e.0 ≡ true) [
  | true ↦ λ t. let h' = rw t at h in let same : f ≡ e = cc in rw (← same) t
  | false ↦ λ t. found_key p es e (rw t at h)
]) refl

promoted_at : {V : Type 0} → (p cap : ℕ) (es : List (ℕ × V)) (o : Option (ℕ × V)) → lookup_entry (nat_eq p) es ≡ o → is_some o ≡ true → length es ≤ cap
    → keys_of (option_map_or (λ e. e ∷ remove_entry (nat_eq p) es) o es) ≡ touched p cap (keys_of es)
promoted_at p cap es None h found fits = cc
promoted_at p cap es (Some e) h found fits =
    let key : p ≡ e.0 = grind (arith, found_key p es e h) in
    let there : list_any (nat_eq p) (keys_of es) ≡ true = sym (any_if_found p es) ∙ sym (entry_if_found p es) ∙ ap is_some h in
    let size : suc (length (without p (keys_of es))) ≤ cap = omega (arith, length-without p (keys_of es) there, length-keys_of es, fits) in
    rw (← key, keys-remove p es) (sym (take_all cap (p ∷ without p (keys_of es)) size))

pub keys-promoted : {V : Type 0} → (p cap : ℕ) (es : List (ℕ × V)) → is_some (lookup (nat_eq p) es) ≡ true → length es ≤ cap → keys_of (promoted (nat_eq p) es) ≡ touched p cap (keys_of es)
keys-promoted p cap es found fits = promoted_at p cap es (lookup_entry (nat_eq p) es) refl (entry_if_found p es ∙ found) fits

none_if : {X : Type 0} (o : Option X) → is_some o ≡ false → o ≡ None
none_if None h = refl
none_if (Some x) h = cc

pub no_entry : {V : Type 0} → (p : ℕ) (es : List (ℕ × V)) → is_some (lookup (nat_eq p) es) ≡ false → lookup_entry (nat_eq p) es ≡ None
no_entry p es none = none_if _ (entry_if_found p es ∙ none)

pub promoted-absent : {V : Type 0} → (p : ℕ) (es : List (ℕ × V)) → is_some (lookup (nat_eq p) es) ≡ false → promoted (nat_eq p) es ≡ es
promoted-absent p es none = rw (no_entry p es none) refl

pub keys-put : {V : Type 0} → (p : ℕ) (v : V) (cap : ℕ) (es : List (ℕ × V)) → is_some (lookup (nat_eq p) es) ≡ false → 0 < cap
    → keys_of (put_entries nat_eq (lru_cache es cap) p v) ≡ touched p cap (keys_of es)
keys-put p v (suc n) es none room =
    let less : suc n - 1 ≡ n = omega arith in
    rw (no_entry p es none, without-absent p (keys_of es) (sym (any_if_found p es) ∙ none), less) (ap (λ ks. p ∷ ks) (sym (take-map (λ e. e.0) n es)))
keys-put p v zero es none room = absurd (omega (arith, room))

-- the keys after a look-up
pub keys-looked : {V : Type 0} → (p cap : ℕ) (es : List (ℕ × V)) → length es ≤ cap
    → keys_of (promoted (nat_eq p) es) ≡ cond (list_any (nat_eq p) (keys_of es)) (touched p cap (keys_of es)) (keys_of es)
keys-looked p cap es fits =
    (elim (list_any (nat_eq p) (keys_of es)) as
    (λ b. list_any (nat_eq p) (keys_of es) ≡ b → keys_of (promoted (nat_eq p) es) ≡ cond b (touched p cap (keys_of es)) (keys_of es)) [
      | true ↦ λ t. keys-promoted p cap es (any_if_found p es ∙ t) fits
      | false ↦ λ t. ap keys_of (promoted-absent p es (any_if_found p es ∙ t))
    ]) refl

-- whether a look-up finds it
pub looked : {V X : Type 0} → (f : V → X) (p : ℕ) (es : List (ℕ × V)) (o : Option V) → option_map f o ≡ option_map f (lookup (nat_eq p) es) → is_some o ≡ list_any (nat_eq p) (keys_of es)
looked f p es o e = some_map f o ∙ ap is_some e ∙ sym (some_map f (lookup (nat_eq p) es)) ∙ any_if_found p es
  where
    some_map : {V X : Type 0} → (f : V → X) (o : Option V) → is_some o ≡ is_some (option_map f o)
    some_map f None = refl
    some_map f (Some x) = refl

-- the keys after a `put` of a key that was not there
pub put_keys : {V : Type 0} → (p : ℕ) (v : V) (cap : ℕ) (es : List (ℕ × V)) → list_any (nat_eq p) (keys_of es) ≡ false → 0 < cap
    → keys_of (put_entries nat_eq (lru_cache es cap) p v) ≡ touched p cap (keys_of es)
put_keys p v cap es none room = keys-put p v cap es (any_if_found p es ∙ none) room
