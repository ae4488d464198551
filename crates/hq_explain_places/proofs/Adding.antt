-- Pieces that are added one after the other.
use Rattle.std.proofs.Common.{◌≡◌, ℕ, List, [], ◌++◌, Option, Some, None, option_map, refl, ap, sym, ◌∙◌, inl, inr, subst, append_assoc, append-nil}
use Rattle.std.specs.Prelude.{◌⊎◌}
use Rattle.hq_explain_places.specs.Words.{Adds}

-- a text to which nothing was added
pub adds_nothing : (words : Option (List ℕ)) → Adds words words []
adds_nothing None = record { added = inl refl }
adds_nothing (Some text) = record { added = inr (ap Some (sym (append-nil text))) }

joined : (old : Option (List ℕ)) (first second : List ℕ) → option_map (λ text. text ++ second) (option_map (λ text. text ++ first) old) ≡ option_map (λ text. text ++ (first ++ second)) old
joined None first second = refl
joined (Some text) first second = ap Some (append_assoc text first second)

added_to : (old between new : Option (List ℕ)) (first second : List ℕ)
    → (between ≡ None) ⊎ (between ≡ option_map (λ text. text ++ first) old) → new ≡ option_map (λ text. text ++ second) between → Adds old new (first ++ second)
added_to old between new first second (inl wanting) later = record { added = inl cc }
added_to old between new first second (inr before) later = record { added = inr (later ∙ (ap (option_map (λ text. text ++ second)) before ∙ joined old first second)) }

added_then : (old between new : Option (List ℕ)) (first second : List ℕ)
    → (between ≡ None) ⊎ (between ≡ option_map (λ text. text ++ first) old) → (new ≡ None) ⊎ (new ≡ option_map (λ text. text ++ second) between) → Adds old new (first ++ second)
added_then old between new first second before (inl wanting) = record { added = inl wanting }
added_then old between new first second before (inr later) = added_to old between new first second before later

-- a piece and then another one
pub adds_then : {old between new : Option (List ℕ)} {first second : List ℕ} → Adds old between first → Adds between new second → Adds old new (first ++ second)
adds_then {old} {between} {new} {first} {second} before later = added_then old between new first second before.added later.added

-- the same piece, written in another way
pub adds_so : {old new : Option (List ℕ)} {first second : List ℕ} → Adds old new first → first ≡ second → Adds old new second
adds_so {old} {new} {first} {second} h e = subst (Adds old new) e h
