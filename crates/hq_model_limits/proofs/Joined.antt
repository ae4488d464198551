-- Limits of roles together: neither their order nor how often a role comes changes them.
use Rattle.std.proofs.Common.{◌≡◌, ◌∙◌, refl, sym, ap, ℕ, max, List, [], ◌∷◌, filter, Bool, true, false, not, cond, Option, Some, None, bytes_eq, arith}
use Rattle.hq_base.specs.Lists.{firsts}
use Rattle.hq_model.proofs.Names.{names_equal}
use Rattle.hq_model.specs.Meta.{TrackedTree}
use Rattle.hq_model.specs.Permission.{larger, own_permission}
use Rattle.hq_model_limits.specs.Limits.{limit_under, limits_of, together}

max_assoc : (a b c : ℕ) → max (max a b) c ≡ max a (max b c)
max_assoc a b c = omega arith

max_swap : (a b : ℕ) → max a b ≡ max b a
max_swap a b = omega arith

max_same : (a : ℕ) → max a a ≡ a
max_same a = omega arith

larger_assoc : (a b c : Option ℕ) → larger (larger a b) c ≡ larger a (larger b c)
larger_assoc (Some a) (Some b) (Some c) = ap Some (max_assoc a b c)
larger_assoc (Some a) (Some b) None = refl
larger_assoc (Some a) None c = refl
larger_assoc None b c = refl

larger_swap : (a b : Option ℕ) → larger a b ≡ larger b a
larger_swap (Some a) (Some b) = ap Some (max_swap a b)
larger_swap (Some a) None = refl
larger_swap None (Some b) = refl
larger_swap None None = refl

larger_same : (a : Option ℕ) → larger a a ≡ a
larger_same (Some a) = ap Some (max_same a)
larger_same None = refl

pub together_assoc : (a b c : Option (Option ℕ)) → together (together a b) c ≡ together a (together b c)
together_assoc None b c = refl
together_assoc (Some a) None c = refl
together_assoc (Some a) (Some b) None = refl
together_assoc (Some a) (Some b) (Some c) = ap Some (larger_assoc a b c)

together_swap : (a b : Option (Option ℕ)) → together a b ≡ together b a
together_swap None None = refl
together_swap None (Some b) = refl
together_swap (Some a) None = refl
together_swap (Some a) (Some b) = ap Some (larger_swap a b)

together_same : (a : Option (Option ℕ)) → together a a ≡ a
together_same None = refl
together_same (Some a) = ap Some (larger_same a)

pub with_none : (a : Option (Option ℕ)) → together a None ≡ a
with_none None = refl
with_none (Some a) = refl

-- ---- a role that comes again

module _ (k : TrackedTree) where
  abbrev own : List ℕ → Option (Option ℕ)
  own r = limit_under (own_permission k r)

  -- beside a role it makes no difference whether it comes again
  not_again : (r : List ℕ) (rs : List (List ℕ)) → together (own r) (limits_of k (filter (λ q. not (bytes_eq r q)) rs)) ≡ together (own r) (limits_of k rs)
  not_again r [] = refl
  not_again r (q ∷ rs) =
      let rest = limits_of k (filter (λ p. not (bytes_eq r p)) rs) in
      let by : (b : Bool) → bytes_eq r q ≡ b
      → together (own r) (limits_of k (cond (not b) (q ∷ filter (λ p. not (bytes_eq r p)) rs) (filter (λ p. not (bytes_eq r p)) rs))) ≡ together (own r) (together (own q) (limits_of k rs)) = elim [
        | true ↦ λ same.
            not_again r rs ∙ ap (λ a. together a (limits_of k rs)) (sym (together_same (own r))) ∙ together_assoc (own r) (own r) (limits_of k rs)
            ∙ ap (λ p. together (own r) (together (own p) (limits_of k rs))) (names_equal r q same)
        | false ↦ λ same.
            sym (together_assoc (own r) (own q) rest) ∙ ap (λ a. together a rest) (together_swap (own r) (own q)) ∙ together_assoc (own q) (own r) rest
            ∙ ap (together (own q)) (not_again r rs) ∙ sym (together_assoc (own q) (own r) (limits_of k rs))
            ∙ ap (λ a. together a (limits_of k rs)) (together_swap (own q) (own r)) ∙ together_assoc (own r) (own q) (limits_of k rs)
      ] in
      by (bytes_eq r q) refl

  -- names as they come have the limit of the different ones
  pub once : (rs : List (List ℕ)) → limits_of k (firsts bytes_eq rs) ≡ limits_of k rs
  once [] = refl
  once (r ∷ rs) = not_again r (firsts bytes_eq rs) ∙ ap (together (own r)) (once rs)
