-- The values of arguments that are noted one after the other.
use Rattle.std.proofs.Common.{◌≡◌, ◌∙◌, ap, sym, refl, ℕ, List, Bool, true, false, cond, Option, Some, None, bytes_eq}
use Rattle.std.specs.Prelude.{is_some, option_map}
use Rattle.std.specs.Option.{option_or}
use Rattle.hq_gql_tree.specs.Values.{ArgumentTree}
use Rattle.hq_overlap_sets.specs.Literals.{BareTree, bare}
use Rattle.hq_overlap_sets.proofs.ValueLemmas.{bytes_true}

-- none behind changes nothing
pub option_or_none : {X : Type 0} (o : Option X) → option_or o None ≡ o
option_or_none None = refl
option_or_none (Some x) = refl

nothing : {X : Type 0} (o : Option X) → is_some o ≡ false → o ≡ None
nothing None h = refl
nothing (Some x) h = absurd (cc)

kept : {X Y : Type 0} (f : X → Y) (o : Option X) (last : Option Y) → is_some o ≡ true → option_map f o ≡ option_or (option_map f o) last
kept f None last h = absurd (cc)
kept f (Some x) last h = refl

-- a name that was not noted, and one that was
module _ {X Y : Type 0} (f : X → Y) (look : List ℕ → Option X) (name q : List ℕ) (x : X) where
  pub new_name : is_some (look name) ≡ false → (b : Bool) → bytes_eq name q ≡ b
      → option_map f (cond b (Some x) (look q)) ≡ option_or (option_map f (look q)) (cond b (Some (f x)) None)
  new_name none true e =
      let absent : look q ≡ None = ap look (sym (bytes_true name q e)) ∙ nothing (look name) none in
      sym (ap (λ o. option_or (option_map f o) (Some (f x))) absent)
  new_name none false e = sym (option_or_none (option_map f (look q)))

  pub old_name : is_some (look name) ≡ true → (b : Bool) → bytes_eq name q ≡ b
      → option_map f (look q) ≡ option_or (option_map f (look q)) (cond b (Some (f x)) None)
  old_name some true e = kept f (look q) (Some (f x)) (ap (λ n. is_some (look n)) (sym (bytes_true name q e)) ∙ some)
  old_name some false e = sym (option_or_none (option_map f (look q)))

-- what is noted, then an argument, then the rest
pub noted_then : (old : Option BareTree) (b : Bool) (a : ArgumentTree) (o : Option ArgumentTree)
    → option_or (option_or old (cond b (Some (bare a.value.value)) None)) (option_map (λ x. bare x.value.value) o)
    ≡ option_or old (option_map (λ x. bare x.value.value) (cond b (Some a) o))
noted_then None true a o = refl
noted_then None false a o = refl
noted_then (Some x) b a o = refl
