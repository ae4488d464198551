-- Where nothing refuses a copy, each cause is absent of each of its tables.
use Rattle.std.proofs.Common.{◌≡◌, ℕ, List, [], ◌∷◌, Bool, true, false, Option, Some, None, Result, Ok, Err, refl}
use Rattle.hq_base.specs.Lists.{Each}
use Rattle.hq_model.specs.Meta.{MetaTree}
use Rattle.hq_model.specs.Permission.{Permission}
use Rattle.hq_model.specs.Schema.{Schema, schema_of}
use Rattle.hq_model.specs.Seen.{Sees}
use Rattle.hq_model.specs.declared.bind.BindRefusal.{BindRefusal}
use Rattle.hq_model.specs.declared.role.Role.{Role}
use Rattle.hq_model.specs.declared.session.Var.{Var}
use Rattle.hq_copy_definition.specs.Copied.{unless}
use Rattle.hq_copy_definition.specs.Metadata.{copied_meta}
use Rattle.hq_copy_definition.specs.Refusals.{or_else, first_of, refused_if, unbound, filter_refusal, own_name_refusal, schema_name_refusal, masked_key_refusal, width_refusal, file_refusal, copy_refusal}
use Rattle.hq_copy_definition.specs.Sources.{Source, sources}
use Rattle.hq_copy_definition.specs.Tables.{copied_tables}
use Rattle.hq_copy_definition.specs.declared.refusal.CopyRefusal.{CopyRefusal}

pub neither : (a b : Option CopyRefusal) → or_else a b ≡ None → (a ≡ None) × (b ≡ None)
neither None b h = (refl, h)
neither (Some e) b h = cc

pub none_of : {A : Type 0} (f : A → Option CopyRefusal) (xs : List A) → first_of f xs ≡ None → Each (λ x. f x ≡ None) xs
none_of f [] h = tt
none_of f (x ∷ xs) h = let both = neither (f x) (first_of f xs) h in (both.0, none_of f xs both.1)

pub not_refused : (b : Bool) (e : CopyRefusal) → refused_if b e ≡ None → b ≡ false
not_refused true e h = cc
not_refused false e h = refl

pub binds : (r : Result Permission BindRefusal) → unbound r ≡ None → (q : Permission) × (r ≡ Ok q)
binds (Ok q) h = (q, refl)
binds (Err e) h = cc

-- a value that is given was not refused
pub given : {X : Type 0} (r : Option CopyRefusal) (x y : X) → unless r x ≡ Ok y → (r ≡ None) × (x ≡ y)
given None x y h = let same : x ≡ y = cc in (refl, same)
given (Some e) x y h = cc

-- no cause is there
pub record NotRefused (role : Role) (m : MetaTree) (s : Schema) (vars : List Var) (S : Sees ℕ) : Type 0 where
  pub bind : Each (λ o. filter_refusal s vars o ≡ None) (sources role m)
  pub names : Each (λ o. own_name_refusal role m s o ≡ None) (sources role m)
  pub schema : schema_name_refusal (schema_of (copied_tables role m s) (copied_meta role m s)) (copied_meta role m s) ≡ None
  pub keys : Each (λ o. masked_key_refusal role m s o ≡ None) (sources role m)
  pub widths : Each (λ o. width_refusal role m s o ≡ None) (sources role m)
  pub files : Each (λ o. file_refusal role m s S o ≡ None) (sources role m)

pub causes_absent : (role : Role) (m : MetaTree) (s : Schema) (vars : List Var) (S : Sees ℕ) → copy_refusal role m s vars S ≡ None → NotRefused role m s vars S
causes_absent role m s vars S h =
    let os : List Source = sources role m in
    let first = neither _ _ h in
    let second = neither _ _ first.1 in
    let named = neither _ _ second.0 in
    let third = neither _ _ second.1 in
    let fourth = neither _ _ third.1 in record {
      bind = none_of (filter_refusal s vars) os first.0;
      names = none_of (own_name_refusal role m s) os named.0;
      schema = named.1;
      keys = none_of (masked_key_refusal role m s) os third.0;
      widths = none_of (width_refusal role m s) os fourth.0;
      files = none_of (file_refusal role m s S) os fourth.1;
    }
