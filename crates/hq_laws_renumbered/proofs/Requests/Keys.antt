-- The values of a key by which a row is looked up are the same in other numbers.
use Rattle.std.proofs.Common.{◌≡◌, ◌∙◌, refl, ap, ap₂, ℕ, List, [], ◌∷◌, map, Bool, true, false, cond, ◌==◌, Option, Some, None, ok_or, option_map, option_and_then}
use Rattle.hq_base.specs.Due.{and_then}
use Rattle.hq_base.specs.Lists.{Each}
use Rattle.hq_model.specs.Schema.{Schema, table, column}
use Rattle.hq_gql_tree.specs.Values.{ArgumentTree}
use Rattle.hq_gql_tree.specs.declared.rule.RuleId.TheVariants.{RequiredArguments}
use Rattle.hq_schema.specs.Schema.{ArgTree, TypeRefTree, SchemaTree}
use Rattle.hq_schema.specs.declared.origin.ArgOrigin.{ArgOrigin}
use Rattle.hq_schema.specs.declared.origin.ArgOrigin.TheVariants as stands
use Rattle.hq_schema_roles.specs.Access.{Access}
use Rattle.hq_schema_roles.specs.Leads.{where_holds, plain, Reaches, ArgFits, key_target}
use Rattle.hq_request_arguments.specs.Context.{Context}
use Rattle.hq_request_arguments.specs.Keys.{is_for, key_argument, key_value, given_for, part_due, key_due}
use Rattle.hq_request_arguments.specs.Reading.{each, Given, argument_named, given}
use Rattle.hq_request_arguments.specs.declared.refusal.ArgRefusal.TheVariants.{Rule}
use Rattle.hq_request_coerce.specs.Variables.{VarTree}
use Rattle.hq_laws_renumbered.specs.Resolving.Renumbering.{Renumbering}
use Rattle.hq_laws_renumbered.specs.Schemas.SchemaOver.{arg_origin_over, arg_over, schema_over}
use Rattle.hq_laws_renumbered.specs.Requests.Alike.{TablesAlike}
use Rattle.hq_laws_renumbered.specs.Requests.OfRole.{IsKeyed, IsOfRole}
use Rattle.hq_laws_renumbered.proofs.Requests.Given.{given_over, context, one_given}
use Rattle.hq_laws_renumbered.proofs.Requests.Items.{same_test}
use Rattle.hq_laws_renumbered.proofs.Requests.Steps.{each_images}

module _ (s z : Schema) (n : Renumbering) (a : Access) (r : SchemaTree) (of_role : IsOfRole s a r) (alike : TablesAlike s z n a) (vars : List VarTree) (u : ℕ) (seen : a.seen u ≡ true) where
  abbrev c : Context
  c = context vars r s

  abbrev d : Context
  d = context vars (schema_over n r) z

  -- an argument stands for a column where it does in other numbers
  for_over : (k : ℕ) → a.column u k ≡ true → (ty : TypeRefTree) (o : ArgOrigin) → Reaches r.types ty (key_target a u o) → is_for (n.column u k) (arg_origin_over n u o) ≡ is_for k o
  for_over k p ty (stands.Column e) at = go (a.column u e) refl at
    where
      go : (b : Bool) → a.column u e ≡ b → Reaches r.types ty (where_holds b plain) → (n.column u e == n.column u k) ≡ (e == k)
      go true permitted at = same_test (λ i. a.column u i ≡ true) (n.column u) (alike.columns u) e k permitted p
      go false permitted at = absurd at
  for_over k p ty o at = absurd at

  argument_over : (k : ℕ) → a.column u k ≡ true → (args : List ArgTree) → Each (ArgFits r.types (key_target a u)) args
      → key_argument (map (arg_over n u) args) (n.column u k) ≡ option_map (arg_over n u) (key_argument args k)
  argument_over k p [] h = refl
  argument_over k p (x ∷ args) h =
      let later = argument_over k p args h.1 in
      let go : (b : Bool)
      → cond b (Some (arg_over n u x)) (key_argument (map (arg_over n u) args) (n.column u k))
      ≡ option_map (arg_over n u) (cond b (Some x) (key_argument args k)) =
      elim [ true ↦ refl | false ↦ later ] in
      ap (λ b. cond b (Some (arg_over n u x)) (key_argument (map (arg_over n u) args) (n.column u k))) (for_over k p x.ty x.origin h.0.reaches) ∙ go (is_for k x.origin)

  given_for_over : (k : ℕ) → a.column u k ≡ true → (args : List ArgTree) → Each (ArgFits r.types (key_target a u)) args → (xs : List ArgumentTree)
      → given_for d (map (arg_over n u) args) xs (n.column u k) ≡ option_map (given_over n u) (given_for c args xs k)
  given_for_over k p args h xs = ap (option_and_then (λ (x : ArgTree). option_and_then (given d x) (argument_named xs x.name))) (argument_over k p args h) ∙ go (key_argument args k)
    where
      one : (x : ArgTree) (o : Option ArgumentTree) → option_and_then (given d (arg_over n u x)) o ≡ option_map (given_over n u) (option_and_then (given c x) o)
      one x None = refl
      one x (Some y) = one_given n vars r (schema_over n r) s z u x y

      go : (o : Option ArgTree) → option_and_then (λ (x : ArgTree). option_and_then (given d x) (argument_named xs x.name)) (option_map (arg_over n u) o)
          ≡ option_map (given_over n u) (option_and_then (λ (x : ArgTree). option_and_then (given c x) (argument_named xs x.name)) o)
      go None = refl
      go (Some x) = one x (argument_named xs x.name)

  part_over : (args : List ArgTree) → Each (ArgFits r.types (key_target a u)) args → (xs : List ArgumentTree) (k : ℕ) → a.column u k ≡ true
      → part_due d (map (arg_over n u) args) xs (n.table u) (n.column u k) ≡ part_due c args xs u k
  part_over args h xs k p =
      ap₂ (λ ty o. and_then (λ (g : Given). key_value ty g.value) (ok_or o (Rule RequiredArguments))) (alike.types u k p) (given_for_over k p args h xs) ∙ go (given_for c args xs k)
    where
      go : (o : Option Given) → and_then (λ (g : Given). key_value (column s u k).ty g.value) (ok_or (option_map (given_over n u) o) (Rule RequiredArguments))
          ≡ and_then (λ (g : Given). key_value (column s u k).ty g.value) (ok_or o (Rule RequiredArguments))
      go None = refl
      go (Some g) = refl

  pub key_over : IsKeyed s a u → (args : List ArgTree) → Each (ArgFits r.types (key_target a u)) args → (xs : List ArgumentTree)
      → key_due d (map (arg_over n u) args) xs (n.table u) ≡ key_due c args xs u
  key_over keyed args h xs =
      ap (each (part_due d (map (arg_over n u) args) xs (n.table u))) (alike.keys u seen keyed)
      ∙ each_images (λ k. a.column u k ≡ true) (n.column u) (part_due c args xs u) (part_due d (map (arg_over n u) args) xs (n.table u)) (part_over args h xs) (table s u).key keyed
