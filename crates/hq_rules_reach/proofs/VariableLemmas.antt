-- The rules of variables over definitions with the same members, and over summaries of uses.
use Rattle.std.proofs.Common.{◌≡◌, ◌∙◌, ap, refl, sym, ℕ, List, Bool, false, Option, Some, None, bytes_eq}
use Rattle.std.specs.Prelude.{is_none, option_and_then, slice_get}
use Rattle.std.specs.List.{list_any}
use mathlib.Core.Path.{fun_ext}
use Rattle.hq_schema.specs.Schema.{SchemaTree}
use Rattle.hq_gql_tree.specs.Documents.{VarDefTree}
use Rattle.hq_gql_nodes.specs.Known.{PlaceTree, resolved}
use Rattle.hq_gql_nodes.specs.Least.{at_if, least_of}
use Rattle.hq_rules_reach.specs.Uses.{UseTree, uses_at}
use Rattle.hq_rules_reach.specs.Summaries.{AreSummaries}
use Rattle.hq_rules_reach.specs.Variables.{variable_named, undefined_use, wrong_use, is_wrong_type, has_default, unused_by, undefined_in, unused_in, wrong_in}
use Rattle.hq_rules_reach.proofs.SameMembers.{SameMembers, least_same, any_same}

pub undefined_same : (all : List (List (UseTree (List ℕ)))) (vars : List VarDefTree) (xs ys : List ℕ) → SameMembers xs ys → undefined_in all vars xs ≡ undefined_in all vars ys
undefined_same all vars xs ys same = least_same (λ j. least_of (undefined_use (variable_named vars)) (uses_at all j)) xs ys same

pub wrong_same : (s : SchemaTree) (all : List (List (UseTree (List ℕ)))) (vars : List VarDefTree) (xs ys : List ℕ) → SameMembers xs ys → wrong_in s all vars xs ≡ wrong_in s all vars ys
wrong_same s all vars xs ys same = least_same (λ j. least_of (wrong_use s vars (variable_named vars)) (uses_at all j)) xs ys same

pub unused_same : (all : List (List (UseTree (List ℕ)))) (vars : List VarDefTree) (xs ys : List ℕ) → SameMembers xs ys → unused_in all vars xs ≡ unused_in all vars ys
unused_same all vars xs ys same =
    ap (λ (t : List ℕ → Bool). least_of (unused_by t) vars)
    (fun_ext (λ (name : List ℕ). any_same (λ j. list_any (λ u. bytes_eq u.name name) (uses_at all j)) xs ys same))

-- ---- over summaries

pub undefined_summed : (some all : List (List (UseTree (List ℕ)))) → AreSummaries some all → undefined_in some ≡ undefined_in all
undefined_summed some all h = fun_ext (λ (vars : List VarDefTree). fun_ext (λ (definitions : List ℕ).
    ap (λ (t : ℕ → Option ℕ). least_of t definitions) (fun_ext (λ (j : ℕ). (h j).least (λ name place. is_none (variable_named vars name))))))

pub unused_summed : (some all : List (List (UseTree (List ℕ)))) → AreSummaries some all → unused_in some ≡ unused_in all
unused_summed some all h = fun_ext (λ (vars : List VarDefTree). fun_ext (λ (definitions : List ℕ).
    ap (λ (t : List ℕ → Bool). least_of (unused_by t) vars)
    (fun_ext (λ (name : List ℕ). ap (λ (t : ℕ → Bool). list_any t definitions) (fun_ext (λ (j : ℕ). (h j).names (λ n. bytes_eq n name)))))))

-- whether a use at this place is of a wrong type, by its variable
abbrev is_wrong_for : SchemaTree → Option VarDefTree → Option PlaceTree → Bool
is_wrong_for s None place = false
is_wrong_for s (Some v) place = is_wrong_type (resolved s v.ty) (has_default v.default) place

place_for : (s : SchemaTree) (v : Option VarDefTree) (u : UseTree (List ℕ))
    → option_and_then (λ v. at_if (is_wrong_type (resolved s v.ty) (has_default v.default) u.place) u.at) v
    ≡ at_if (is_wrong_for s v u.place) u.at
place_for s None u = refl
place_for s (Some v) u = refl

wrong_by_name : (s : SchemaTree) (vars : List VarDefTree)
    → wrong_use s vars (variable_named vars)
    ≡ (λ u. at_if (is_wrong_for s (option_and_then (slice_get vars) (variable_named vars u.name)) u.place) u.at)
wrong_by_name s vars = fun_ext (λ (u : UseTree (List ℕ)). place_for s (option_and_then (slice_get vars) (variable_named vars u.name)) u)

pub wrong_summed : (s : SchemaTree) (some all : List (List (UseTree (List ℕ)))) → AreSummaries some all → wrong_in s some ≡ wrong_in s all
wrong_summed s some all h = fun_ext (λ (vars : List VarDefTree). fun_ext (λ (definitions : List ℕ).
    ap (λ (t : ℕ → Option ℕ). least_of t definitions) (fun_ext (λ (j : ℕ).
    ap (λ (f : UseTree (List ℕ) → Option ℕ). least_of f (uses_at some j)) (wrong_by_name s vars)
    ∙ (h j).least (λ name place. is_wrong_for s (option_and_then (slice_get vars) (variable_named vars name)) place)
    ∙ ap (λ (f : UseTree (List ℕ) → Option ℕ). least_of f (uses_at all j)) (sym (wrong_by_name s vars))))))
