-- Aliases put in front of what is in scope.
use Rattle.std.proofs.Common.{◌≡◌, refl, sym, ◌∙◌, ap, List, [], ◌∷◌, ◌++◌, map, ℕ, suc, ◌-◌, ◌<◌, ◌≤◌, take, length, get_or, arith}
use Rattle.std.proofs.Math.Seq.{take-suc}
use Rattle.std.proofs.lemmas.List.{map-append}
use Rattle.hq_sql_tree.specs.WellFormed.{Aliases, Names}
use Rattle.hq_sql_check.specs.declared.scope.Alias.{Alias}
use Rattle.hq_sql_check.specs.Scopes.{alias_view, stacked}

-- the latest alias stands in front
pub stacked_last : (aliases outer : Aliases) (a : List ℕ × Names) → stacked (aliases ++ a ∷ []) outer ≡ a ∷ stacked aliases outer
stacked_last [] outer a = refl
stacked_last (b ∷ aliases) outer a = stacked_last aliases (b ∷ outer) a

-- of the first i aliases the last one stands in front
pub last_front : (all : List Alias) (i : ℕ) (x : Alias) (outer : Aliases) → 0 < i → i ≤ length all → x ≡ get_or all (i - 1) x
    → stacked (map alias_view (take i all)) outer ≡ alias_view x ∷ stacked (map alias_view (take (i - 1) all)) outer
last_front all i x outer some within is =
    let one : i ≡ suc (i - 1) = omega arith in
    let below : i - 1 < length all = omega arith in
    let front : take i all ≡ take (i - 1) all ++ x ∷ [] = ap (λ n. take n all) one ∙ (take-suc all (i - 1) x below ∙ ap (λ y. take (i - 1) all ++ y ∷ []) (sym is)) in
    ap (λ xs. stacked (map alias_view xs) outer) front
    ∙
    (ap (λ xs. stacked xs outer) (map-append alias_view (take (i - 1) all) (x ∷ []))
    ∙ stacked_last (map alias_view (take (i - 1) all)) outer (alias_view x))
