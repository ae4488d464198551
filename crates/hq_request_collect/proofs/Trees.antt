-- Trees of collected fields.
use Rattle.std.proofs.Common.{◌≡◌, ◌∙◌, ◌≤◌, arith, false, refl, ap, suc, length, List, [], ◌∷◌, ◌++◌, map}
use Rattle.hq_request_collect.specs.Keys.{keys_of}
use Rattle.hq_request_collect.specs.Tree.{CollectedTrees, no_collected, collected, is_empty}
use Rattle.hq_request_collect.specs.TreeSeen.{FieldSeen, trees_of, collected_step, collected_view, parts_seen}
use Rattle.hq_request_collect.specs.declared.tree.CollectedField.{CollectedField, fold_out-CollectedField}
use Rattle.std.proofs.lemmas.List.{map-append}

-- fields, and others behind them
abbrev pub behind : List FieldSeen → CollectedTrees → CollectedTrees
behind [] ts = ts
behind (f ∷ fs) ts = collected f.key f.head f.below (behind fs ts)

pub behind_none : (fs : List FieldSeen) → behind fs no_collected ≡ trees_of fs
behind_none [] = refl
behind_none (f ∷ fs) = ap (collected f.key f.head f.below) (behind_none fs)

pub behind_more : (fs : List FieldSeen) (f : FieldSeen) (ts : CollectedTrees) → behind (fs ++ f ∷ []) ts ≡ behind fs (collected f.key f.head f.below ts)
behind_more [] f ts = refl
behind_more (g ∷ fs) f ts = ap (collected g.key g.head g.below) (behind_more fs f ts)

-- one more field behind those that are done
pub grown : (done more : List CollectedField) (n : CollectedField) (s : FieldSeen) (rest : CollectedTrees) → more ≡ done ++ n ∷ [] → collected_view n ≡ s
    → behind (map collected_view more) rest ≡ behind (map collected_view done) (collected s.key s.head s.below rest)
grown done more n s rest longer is =
    ap (λ fs. behind fs rest) (ap (map collected_view) longer ∙ map-append collected_view done (n ∷ []) ∙ ap (λ x. map collected_view done ++ x ∷ []) is)
    ∙ behind_more (map collected_view done) s rest

-- as many response keys as fields
pub many_keys : (fs : List CollectedField) → length (keys_of (trees_of (map collected_view fs))) ≡ length fs
many_keys [] = refl
many_keys (f ∷ fs) = ap suc (many_keys fs)

-- a collected field by its parts
pub view_out : (f : CollectedField) → collected_view f ≡ parts_seen f
view_out f = fold_out-CollectedField FieldSeen collected_step f

-- no fields stand where the list is empty, and some where it is not
pub some_there : (fs : List CollectedField) → 1 ≤ length fs → false ≡ is_empty (trees_of (map collected_view fs))
some_there [] more = absurd (omega (arith, more))
some_there (f ∷ fs) more = refl
