-- Summaries of uses: of uses that are alike the first one stands for all.
use Rattle.std.proofs.Common.{◌≡◌, ◌∙◌, ap, sym, refl, ℕ, zero, suc, ◌+◌, ◌<◌, ◌≤◌, length, get_or, take, drop, map, List, [], ◌∷◌, ◌++◌, ◌||◌, Bool, true, false, Option, Some, None, option_map, subst, arith, Vec, Global}
use Rattle.std.proofs.lemmas.Grind.{common_steps}
use Rattle.std.proofs.lemmas.List.{take_more, map-append}
use Rattle.std.proofs.lemmas.List.Folds.{list_any-append}
use Rattle.std.specs.List.{list_any}
use Rattle.hq_schema.specs.Schema.{TypeRefTree, named, list_of, non_null}
use Rattle.hq_gql_nodes.specs.Known.{PlaceTree, place_view}
use Rattle.hq_gql_nodes.specs.Least.{earlier, at_if, least_of}
use Rattle.hq_gql_nodes.specs.declared.parts.Part.{Part}
use Rattle.hq_gql_nodes.specs.Nodes.{PartTree, part_view, node_view}
use Rattle.hq_gql_nodes.proofs.Lesser.{earlier_none, earlier_assoc}
use Rattle.hq_rules_reach.specs.declared.uses.Use.{Use}
use Rattle.hq_rules_reach.specs.Uses.{UseTree, use_view, number_view, uses_view, all_uses, uses_of}
use Rattle.hq_rules_reach.specs.Summaries.{is_same_type, IsLike, HasLike, IsSummary, AreSummaries, Ascends}
use Rattle.hq_rules_reach.specs.Fit.{IsAtMost}
use Rattle.std.proofs.lemmas.Bool.{eqb-true}

-- references that are told to be one are
pub same_type : (a b : TypeRefTree) → is_same_type a b ≡ true → a ≡ b
same_type (named a) (named b) h = ap named (eqb-true a b h)
same_type (named a) (list_of q) h = absurd (cc)
same_type (named a) (non_null q) h = absurd (cc)
same_type (list_of r) (named b) h = absurd (cc)
same_type (list_of r) (list_of q) h = ap list_of (same_type r q h)
same_type (list_of r) (non_null q) h = absurd (cc)
same_type (non_null r) (named b) h = absurd (cc)
same_type (non_null r) (list_of q) h = absurd (cc)
same_type (non_null r) (non_null q) h = ap non_null (same_type r q h)

-- ---- the least place of a list that grows at its end

pub least_of-append : {A : Type 0} (f : A → Option ℕ) (xs ys : List A) → least_of f (xs ++ ys) ≡ earlier (least_of f xs) (least_of f ys)
least_of-append f [] ys = refl
least_of-append f (x ∷ xs) ys = ap (earlier (f x)) (least_of-append f xs ys) ∙ sym (earlier_assoc (f x) (least_of f xs) (least_of f ys))

least_of-push : {A : Type 0} (f : A → Option ℕ) (xs : List A) (x : A) → least_of f (xs ++ x ∷ []) ≡ earlier (least_of f xs) (f x)
least_of-push f xs x = least_of-append f xs (x ∷ []) ∙ ap (earlier (least_of f xs)) (earlier_none (f x))

or_false : (b : Bool) → (b || false) ≡ b
or_false true = refl
or_false false = refl

list_any-push : {A : Type 0} (p : A → Bool) (xs : List A) (x : A) → list_any p (xs ++ x ∷ []) ≡ (list_any p xs || p x)
list_any-push p xs x = list_any-append p xs (x ∷ []) ∙ ap (λ b. list_any p xs || b) (or_false (p x))

-- ---- a use behind one that is like it

-- a place at or behind one that is told already adds nothing
told : (c : Bool) (a at : ℕ) (rest : Option ℕ) → a ≤ at → earlier (earlier (at_if c a) rest) (at_if c at) ≡ earlier (at_if c a) rest
told false a at rest h = earlier_none rest
told true a at None h = ap Some (omega arith)
told true a at (Some l) h = ap Some (omega arith)

or_told : (b rest : Bool) → ((b || rest) || b) ≡ (b || rest)
or_told true rest = refl
or_told false rest = or_false rest

or_apart : (a b c : Bool) → ((a || b) || c) ≡ (a || (b || c))
or_apart true b c = refl
or_apart false b c = refl

abbrev place_of : (List ℕ → Option PlaceTree → Bool) → UseTree (List ℕ) → Option ℕ
place_of is_wrong u = at_if (is_wrong u.name u.place) u.at

least_with_like : (is_wrong : List ℕ → Option PlaceTree → Bool) (us : List Use) (k : ℕ) (found : Use) → k < length us → IsLike (get_or us k found) found
    → earlier (least_of (place_of is_wrong) (map use_view us)) (place_of is_wrong (use_view found)) ≡ least_of (place_of is_wrong) (map use_view us)
least_with_like is_wrong [] k found below like = absurd (omega arith)
least_with_like is_wrong (u ∷ us) zero found below like =
    let rest = least_of (place_of is_wrong) (map use_view us) in
    let same : place_of is_wrong (use_view found) ≡ at_if (is_wrong u.name.now (option_map place_view u.place)) found.at =
    ap (λ (n : List ℕ). at_if (is_wrong n (option_map place_view found.place)) found.at) (sym like.name)
    ∙ ap (λ (p : Option PlaceTree). at_if (is_wrong u.name.now p) found.at) (sym like.place) in
    ap (earlier (earlier (place_of is_wrong (use_view u)) rest)) same
    ∙ told (is_wrong u.name.now (option_map place_view u.place)) u.at found.at rest like.at
least_with_like is_wrong (u ∷ us) (suc k) found below like =
    earlier_assoc (place_of is_wrong (use_view u)) (least_of (place_of is_wrong) (map use_view us)) (place_of is_wrong (use_view found))
    ∙ ap (earlier (place_of is_wrong (use_view u))) (least_with_like is_wrong us k found (omega arith) like)

any_with_like : (p : List ℕ → Bool) (us : List Use) (k : ℕ) (found : Use) → k < length us → IsLike (get_or us k found) found
    → (list_any (λ (u : UseTree (List ℕ)). p u.name) (map use_view us) || p found.name.now) ≡ list_any (λ (u : UseTree (List ℕ)). p u.name) (map use_view us)
any_with_like p [] k found below like = absurd (omega arith)
any_with_like p (u ∷ us) zero found below like =
    ap (λ (n : List ℕ). (p u.name.now || list_any (λ (u : UseTree (List ℕ)). p u.name) (map use_view us)) || p n) (sym like.name)
    ∙ or_told (p u.name.now) (list_any (λ (u : UseTree (List ℕ)). p u.name) (map use_view us))
any_with_like p (u ∷ us) (suc k) found below like =
    or_apart (p u.name.now) (list_any (λ (u : UseTree (List ℕ)). p u.name) (map use_view us)) (p found.name.now)
    ∙ ap (λ b. p u.name.now || b) (any_with_like p us k found (omega arith) like)

-- ---- summaries that grow

-- by a use that is kept, and by one that is like one in front
pub summary_push : (some all : List (UseTree (List ℕ))) (u : UseTree (List ℕ)) → IsSummary some all → IsSummary (some ++ u ∷ []) (all ++ u ∷ [])
summary_push some all u h = record {
  least = λ w. least_of-push (place_of w) some u ∙ ap (λ o. earlier o (place_of w u)) (h.least w) ∙ sym (least_of-push (place_of w) all u);
  names = λ p. list_any-push (λ (v : UseTree (List ℕ)). p v.name) some u ∙ ap (λ b. b || p u.name) (h.names p) ∙ sym (list_any-push (λ (v : UseTree (List ℕ)). p v.name) all u);
}

pub summary_pass : (uses : List Use) (all : List (UseTree (List ℕ))) (found : Use) → HasLike uses found → IsSummary (map use_view uses) all → IsSummary (map use_view uses) (all ++ use_view found ∷ [])
summary_pass uses all found like h = record {
  least =
      λ w. sym
      (least_of-push (place_of w) all (use_view found) ∙ ap (λ o. earlier o (place_of w (use_view found))) (sym (h.least w))
      ∙ least_with_like w uses like.index found like.below like.like);
  names =
      λ p. sym
      (list_any-push (λ (v : UseTree (List ℕ)). p v.name) all (use_view found) ∙ ap (λ b. b || p found.name.now) (sym (h.names p))
      ∙ any_with_like p uses like.index found like.below like.like);
}

-- ---- uses in the order of the text

-- what ascends does so from each of its uses on
pub ascends_from : (from : ℕ) (us : List Use) (i : ℕ) (u : Use) → i < length us → u ≡ get_or us i u → Ascends from us → Ascends u.at (drop i us)
ascends_from from [] i u below is h = absurd (omega arith)
ascends_from from (v ∷ us) zero u below is h = let same : u.at ≡ v.at = ap (λ (w : Use). w.at) is in (omega arith, h.1)
ascends_from from (v ∷ us) (suc i) u below is h = ascends_from v.at us i u (omega arith) is h.1

-- at or behind a place nothing is before it
at_or_before : (o : Option ℕ) (c : Bool) (at : ℕ) → IsAtMost o at → earlier o (at_if c at) ≡ o
at_or_before None c at h = absurd h
at_or_before (Some p) false at h = refl
at_or_before (Some p) true at h = ap Some (omega arith)

further : (o : Option ℕ) (a b : ℕ) → IsAtMost o a → a ≤ b → IsAtMost o b
further None a b h k = h
further (Some p) a b h k = omega arith

pub nothing_before : (is_wrong : UseTree ℕ → Bool) (o : Option ℕ) (from : ℕ) (us : List Use) → IsAtMost o from → Ascends from us
    → earlier o (least_of (λ u. at_if (is_wrong u) u.at) (map number_view us)) ≡ o
nothing_before is_wrong o from [] h k = earlier_none o
nothing_before is_wrong o from (u ∷ us) h k =
    let here = further o from u.at h k.0 in
    let rest = least_of (λ (v : UseTree ℕ). at_if (is_wrong v) v.at) (map number_view us) in
    sym (earlier_assoc o (at_if (is_wrong (number_view u)) u.at) rest)
    ∙ ap (λ x. earlier x rest) (at_or_before o (is_wrong (number_view u)) u.at here)
    ∙ nothing_before is_wrong o u.at us here k.1

-- ---- summaries of each definition

pub summaries_push : (A B : List (List (UseTree (List ℕ)))) (a b : List (UseTree (List ℕ))) → length A ≡ length B → AreSummaries A B → IsSummary a b → AreSummaries (A ++ a ∷ []) (B ++ b ∷ [])
summaries_push [] [] a b long h one zero = one
summaries_push [] [] a b long h one (suc at) = record { least = λ w. refl; names = λ p. refl }
summaries_push [] (y ∷ B) a b long h one at = absurd (omega arith)
summaries_push (x ∷ A) [] a b long h one at = absurd (omega arith)
summaries_push (x ∷ A) (y ∷ B) a b long h one zero = h zero
summaries_push (x ∷ A) (y ∷ B) a b long h one (suc at) = summaries_push A B a b (omega arith) (λ k. h (suc k)) one at

-- ---- one more use in a loop

pub summary_none : IsSummary [] []
summary_none = record { least = λ w. refl; names = λ p. refl }

-- one more use is seen
one_more : (us : List Use) (i : ℕ) (u : Use) → i < length us → u ≡ get_or us i u → map use_view (take (i + 1) us) ≡ map use_view (take i us) ++ use_view u ∷ []
one_more us i u below is =
    ap (λ (xs : List Use). map use_view xs) (take_more us i u below)
    ∙ map-append use_view (take i us) (get_or us i u ∷ [])
    ∙ ap (λ (x : Use). map use_view (take i us) ++ use_view x ∷ []) (sym is)

-- .. and kept, or like one that is
pub summary_kept : (us : List Use) (i : ℕ) (u : Use) (kept new : List Use) → i < length us → u ≡ get_or us i u → new ≡ kept ++ u ∷ []
    → IsSummary (map use_view kept) (map use_view (take i us)) → IsSummary (map use_view new) (map use_view (take (i + 1) us))
summary_kept us i u kept new below is grown h =
    subst (λ (xs : List (UseTree (List ℕ))). IsSummary (map use_view new) xs) (sym (one_more us i u below is))
    (subst (λ (xs : List (UseTree (List ℕ))). IsSummary xs (map use_view (take i us) ++ use_view u ∷ [])) (sym (ap (λ (xs : List Use). map use_view xs) grown ∙ map-append use_view kept (u ∷ [])))
    (summary_push (map use_view kept) (map use_view (take i us)) (use_view u) h))

pub summary_more : (us : List Use) (i : ℕ) (u : Use) (kept : List Use) → i < length us → u ≡ get_or us i u → HasLike kept u
    → IsSummary (map use_view kept) (map use_view (take i us)) → IsSummary (map use_view kept) (map use_view (take (i + 1) us))
summary_more us i u kept below is like h =
    subst (λ (xs : List (UseTree (List ℕ))). IsSummary (map use_view kept) xs) (sym (one_more us i u below is)) (summary_pass kept (map use_view (take i us)) u like h)

-- one more part of a document
pub summaries_more : (all : List (Vec Use Global)) (uses : Vec Use Global) (parts : List Part) (i : ℕ) (p : Part) → i < length parts → p ≡ get_or parts i p → length all ≡ i
    → AreSummaries (uses_view all) (all_uses (map part_view (take i parts))) → IsSummary (map use_view uses.items) (uses_of (map node_view p.nodes.items))
    → AreSummaries (uses_view (all ++ uses ∷ [])) (all_uses (map part_view (take (i + 1) parts)))
summaries_more all uses parts i p below is long h one =
    let behind : all_uses (map part_view (take (i + 1) parts)) ≡ all_uses (map part_view (take i parts)) ++ uses_of (map node_view p.nodes.items) ∷ [] =
    ap (λ (ps : List Part). all_uses (map part_view ps)) (take_more parts i p below ∙ ap (λ (x : Part). take i parts ++ x ∷ []) (sym is))
    ∙ ap (λ (ps : List PartTree). all_uses ps) (map-append part_view (take i parts) (p ∷ []))
    ∙ map-append (λ (q : PartTree). uses_of q.nodes) (map part_view (take i parts)) (part_view p ∷ []) in
    let here : uses_view (all ++ uses ∷ []) ≡ uses_view all ++ map use_view uses.items ∷ [] = map-append (λ (us : Vec Use Global). map use_view us.items) all (uses ∷ []) in
    let same : length (uses_view all) ≡ length (all_uses (map part_view (take i parts))) = grind (arith, common_steps) in
    subst (λ (xs : List (List (UseTree (List ℕ)))). AreSummaries (uses_view (all ++ uses ∷ [])) xs) (sym behind)
    (subst (λ (xs : List (List (UseTree (List ℕ)))). AreSummaries xs (all_uses (map part_view (take i parts)) ++ uses_of (map node_view p.nodes.items) ∷ [])) (sym here)
    (summaries_push (uses_view all) (all_uses (map part_view (take i parts))) (map use_view uses.items) (uses_of (map node_view p.nodes.items)) same h one))
