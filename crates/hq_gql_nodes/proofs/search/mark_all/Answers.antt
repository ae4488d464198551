use Rattle.std.proofs.Common.{◌≡◌, ◌∙◌, ℕ, List, [], ◌∷◌, get_or, length, take, refl, subst, arith, true}
use Rattle.std.proofs.lemmas.List.{take_all}
use Rattle.hq_gql_nodes.specs.Reach.{has}
use Rattle.hq_gql_nodes.specs.Marks.{Among, Adds}
use Rattle.hq_gql_nodes.proofs.Marking.{adds_more, marked_more}
use Rattle.hq_gql_nodes.proofs.search.mark_all.Goals as goal

pub loop-place-preserved : goal.loop-place-preserved
loop-place-preserved c =
    let loop = c.loop-place.invariant in
    let made = c.in_ok-mark.ensures in
    let places : List ℕ = c.args.places.now in
    let i : ℕ = c.loop-place.place-index in
    let p : ℕ = get_or places i 0 in
    let count : ℕ = length c.args.marks.now.items in
    let old : List ℕ = c.loop-place.order.items in
    let new : List ℕ = c.mark.new.order.items in
    let adds : Adds count (p ∷ []) old new = subst (λ (n : ℕ). Adds n (p ∷ []) old new) loop.as_long made.adds in
    record {
      as_long = made.length ∙ loop.as_long;
      agrees = made.agrees;
      marked = marked_more count places i p old new c.loop-place-test.true refl adds (λ h. made.marked (omega (arith, loop.as_long, h))) loop.marked;
      adds = adds_more count places i p c.args.order.now.items old new c.loop-place-test.true refl loop.adds adds;
    }

pub mark-requires : goal.mark-requires
mark-requires c = c.loop-place.invariant.agrees

pub returns-clause-marked : goal.returns-clause-marked
returns-clause-marked c =
    let all : take c.loop-place.place-index c.args.places.now ≡ c.args.places.now = take_all _ _ (omega arith) in
    subst (λ (places : List ℕ). (q : ℕ) → Among (length c.args.marks.now.items) places q → has c.loop-place.order.items q ≡ true) all c.loop-place.invariant.marked

pub returns-clause-adds : goal.returns-clause-adds
returns-clause-adds c =
    let all : take c.loop-place.place-index c.args.places.now ≡ c.args.places.now = take_all _ _ (omega arith) in
    subst (λ (places : List ℕ). Adds (length c.args.marks.now.items) places c.args.order.now.items c.loop-place.order.items) all c.loop-place.invariant.adds
