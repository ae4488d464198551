use Rattle.std.proofs.Common.{◌≡◌, ◌<◌, ℕ, length, false, List, [], get_or, replicate, refl, sym, ap, ◌∙◌, subst, arith, nat_eq, zero, suc, Vec, Global, rules}
use Rattle.std.proofs.lemmas.Grind.{common_steps}
use Rattle.std.proofs.lemmas.List.{length-replicate, length-map}
use Rattle.std.specs.List.{IsDistinct}
use Rattle.hq_gql_nodes.specs.Reach.{has, graph_view, Graph}
use Rattle.hq_gql_nodes.specs.Marks.{Among, Agrees, Adds}
use Rattle.hq_gql_nodes.proofs.Walks.{no_more, in_steps_first, in_steps_more, closed_more, kept, all_found}
use Rattle.hq_gql_nodes.proofs.search.reached.Goals as goal

none_marked : (n q : ℕ) → get_or (replicate n false) q false ≡ has [] q
none_marked zero q = refl
none_marked (suc n) zero = refl
none_marked (suc n) (suc q) = none_marked n q

none_twice : IsDistinct nat_eq []
unfolding IsDistinct
none_twice = tt

fresh : (n : ℕ) → Agrees (replicate n false) []
fresh n = record { same = none_marked n; once = none_twice }

pub mark_all-requires : goal.mark_all-requires
mark_all-requires c = rw (c.in_ok-marks.ensures, c.new-order.ensures.items) (fresh (length c.args.graph.now))

pub loop-at-init : goal.loop-at-init
loop-at-init c =
    let made = c.in_ok-mark_all.ensures in
    let rows : Graph = graph_view c.args.graph.now in
    let many : length c.in_ok-marks.marks.items ≡ length rows =
    ap length c.in_ok-marks.ensures ∙ (length-replicate (length c.args.graph.now) false ∙ sym (length-map c.args.graph.now (λ (row : Vec ℕ Global). row.items))) in
    let new : List ℕ = c.mark_all.new.order.items in
    record {
      as_long = made.length ∙ many;
      agrees = made.agrees;
      first = λ q h. made.marked q (subst (λ (n : ℕ). Among n c.args.starts.now q) (sym many) h);
      steps =
          in_steps_first rows c.args.starts.now new
          (subst (λ (xs : List ℕ). Adds (length rows) c.args.starts.now xs new) c.new-order.ensures.items
          (subst (λ (n : ℕ). Adds n c.args.starts.now c.new-order.result.items new) many made.adds));
      closed = λ j h. absurd (omega arith);
    }

pub loop-at-preserved : goal.loop-at-preserved
loop-at-preserved c =
    let loop = c.loop-at.invariant in
    let made = c.in_ok-mark_all-2.ensures in
    let rows : Graph = graph_view c.args.graph.now in
    let old : List ℕ = c.loop-at.order.items in
    let new : List ℕ = c.mark_all-in-loop-at.new.order.items in
    let p : ℕ = c.index.result.now in
    let below : c.loop-at.at < length old = omega arith in
    let e : get_or old c.loop-at.at 0 ≡ p = first_of (search rules, grind (arith, common_steps)) in
    let adds : Adds (length rows) (get_or rows p []) old new =
    subst (λ (n : ℕ). Adds n (get_or rows p []) old new) loop.as_long (subst (λ (xs : List ℕ). Adds (length c.loop-at.marks.items) xs old new) c.row-next.ensures made.adds) in
    let marked = λ (q : ℕ) (h : Among (length rows) (get_or rows p []) q).
    made.marked q (subst (λ (n : ℕ). Among n c.row-next.result.now q) (sym loop.as_long) (subst (λ (xs : List ℕ). Among (length rows) xs q) (sym c.row-next.ensures) h)) in
    record {
      as_long = made.length ∙ loop.as_long;
      agrees = made.agrees;
      first = λ q h. kept (length rows) (get_or rows p []) old new adds q (loop.first q h);
      steps = in_steps_more rows c.args.starts.now old new c.loop-at.at p below e loop.steps adds;
      closed = closed_more rows old new c.loop-at.at p below e adds marked loop.closed;
    }

pub loop-at-smaller : goal.loop-at-smaller
loop-at-smaller c =
    let few = no_more c.loop-at.marks.items c.loop-at.order.items c.loop-at.invariant.agrees in
    let many = c.loop-at.invariant.as_long ∙ length-map c.args.graph.now (λ (row : Vec ℕ Global). row.items) in
    omega (arith, few, many)

pub returns : goal.returns
returns c =
    let loop = c.loop-at.invariant in
    all_found (graph_view c.args.graph.now) c.args.starts.now c.loop-at.order.items c.loop-at.marks.items loop.as_long loop.agrees loop.first (λ j h. loop.closed j (omega (arith, h)) h) loop.steps
