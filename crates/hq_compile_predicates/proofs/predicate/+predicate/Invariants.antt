use Rattle.std.proofs.Common.{◌≡◌, ◌+◌, ◌++◌, drop, map}
use Rattle.hq_model.specs.Bexp.{bexp_view, bexps_of}
use Rattle.hq_model.specs.Schema.{Schema, table}
use Rattle.hq_sql_tree.specs.View.{pred_view}
use Rattle.hq_translation.specs.Predicates.{Mode, numbers_all, predicates}
use Rattle.hq_compile_tables.specs.Contexts.{context_schema, context_granted}
use Rattle.hq_compile_tables.specs.Shown.{look_in}
use Rattle.hq_compile_predicates.proofs.predicate.+predicate.Given as goal

abbrev pub invariant-predicates-loop-bexp : goal.invariant-predicates-loop-bexp
invariant-predicates-loop-bexp g l =
    let s : Schema = context_schema l.context in
    let m : Mode = g.C.Counted.mode s (context_granted l.context) in
    let look = look_in l.places (table s l.t).columns l.p in
    let rest = bexps_of (map bexp_view (drop l.bexp-index l.bexp-items)) in
    let all = bexps_of (map bexp_view l.bexps.items) in
    record {
      predicates : map pred_view l.preds.items ++ predicates rest s m look l.t l.p l.next ≡ predicates all s m look l.t l.p l.fn.next;
      numbers : l.next + numbers_all rest s m l.t ≡ l.fn.next + numbers_all all s m l.t;
    }
