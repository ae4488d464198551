use Rattle.std.proofs.Common.{◌≡◌, ◌∙◌, ℕ, ◌+◌, ◌++◌, List, [], ◌∷◌, map, drop, sym, ap, arith}
use Rattle.std.proofs.lemmas.List.{append-nil, at_drop_all}
use Rattle.hq_model.specs.PermView.{mask_view}
use Rattle.hq_model.specs.Permission.{Mask as MaskTree}
use Rattle.hq_model.specs.Schema.{table}
use Rattle.hq_model.specs.declared.perm.Mask.{Mask}
use Rattle.hq_sql_tree.specs.View.{join_view}
use Rattle.hq_translation.specs.Masks.{mask_numbers, mask_joins, used_masks}
use Rattle.hq_compile_tables.specs.Contexts.{context_schema, context_granted}
use Rattle.hq_compile_tables.specs.Shown.{look_in}
use Rattle.hq_compile_tables.specs.declared.shown.MaskPlace.{MaskPlace}
use Rattle.hq_compile_tables.proofs.Loops.{rest-more, count-more}
use Rattle.hq_compile_masks.specs.MaskPlaces.{used_of, mask_places}
use Rattle.hq_compile_masks.proofs.Places.{first_joins, first_places, first_numbers, places_are_look}
use Rattle.hq_compile_masks.proofs.masks.mask_parts.Goals as goal

-- what a mask adds is what stood first in what was left
pub loop-mask-preserved : goal.loop-mask-preserved
loop-mask-preserved c =
    let s = context_schema c.args.context.now in
    let t = c.args.t in
    let p = c.args.p in
    let cs = c.args.used.now in
    let items = c.masks-mask-items.result.now in
    let i = c.loop-mask.mask-index in
    let m = c.mask-item.result in
    let rest = map mask_view (drop (i + 1) items) in
    let n = c.loop-mask.next in
    let k = c.push_mask.new.next in
    let one = used_of cs (mask_view m ∷ []) in
    let old = c.loop-mask.parts in
    let new = c.push_mask.new.parts in
    let adds = c.in_ok-push_mask.ensures in
    let behind = sym adds.numbers in
    record {
      joins = rest-more (λ (ms : List Mask). mask_joins (used_of cs (map mask_view ms)) s t p n) (λ (ms : List Mask). mask_joins (used_of cs (map mask_view ms)) s t p k) items i m
          (map join_view old.joins.items) (map join_view new.joins.items) (mask_joins one s t p n) _ c.loop-mask.invariant.joins c.loop-mask-test.true c.mask-item.is
          (first_joins cs s t p (mask_view m) rest n ∙ ap (λ (j : ℕ). mask_joins one s t p n ++ mask_joins (used_of cs rest) s t p j) behind) adds.joins;
      places = rest-more (λ (ms : List Mask). mask_places (used_of cs (map mask_view ms)) s t n) (λ (ms : List Mask). mask_places (used_of cs (map mask_view ms)) s t k) items i m
          old.places new.places (mask_places one s t n) _ c.loop-mask.invariant.places c.loop-mask-test.true c.mask-item.is
          (first_places cs s t p (mask_view m) rest n ∙ ap (λ (j : ℕ). mask_places one s t n ++ mask_places (used_of cs rest) s t j) behind) adds.places;
      numbers =
          count-more (λ (ms : List Mask). mask_numbers (used_of cs (map mask_view ms)) s t) items i m n k (mask_numbers one s t) _
          c.loop-mask.invariant.numbers c.loop-mask-test.true c.mask-item.is
          (first_numbers cs s t p (mask_view m) rest) adds.numbers;
    }

-- behind the last mask nothing is left
pub returns-clause-joins : goal.returns-clause-joins
returns-clause-joins c =
    let s = context_schema c.args.context.now in
    let g = context_granted c.args.context.now in
    let t = c.args.t in
    let p = c.args.p in
    let cs = c.args.used.now in
    let done = map join_view c.loop-mask.parts.joins.items in
    sym (append-nil done)
    ∙ sym
    (at_drop_all (λ (ms : List Mask). done ++ mask_joins (used_of cs (map mask_view ms)) s t p c.loop-mask.next)
    c.masks-mask-items.result.now c.loop-mask.mask-index c.loop-mask-test.false)
    ∙ c.loop-mask.invariant.joins ∙ ap (λ (ms : List MaskTree). mask_joins (used_of cs ms) s t p c.args.next.now) c.masks-mask-items.ensures
    ∙ ap (λ (n : ℕ). mask_joins (used_masks g t cs) s t p n) c.requires

pub returns-clause-looks : goal.returns-clause-looks
returns-clause-looks c =
    let s = context_schema c.args.context.now in
    let g = context_granted c.args.context.now in
    let t = c.args.t in
    let p = c.args.p in
    let cs = c.args.used.now in
    let done = c.loop-mask.parts.places in
    let all =
    sym (append-nil done)
    ∙ sym
    (at_drop_all (λ (ms : List Mask). done ++ mask_places (used_of cs (map mask_view ms)) s t c.loop-mask.next)
    c.masks-mask-items.result.now c.loop-mask.mask-index c.loop-mask-test.false)
    ∙ c.loop-mask.invariant.places ∙ ap (λ (ms : List MaskTree). mask_places (used_of cs ms) s t c.args.next.now) c.masks-mask-items.ensures
    ∙ ap (λ (n : ℕ). mask_places (used_masks g t cs) s t n) c.requires in
    ap (λ (ps : List MaskPlace). look_in ps (table s t).columns p) all ∙ places_are_look (used_masks g t cs) s t p (p + 1)

pub returns-clause-numbers : goal.returns-clause-numbers
returns-clause-numbers c =
    let s = context_schema c.args.context.now in
    let t = c.args.t in
    let cs = c.args.used.now in
    let next = c.loop-mask.next in
    let none : next ≡ next + 0 = omega arith in
    none ∙ sym (at_drop_all (λ (ms : List Mask). next + mask_numbers (used_of cs (map mask_view ms)) s t) c.masks-mask-items.result.now c.loop-mask.mask-index c.loop-mask-test.false)
    ∙ c.loop-mask.invariant.numbers ∙ ap (λ (ms : List MaskTree). c.args.next.now + mask_numbers (used_of cs ms) s t) c.masks-mask-items.ensures
