-- Sets without fields and spreads, and numbers without a set.
use Rattle.std.proofs.Common.{◌≡◌, ◌∙◌, ap, ℕ, [], length, map, inl, inr, Some, None}
use Rattle.std.specs.Prelude.{slice_get}
use Rattle.hq_schema.specs.Schema.{schema_view}
use Rattle.hq_overlap_sets.specs.declared.sets.Arena.{Arena}
use Rattle.hq_overlap_sets.specs.declared.sets.Set.{Set}
use Rattle.hq_overlap_sets.specs.Pairs.{fields_in, spreads_in}
use Rattle.hq_overlap_sets.specs.Sets.{entry_view, arena_view}
use Rattle.hq_overlap_sets.proofs.ArenaLemmas.{empty_list, set_here, no_set}
use Rattle.hq_rules_overlap.specs.declared.walk.Walk.{Walk}
use Rattle.hq_rules_overlap.specs.Walk.{IsEmpty, IsDone}
use Rattle.hq_rules_overlap.proofs.Steps.{done_beside, empty_beyond}

-- a set that is empty in memory
pub empty_here : (a : Arena) (n : ℕ) (x : Set) → slice_get a.sets.items n ≡ Some x → length x.entries.items ≡ 0 → length x.spreads.items ≡ 0 → IsEmpty (arena_view a) n
empty_here a n x h fields spreads = record {
  fields = ap fields_in (set_here a n x h) ∙ ap (λ es. map (entry_view (schema_view a.schema.now)) es) (empty_list x.entries.items fields);
  spreads = ap spreads_in (set_here a n x h) ∙ empty_list x.spreads.items spreads;
}

-- where there is no set of a number, its pair is done
pub done_without_left : (a : Arena) (q : Walk) (s t : ℕ) → slice_get a.sets.items s ≡ None → IsDone (arena_view a) q s t
done_without_left a q s t h = done_beside (arena_view a) q s t (inl (empty_beyond (arena_view a) s (no_set a s h)))

pub done_without_right : (a : Arena) (q : Walk) (s t : ℕ) → slice_get a.sets.items t ≡ None → IsDone (arena_view a) q s t
done_without_right a q s t h = done_beside (arena_view a) q s t (inr (empty_beyond (arena_view a) t (no_set a t h)))
