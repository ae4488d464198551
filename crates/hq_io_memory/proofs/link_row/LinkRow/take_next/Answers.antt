use Rattle.std.proofs.Common.{◌≡◌, ◌<◌, ◌≤◌, ℕ, List, length, set, get_or, ap, arith, ◌∙◌, refl}
use Rattle.std.specs.Prelude.{slice_get, unwrap_or}
use Rattle.std.proofs.lemmas.List.{set-set, set-get_or}
use Rattle.std.proofs.lemmas.Option.{slice_get-get_or, slice_get_past}
use Rattle.hq_io_memory.proofs.link_row.LinkRow.take_next.Goals as goal

-- what stood at a place, put back over what was put there
restored : {X : Type 0} (xs : List X) (i : ℕ) (x y read : X) → y ≡ read → read ≡ get_or xs i read → set (set xs i x) i y ≡ xs
restored xs i x y read e r = set-set xs i x y ∙ (ap (λ w. set xs i w) (e ∙ r) ∙ set-get_or xs i read)

-- what stands at a place, if it is one
found : {X : Type 0} (xs : List X) (i : ℕ) (y read spare : X) → y ≡ read → read ≡ get_or xs i read → i < length xs → y ≡ unwrap_or (slice_get xs i) spare
found xs i y read spare e r within = rw (slice_get-get_or xs i read within) (e ∙ r)

past : {X : Type 0} (xs : List X) (i : ℕ) (spare : X) → length xs ≤ i → spare ≡ unwrap_or (slice_get xs i) spare
past xs i spare beyond = rw (slice_get_past xs i beyond) refl

pub returns-then-self-len-clause-links : goal.returns-then-self-len-clause-links
returns-then-self-len-clause-links g c =
    restored _ _ _ _ _ c.swap.ensures.y_after c.index_mut.ensures.value

pub returns-then-self-len-clause-next : goal.returns-then-self-len-clause-next
returns-then-self-len-clause-next g c =
    found c.args.self.now.places.items c.args.self.now.accepted _ _ c.args.spare c.swap.ensures.y_after c.index_mut.ensures.value (omega arith)

pub returns-else-self-len-clause-next : goal.returns-else-self-len-clause-next
returns-else-self-len-clause-next g c = past c.args.self.now.places.items c.args.self.now.accepted c.args.spare (omega arith)
