use Rattle.std.proofs.Common.{◌≡◌, ◌∙◌, sym, ap, length, drop, get_or, arith, rules, ◌-◌, ◌+◌, ◌/◌, ◌<◌, map, Less, Equal, Greater}
use Rattle.std.specs.Cmp.Lexicographic.{slice_cmp}
use Rattle.std.specs.Ordering.{nat_cmp}
use Rattle.std.proofs.lemmas.Grind.{common_steps}
use Rattle.hq_base.proofs.Sorts.{ascends_take, ascends_drop}
use Rattle.hq_schema.specs.Sorted.{name_at, by_name}
use Rattle.hq_schema.proofs.FirstPlace.{at_less, at_equal, at_greater}
use Rattle.hq_schema.proofs.search.+first_at.Goals as goal

pub first_at-requires : goal.first_at-requires
first_at-requires g t c κs within =
    let n = length c.args.places.now in
    let m = length c.args.places.now / 2 + 1 in
    let R = by_name (map g.T.Named.name_of c.args.items.now) in
    (search rules, (within, ascends_take R (n - m) (drop m c.args.places.now) (ascends_drop R m c.args.places.now c.requires)))

pub first_at-requires-in-Equal : goal.first_at-requires-in-Equal
first_at-requires-in-Equal g t c κs within =
    let R = by_name (map g.T.Named.name_of c.args.items.now) in
    (search rules, (within, ascends_take R (length c.args.places.now / 2) c.args.places.now c.requires))

pub first_at-requires-in-Greater : goal.first_at-requires-in-Greater
first_at-requires-in-Greater g t c κs within =
    let R = by_name (map g.T.Named.name_of c.args.items.now) in
    (search rules, (within, ascends_take R (length c.args.places.now / 2) c.args.places.now c.requires))

pub returns-in-Less : goal.returns-in-Less
returns-in-Less g t c =
    let key = name_at (map g.T.Named.name_of c.args.items.now) in
    let xs = c.args.places.now in
    let k = length xs / 2 in
    let lt : k < length xs = first_of (search rules, grind (arith, common_steps)) in
    let less : slice_cmp nat_cmp (key (get_or xs k 0)) c.args.name.now ≡ Less =
    ap (λ n. slice_cmp nat_cmp n c.args.name.now) (sym c.name_at.ensures) ∙ (ap (slice_cmp nat_cmp c.name_at.result.now) (sym c.as_bytes.ensures) ∙ (sym c.cmp.ensures ∙ c.in-Less.is))
    in
    c.first_at.ensures ∙ sym (at_less key c.args.name.now xs k lt c.requires less)

pub returns-in-Equal : goal.returns-in-Equal
returns-in-Equal g t c =
    let key = name_at (map g.T.Named.name_of c.args.items.now) in
    let xs = c.args.places.now in
    let k = length xs / 2 in
    let lt : k < length xs = first_of (search rules, grind (arith, common_steps)) in
    let equal : slice_cmp nat_cmp (key (get_or xs k 0)) c.args.name.now ≡ Equal =
    ap (λ n. slice_cmp nat_cmp n c.args.name.now) (sym c.name_at.ensures) ∙ (ap (slice_cmp nat_cmp c.name_at.result.now) (sym c.as_bytes.ensures) ∙ (sym c.cmp.ensures ∙ c.in-Equal.is))
    in
    rw (c.unwrap_or.ensures, c.first_at-in-Equal.ensures) (sym (at_equal key c.args.name.now xs k lt equal))

pub returns-in-Greater : goal.returns-in-Greater
returns-in-Greater g t c =
    let key = name_at (map g.T.Named.name_of c.args.items.now) in
    let xs = c.args.places.now in
    let k = length xs / 2 in
    let lt : k < length xs = first_of (search rules, grind (arith, common_steps)) in
    let greater : slice_cmp nat_cmp (key (get_or xs k 0)) c.args.name.now ≡ Greater =
    ap (λ n. slice_cmp nat_cmp n c.args.name.now) (sym c.name_at.ensures) ∙ (ap (slice_cmp nat_cmp c.name_at.result.now) (sym c.as_bytes.ensures) ∙ (sym c.cmp.ensures ∙ c.in-Greater.is))
    in
    c.first_at-in-Greater.ensures ∙ sym (at_greater key c.args.name.now xs k lt c.requires greater)
