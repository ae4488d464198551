use Rattle.std.proofs.Common.{◌≡◌, ◌∙◌, ap, sym, ℕ, List, ◌∷◌, ◌++◌, ◌+◌, drop, filter, true, bytes_eq, arith}
use Rattle.std.proofs.lemmas.List.{drop_more}
use Rattle.std.proofs.lemmas.Slice.Eq.{bytes_eq-Decides}
use Rattle.hq_base.specs.Lists.{firsts}
use Rattle.hq_model.proofs.Firsts.{is_new, seen_none, seen_more}
use Rattle.hq_schema_of_role.proofs.scalars.different.Goals as goal

-- equal names are one
one_name : (a b : List ℕ) → bytes_eq a b ≡ true → a ≡ b
one_name a b e = (bytes_eq-Decides a b).0 e

pub loop-name-init : goal.loop-name-init
loop-name-init c =
    seen_none bytes_eq one_name (firsts bytes_eq c.args.names.now) ∙ ap (λ seen. seen ++ filter (is_new bytes_eq one_name seen) (firsts bytes_eq c.args.names.now)) (sym c.new-different.ensures.items)

pub loop-name-preserved : goal.loop-name-preserved
loop-name-preserved c =
    let xs = c.args.names.now in
    let i = c.loop-name.name-index in
    let x = c.name-item.result in
    let seen = c.loop-name.different.items in
    c.loop-name.invariant
    ∙ ap (λ ys. seen ++ filter (is_new bytes_eq one_name seen) (firsts bytes_eq ys)) (drop_more xs i x (omega arith) ∙ ap (λ y. y ∷ drop (i + 1) xs) (sym c.name-item.is))
    ∙ seen_more bytes_eq one_name seen (drop (i + 1) xs) x
    ∙ ap (λ new. new ++ filter (is_new bytes_eq one_name new) (firsts bytes_eq (drop (i + 1) xs))) (sym c.in_ok-push_different.ensures)
