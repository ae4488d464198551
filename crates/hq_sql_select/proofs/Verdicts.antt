-- How what tests tell of a row is used.
use Rattle.std.proofs.Common.{◌≡◌, ◌∙◌, ℕ, List, [], ◌∷◌, ◌++◌, map, filter, true, Option, None, append-nil, refl, sym, ap}
use Rattle.std.specs.Global.{Vec}
use Rattle.hq_base.proofs.Lists.{each_all, filter_all}
use Rattle.hq_sql_access.specs.View.{beside, joined_view, place_of, world_of}
use Rattle.hq_sql_access.specs.declared.pinned.Pinned.{Pinned}
use Rattle.hq_sql_access.specs.declared.place.JoinedRow.{JoinedRow}
use Rattle.hq_sql_access.specs.declared.row.Made.{Made}
use Rattle.hq_sql_constants.specs.Sieves.{Tells}
use Rattle.hq_sql_constants.specs.declared.sieve.Verdict.{Verdict}
use Rattle.hq_sql_constants.specs.declared.sieve.Verdict.TheVariants.{Kept, Dropped, Open}
use Rattle.hq_sql_select.specs.Gathered.{Gathers, kept_joins}
use Rattle.hq_sql_select.specs.Selected.{Adds, Told}
use Rattle.hq_sql_tree.specs.Meaning.{NamedRow, Scope as Names, joined, kept, with_alias}
use Rattle.hq_sql_tree.specs.Tree.{JoinTrees, no_filter, no_join}
use Rattle.hq_sql_tree.specs.View.{filter_view}
use Rattle.hq_sql_tree.specs.declared.select.Pred.{Pred}

-- what is told of a row is so where it is in scope
pub told_there : (js : JoinTrees) (f : Option Pred) (world : Pinned) (n : Names) (alias : List ℕ) (row named : NamedRow) (v : Verdict)
    → named ≡ row → Tells (world_of world) js (filter_view f) alias row v → Told js f world (with_alias n alias named) v
told_there js f world n alias row named Kept e h =
    ap (λ r. filter (kept (filter_view f) (world_of world)) (joined js (world_of world) (with_alias n alias r))) e ∙ h n
    ∙ ap (λ r. joined js (world_of world) (with_alias n alias r)) (sym e)
told_there js f world n alias row named Dropped e h =
    ap (λ r. filter (kept (filter_view f) (world_of world)) (joined js (world_of world) (with_alias n alias r))) e ∙ h n
told_there js f world n alias row named Open e h = tt

-- without a WHERE each row of the joins is kept
all_kept : (js : JoinTrees) (world : Pinned) (n : Names) → kept_joins js None world n ≡ joined js (world_of world) n
all_kept js world n =
    let w = world_of world in
    filter_all (kept no_filter w) (joined js w n) (each_all (λ m. kept no_filter w m ≡ true) (λ m. refl) (joined js w n))

-- one place of a row that WHERE keeps, beside which no join stands
pub adds_alone : (js : JoinTrees) (f : Option Pred) (world : Pinned) (n : Names) (position : ℕ) (places more : List JoinedRow) (v : Vec (Option Made))
    → js ≡ no_join → Told js f world n Kept → more ≡ places ++ place_of position v ∷ [] → Adds js f world n position places more
adds_alone js f world n position places more v alone told grown =
    let w = world_of world in
    (v ∷ [], grown, ap (λ k. beside k w n (joined_view v) ∷ []) alone ∙ ap (λ k. joined k w n) (sym alone) ∙ sym told)

-- all places of one of which WHERE keeps each row of the joins
pub adds_all : (js : JoinTrees) (f : Option Pred) (world : Pinned) (n : Names) (position : ℕ) (places more : List JoinedRow) (lists : List (Vec (Option Made)))
    → Told js f world n Kept → Gathers js None world n lists → more ≡ places ++ map (place_of position) lists → Adds js f world n position places more
adds_all js f world n position places more lists told h grown = (lists, grown, h ∙ all_kept js world n ∙ sym told)

-- none of one of which it keeps nothing
pub adds_none : (js : JoinTrees) (f : Option Pred) (world : Pinned) (n : Names) (position : ℕ) (places : List JoinedRow)
    → filter (kept (filter_view f) (world_of world)) (joined js (world_of world) n) ≡ [] → Adds js f world n position places places
adds_none js f world n position places none = ([], sym (append-nil places), sym none)
