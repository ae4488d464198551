-- What a yes says of a statement.
use Rattle.std.proofs.Common.{◌≡◌, List, [], ◌∷◌, Bool, true, false, cond, Option, Some, None, Result, Ok, Err, refl, sym}
use Rattle.std.specs.Prelude.{nat_lt, IfOk}
use Rattle.hq_base.specs.declared.memory.Memory.{Memory}
use Rattle.hq_model.specs.Grants.{Grants}
use Rattle.hq_model.specs.Meta.{MetaTree}
use Rattle.hq_model.specs.declared.table.Table.{Table}
use Rattle.hq_sql_tree.specs.Tree.{SelectTree}
use Rattle.hq_confine_rules.specs.Faults.{worse, worst}
use Rattle.hq_confine_rules.specs.Uses.{Fault}
use Rattle.hq_confine.specs.Verdicts.{told, ShowsTheView, YesShowsTheView}
use Rattle.hq_confine.specs.declared.check.Verdict.{Verdict}
use Rattle.hq_confine.specs.declared.check.Verdict.TheVariants.{Yes, No}

-- some fault is the worst one where there are some
some_fault : (f : Fault) (o : Option Fault) → worse (Some f) o ≡ None → ⊥
some_fault f None h = cc
some_fault f (Some b) h =
    let by : (t : Bool) → cond t (Some b) (Some f) ≡ None → ⊥ = elim [ true ↦ λ k. cc | false ↦ λ k. cc ] in
    by (nat_lt b.rule f.rule) h

-- without a worst fault there is none
pub no_fault : (l : List Fault) → worst l ≡ None → l ≡ []
no_fault [] h = refl
no_fault (f ∷ fs) h = absurd (some_fault f (worst fs) h)

-- a verdict that tells this fault shows the view where a statement without one does
pub shows : (r : Result Verdict Memory) (o : Option Fault) (tables : List Table) (m : MetaTree) (g : Grants) (q : SelectTree) → IfOk r (λ v. told v ≡ o)
    → (o ≡ None → ShowsTheView tables m g q) → IfOk r (λ v. YesShowsTheView v tables m g q)
shows (Ok Yes) o tables m g q is so = so (sym is)
shows (Ok (No rule alias)) o tables m g q is so = tt
shows (Err e) o tables m g q is so = tt
