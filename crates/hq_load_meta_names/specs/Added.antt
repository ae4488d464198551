-- Names that go into a list of different ones.
use Rattle.std.specs.Prelude.{ℕ, List, [], ◌∷◌, ◌++◌, Result, Ok, Err, if◌then◌else◌, bytes_eq}
use Rattle.std.specs.List.{list_any}
use Rattle.hq_load_meta_names.specs.declared.refusal.NameRefusal.{NameRefusal}
use Rattle.hq_load_meta_names.specs.declared.refusal.NameRefusal.TheVariants.{Repeated}

-- the known names and behind them these; Repeated, with the path that is told for them, where one stands there already
abbrev pub added : (path : List ℕ) → (known names : List (List ℕ)) → Result (List (List ℕ)) NameRefusal
added path known [] = Ok known
added path known (n ∷ ns) = if list_any (λ k. bytes_eq k n) known then Err (Repeated path) else added path (known ++ n ∷ []) ns
