-- How a session list is read byte by byte.
use Rattle.std.specs.Prelude.{◌≡◌, ℕ, List, [], ◌∷◌, ◌++◌, Option, Some, None, option_map}
use Rattle.hq_model.specs.SessionLists.{elements_from}
use Rattle.hq_model_binding.specs.declared.session_list.Next.{Next}
use Rattle.hq_model_binding.specs.declared.session_list.Next.TheVariants.{On, Over, Wrong}
use Rattle.hq_model_binding.specs.declared.session_list.Reader.{Reader}

-- the elements of a list whose front a reader has read and of which this is left
abbrev pub read_on : Reader → List ℕ → Option (List (List ℕ))
read_on r rest = option_map (λ es. r.elements ++ es) (elements_from r.place r.element r.gap rest)

-- these, where nothing is left
abbrev pub if_over : List (List ℕ) → List ℕ → Option (List (List ℕ))
if_over elements [] = Some elements
if_over elements (c ∷ cs) = None

-- a reader goes on behind a byte as the list does, whatever follows
abbrev pub Follows : Reader → ℕ → Next → Type 0
Follows r c (On next) = (rest : List ℕ) → read_on r (c ∷ rest) ≡ read_on next rest
Follows r c (Over elements) = (rest : List ℕ) → read_on r (c ∷ rest) ≡ if_over elements rest
Follows r c Wrong = (rest : List ℕ) → read_on r (c ∷ rest) ≡ None
