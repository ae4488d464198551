-- Whether words are taken, by what the parse answers.
use Rattle.std.proofs.Common.{◌≡◌, ◌∙◌, ◌⊎◌, inl, inr, List, [], Bool, true, false, ◌&&◌, refl, ap, subst}
use Rattle.clap.specs.Words.{App, Text, HasMatchesOf, fault_of, matches_of, is_simple_and_free, rows_of, found_of}
use Rattle.clap.specs.Kinds.{IsAmong}
use Rattle.clap.specs.declared.parser.matches.ArgMatches.{ArgMatches}
use Rattle.clap.specs.declared.error.kind.ErrorKind.{ErrorKind}
use Rattle.clap.specs.declared.error.kind.ErrorKind.TheVariants as kind
use Rattle.hq_cli.specs.Asked.{are_taken}
use Rattle.hq_cli.proofs.Commands.{among_faults}

and_left : (a b : Bool) → (a && b) ≡ true → a ≡ true
and_left true b e = refl
and_left false b e = absurd (cc)

-- matches come where no fault does
pub taken : (a : App) (words same : List Text) (m : ArgMatches) → same ≡ words → is_simple_and_free a ≡ true
    → fault_of a same ≡ [] → HasMatchesOf a same m → (are_taken (fault_of a words) ≡ true) × (rows_of (found_of m) ≡ matches_of a words)
taken a words same m e simple none matches =
    (subst (λ (w : List Text). are_taken (fault_of a w) ≡ true) e (ap are_taken none), (matches (and_left _ _ simple)).0 ∙ ap (matches_of a) e)

-- an error that is no want of memory has a fault
pub refused : (a : App) (words same : List Text) (k : ErrorKind) → same ≡ words
    → (k ≡ kind.OutOfMemory) ⊎ IsAmong k (fault_of a same) → (k ≡ kind.OutOfMemory → ⊥) → are_taken (fault_of a words) ≡ false
refused a words same k e h none =
    subst (λ (w : List Text). are_taken (fault_of a w) ≡ false) e (elim h [ inl m ↦ absurd (none m) | inr i ↦ among_faults k (fault_of a same) i ])
