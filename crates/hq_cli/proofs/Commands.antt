-- Commands of the crate clap, as its specification sees them.
use Rattle.std.proofs.Common.{◌≡◌, ◌∙◌, List, [], ◌∷◌, true, false, refl, ap, map}
use Rattle.std.specs.Prelude.{Option, Some, None, IsSomeAnd}
use Rattle.clap.specs.Words.{Text, app_of, new_app}
use Rattle.clap.specs.Simple.{app_of_fields, on_top}
use Rattle.clap.specs.Kinds.{Kinds, IsAmong}
use Rattle.clap.specs.declared.builder.range.ValueRange.{ValueRange}
use Rattle.clap.specs.declared.builder.command.Command.{Command}
use Rattle.clap.specs.declared.builder.command.Command.TheViews.{out-Command}
use Rattle.clap.specs.declared.error.kind.ErrorKind.{ErrorKind}
use Rattle.hq_cli.specs.Grammar.{bare}
use Rattle.hq_cli.specs.Asked.{are_taken}

-- a new command with its name of the program, its help and its version off
pub bare_from_new : (n : Text) (a b c d : Command) → app_of a ≡ new_app n
    → out-Command b ≡ record (out-Command a) { no_binary_name = true }
    → out-Command c ≡ record (out-Command b) { disable_help_flag = true }
    → out-Command d ≡ record (out-Command c) { disable_version_flag = true }
    → app_of d ≡ on_top bare (new_app n)
bare_from_new n a b c d new names help version =
    ap app_of_fields version
    ∙ ap (λ f. app_of_fields (record f { disable_version_flag = true })) help
    ∙ ap (λ f. app_of_fields (record f { disable_help_flag = true; disable_version_flag = true })) names
    ∙ ap (on_top bare) new

-- a kind among the faults means that the words are not taken
pub among_faults : (k : ErrorKind) (ks : Kinds) → IsAmong k ks → are_taken ks ≡ false
among_faults k [] h = absurd h
among_faults k (x ∷ xs) h = refl

pub known_range : (o : Option ValueRange) (x : ValueRange) → IsSomeAnd o (λ r. r ≡ x) → o ≡ Some x
known_range None x h = absurd h
known_range (Some r) x h = ap Some h

pub map_same : {A : Type 0} (xs : List A) → map (λ x. x) xs ≡ xs
map_same [] = refl
map_same (x ∷ xs) = ap (λ ys. x ∷ ys) (map_same xs)
