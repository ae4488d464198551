-- The files of a folder, by their names, which differ.
use Rattle.std.specs.Prelude.{◌≡◌, ◌<◌, ◌≤◌, ℕ, Bool, true, List, [], ◌∷◌, length, ⊤, Result, if◌then◌else◌}
use Rattle.std.specs.declared.option.Option.{Option}
use Rattle.std.specs.declared.option.Option.TheVariants.{None, Some}
use Rattle.std.specs.declared.result.Result.TheVariants.{Ok, Err}
use Rattle.std.specs.Str.{bytes_eq}
use Rattle.hq_base.specs.Lists.{all_differ}
use Rattle.hq_io.specs.declared.files.File.{File}
use Rattle.hq_io.specs.declared.files.FileRefusal.{FileRefusal}
use Rattle.hq_io.specs.declared.files.FileRefusal.TheVariants.{Missing, Failed, Memory, TooLarge}
use Rattle.hq_io.specs.declared.files.TheConstants.{LARGEST_FILE}
use Rattle.hq_io.specs.Causes.{Rose}

-- whether two files have one name
abbrev pub same_name : File → File → Bool
same_name a b = bytes_eq a.name b.name

-- no two files have one name
abbrev pub NamesDiffer : List File → Type 0
NamesDiffer files = all_differ same_name files ≡ true

-- the bytes of the file of this name
abbrev pub file_named : List ℕ → List File → Option (List ℕ)
file_named name [] = None
file_named name (file ∷ files) = if bytes_eq file.name name then Some file.bytes else file_named name files

-- what a load answers where the folder tells what it has under the name, and what it leaves in the buffer
abbrev pub LoadsTold : Option (List ℕ) → Result (Unit {0}) FileRefusal → List ℕ → Type 0
LoadsTold held (Ok _) into = (held ≡ Some into) × (length into ≤ LARGEST_FILE)
LoadsTold held (Err Missing) into = held ≡ None
LoadsTold held (Err TooLarge) into = (bytes : List ℕ) × (held ≡ Some bytes) × (LARGEST_FILE < length bytes)
LoadsTold held (Err Failed) into = (bytes : List ℕ) × (held ≡ Some bytes) × (length bytes ≤ LARGEST_FILE)
LoadsTold held (Err Memory) into = ⊤

-- what a load answers where the folder tells nothing: it knows no name and no size, so a refusal is a fault
abbrev pub LoadsUntold : (before now : ℕ) → Result (Unit {0}) FileRefusal → List ℕ → Type 0
LoadsUntold before now (Ok _) into = length into ≤ LARGEST_FILE
LoadsUntold before now (Err Missing) into = Rose before now
LoadsUntold before now (Err TooLarge) into = Rose before now
LoadsUntold before now (Err Failed) into = Rose before now
LoadsUntold before now (Err Memory) into = ⊤

-- what a load by name answers, and what it leaves in the buffer
abbrev pub Loads : Option (List File) → List ℕ → (before now : ℕ) → Result (Unit {0}) FileRefusal → List ℕ → Type 0
Loads None name before now result into = LoadsUntold before now result into
Loads (Some files) name before now result into = LoadsTold (file_named name files) result into
