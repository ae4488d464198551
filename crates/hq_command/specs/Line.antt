-- The line that a refusal is told by: the file that it is of, its name, and its fields.
use Rattle.std.specs.Prelude.{ℕ, List, [], ◌∷◌, Option, Some, None}
use Rattle.std.specs.List.{concat}
use Rattle.std.specs.Fmt.{decimal}
use Rattle.hq_load.specs.Line.{front_text, phrase_text, spaced}
use Rattle.hq_load.specs.declared.phrase.Phrase.{Phrase}
use Rattle.hq_load.specs.declared.phrase.Phrase.TheVariants.{Hq, End, BadArguments, ReadFailed, WriteFailed, DatabaseFailed, OutOfMemory, InputTooLong, Copy}
use Rattle.hq_load.specs.Faults.{fault_fields, fault_name}
use Rattle.hq_command.specs.declared.refusal.Refusal.{Refusal}
use Rattle.hq_command.specs.declared.refusal.Refusal.TheVariants as refusal

-- the file that a refusal is of
abbrev pub refusal_file : Refusal → Option (List ℕ)
refusal_file (refusal.File file f) = Some file
refusal_file r = None

abbrev pub refusal_name : Refusal → Phrase
refusal_name refusal.BadWords = BadArguments
refusal_name (refusal.File file f) = fault_name f
refusal_name refusal.ReadFailed = ReadFailed
refusal_name refusal.WriteFailed = WriteFailed
refusal_name (refusal.Database before after) = DatabaseFailed
refusal_name refusal.Memory = OutOfMemory
refusal_name refusal.InputTooLong = InputTooLong
refusal_name (refusal.NotCopied cause) = Copy

abbrev pub refusal_fields : Refusal → List (List ℕ)
refusal_fields (refusal.File file f) = fault_fields f
refusal_fields (refusal.Database before after) = decimal before ∷ decimal after ∷ []
refusal_fields (refusal.NotCopied cause) = cause ∷ []
refusal_fields r = []

-- the line of a refusal
abbrev pub line_of : Refusal → List ℕ
line_of r = concat (phrase_text Hq ∷ front_text (refusal_file r) ∷ phrase_text (refusal_name r) ∷ spaced (refusal_fields r) ∷ phrase_text End ∷ [])
