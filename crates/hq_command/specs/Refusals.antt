-- What the refusal of a part is to the program, and with it what is due of a directory.
use Rattle.std.specs.Prelude.{ℕ, List, Result}
use Rattle.hq_engine.specs.declared.refusal.EngineRefusal.{EngineRefusal}
use Rattle.hq_engine.specs.declared.refusal.EngineRefusal.TheVariants as engine
use Rattle.hq_load.specs.Loading.{Contents, Described, description_due, loading_due, refused_as}
use Rattle.hq_load.specs.declared.refusal.LoadingRefusal.{LoadingRefusal}
use Rattle.hq_load.specs.declared.refusal.LoadingRefusal.TheVariants as loading
use Rattle.hq_io.specs.declared.files.File.{File}
use Rattle.hq_io.specs.declared.streams.InputRefusal.{InputRefusal}
use Rattle.hq_io.specs.declared.streams.InputRefusal.TheVariants as input
use Rattle.hq_load_pages.specs.declared.refusal.PageRefusal.{PageRefusal}
use Rattle.hq_load_pages.specs.declared.refusal.PageRefusal.TheVariants as pages
use Rattle.hq_serve.specs.declared.serving.ServeRefusal.{ServeRefusal}
use Rattle.hq_serve.specs.declared.serving.ServeRefusal.TheVariants as serve
use Rattle.hq_cli.specs.declared.refusal.WordsRefusal.{WordsRefusal}
use Rattle.hq_cli.specs.declared.refusal.WordsRefusal.TheVariants as words
use Rattle.hq_command.specs.declared.refusal.Refusal.{Refusal}
use Rattle.hq_command.specs.declared.refusal.Refusal.TheVariants.{BadWords, File as RefusedFile, ReadFailed, WriteFailed, Database, Memory, InputTooLong}

-- of the words
abbrev pub of_words : WordsRefusal → Refusal
of_words words.BadWords = BadWords
of_words words.Memory = Memory

-- of a directory
abbrev pub of_loading : LoadingRefusal → Refusal
of_loading (loading.File file fault) = RefusedFile file fault
of_loading loading.Failed = ReadFailed
of_loading loading.Memory = Memory

-- of a disk
abbrev pub of_pages : PageRefusal → Refusal
of_pages pages.Failed = ReadFailed
of_pages pages.Memory = Memory

-- of the input
abbrev pub of_input : InputRefusal → Refusal
of_input input.Failed = ReadFailed
of_input input.TooLong = InputTooLong
of_input input.Memory = Memory

-- of a request
abbrev pub of_engine : EngineRefusal → Refusal
of_engine (engine.Database before after) = Database before after
of_engine engine.Memory = Memory

-- of serving
abbrev pub of_serving : ServeRefusal → Refusal
of_serving serve.DoorFailed = ReadFailed
of_serving serve.WriteFailed = WriteFailed
of_serving serve.Memory = Memory

-- what a directory holds, or why it is refused
abbrev pub contents_due : (dir : List ℕ) → List File → Result Contents Refusal
contents_due dir files = refused_as of_loading (loading_due files dir)

-- what a directory describes, or why it is refused
abbrev pub description_of : (dir : List ℕ) → List File → Result Described Refusal
description_of dir files = refused_as of_loading (description_due files dir)
