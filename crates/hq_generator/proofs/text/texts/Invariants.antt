use Rattle.std.proofs.Common.{◌≡◌, map, take}
use Rattle.hq_generator.specs.Words.{word_text}
use Rattle.hq_generator.proofs.text.texts.Given as goal

-- the texts of the words so far
abbrev pub invariant-loop-word : goal.invariant-loop-word
invariant-loop-word l = l.texts ≡ map word_text (take l.word-index l.words)
