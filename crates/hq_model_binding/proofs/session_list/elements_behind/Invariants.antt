use Rattle.std.proofs.Common.{◌≡◌, [], drop}
use Rattle.hq_model.specs.SessionLists.{elements_from}
use Rattle.hq_model_binding.specs.SessionReading.{read_on}
use Rattle.hq_model.specs.declared.session_list.ListState.TheVariants.{Before}
use Rattle.hq_model_binding.proofs.session_list.elements_behind.Given as goal

-- the reader reads what is left as the whole is read
abbrev pub invariant-loop-at : goal.invariant-loop-at
invariant-loop-at l = read_on l.reader (drop l.at l.bytes) ≡ elements_from Before [] [] l.bytes
