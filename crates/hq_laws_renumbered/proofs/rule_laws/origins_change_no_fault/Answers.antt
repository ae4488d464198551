-- Each rule finds the same.
use Rattle.hq_laws_renumbered.proofs.Rules.Faults.{same_doc_fault, same_field_fault}
use Rattle.hq_laws_renumbered.proofs.rule_laws.origins_change_no_fault.Goals as goal

pub returns : goal.returns
returns c = record { documents = same_doc_fault; fields = same_field_fault }
