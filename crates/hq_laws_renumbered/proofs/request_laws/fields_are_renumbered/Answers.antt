use Rattle.hq_laws_renumbered.proofs.Requests.Roots.{roots_over}
use Rattle.hq_laws_renumbered.proofs.request_laws.fields_are_renumbered.Goals as goal

pub returns : goal.returns
returns c = λ s z n a r vars root there fs of_role alike. roots_over s z n a r of_role alike vars root there fs
