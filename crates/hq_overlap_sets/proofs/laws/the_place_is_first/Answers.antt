-- What is computed is the first place, and there is one.
use Rattle.hq_overlap_sets.specs.Sets.{document_sets}
use Rattle.hq_overlap_sets.proofs.Together.{place_is_first, one_first}
use Rattle.hq_overlap_sets.specs.Places.{overlap_in, overlap_place}
use Rattle.hq_overlap_sets.proofs.laws.the_place_is_first.Goals as goal

pub returns-clause-first : goal.returns-clause-first
unfolding overlap_place
returns-clause-first c = λ s d. place_is_first (document_sets s d)

pub returns-clause-one : goal.returns-clause-one
unfolding overlap_place
returns-clause-one c = λ s d place first. one_first (document_sets s d) place (overlap_in (document_sets s d)) first (place_is_first (document_sets s d))
