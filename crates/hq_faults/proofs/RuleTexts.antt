-- The numbers of rules are texts.
use Rattle.std.proofs.Common.{◌≡◌, false, refl}
use Rattle.hq_base.specs.Text.{has_zero}
use Rattle.hq_gql_tree.specs.Rules.{rule_text}
use Rattle.hq_gql_tree.specs.declared.rule.RuleId.{RuleId}
use Rattle.hq_gql_tree.specs.declared.rule.RuleId.TheVariants as rule

-- no number has a zero byte
pub has_no_zero : (r : RuleId) → has_zero (rule_text r) ≡ false
unfolding rule_text
has_no_zero rule.InvalidBody = refl
has_no_zero rule.RequestForm = refl
has_no_zero rule.InvalidToken = refl
has_no_zero rule.SyntaxError = refl
has_no_zero rule.OperationNameUniqueness = refl
has_no_zero rule.LoneAnonymousOperation = refl
has_no_zero rule.SingleRootField = refl
has_no_zero rule.FieldSelections = refl
has_no_zero rule.FieldSelectionMerging = refl
has_no_zero rule.LeafFieldSelections = refl
has_no_zero rule.ArgumentNames = refl
has_no_zero rule.ArgumentUniqueness = refl
has_no_zero rule.RequiredArguments = refl
has_no_zero rule.FragmentNameUniqueness = refl
has_no_zero rule.FragmentSpreadTypeExistence = refl
has_no_zero rule.FragmentsOnCompositeTypes = refl
has_no_zero rule.FragmentsMustBeUsed = refl
has_no_zero rule.FragmentSpreadTargetDefined = refl
has_no_zero rule.FragmentSpreadsMustNotFormCycles = refl
has_no_zero rule.FragmentSpreadIsPossible = refl
has_no_zero rule.ValuesOfCorrectType = refl
has_no_zero rule.InputObjectFieldNames = refl
has_no_zero rule.InputObjectFieldUniqueness = refl
has_no_zero rule.InputObjectRequiredFields = refl
has_no_zero rule.DirectivesAreDefined = refl
has_no_zero rule.DirectivesAreInValidLocations = refl
has_no_zero rule.DirectivesAreUniquePerLocation = refl
has_no_zero rule.VariableUniqueness = refl
has_no_zero rule.VariablesAreInputTypes = refl
has_no_zero rule.AllVariableUsesDefined = refl
has_no_zero rule.AllVariablesUsed = refl
has_no_zero rule.AllVariableUsagesAreAllowed = refl
has_no_zero rule.NoSuchOperation = refl
has_no_zero rule.OnlyQueries = refl
has_no_zero rule.VariableValue = refl
has_no_zero rule.RequestSize = refl
has_no_zero rule.NegativeLimit = refl
has_no_zero rule.DistinctOrder = refl
has_no_zero rule.PatternEscape = refl
has_no_zero rule.NullOperand = refl
has_no_zero rule.CountColumns = refl
has_no_zero rule.SortEntries = refl
has_no_zero rule.UnorderedColumn = refl
has_no_zero rule.MissingVariable = refl
has_no_zero rule.UnreadableVariable = refl
