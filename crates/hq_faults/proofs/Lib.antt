mod RuleTexts
