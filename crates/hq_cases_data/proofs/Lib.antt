mod TableNames
