mod ListsRead
