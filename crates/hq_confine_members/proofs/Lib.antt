pub mod Empty
pub mod AliasLemmas
