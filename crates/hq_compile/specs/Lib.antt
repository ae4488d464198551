pub mod Fields
pub mod GrantedTrees
