pub mod Origins
pub mod Conjuncts
pub mod Renamed
pub mod Members
pub mod Uses
pub mod Faults
pub mod Ready
pub mod Laws
