pub mod MaskPlaces
