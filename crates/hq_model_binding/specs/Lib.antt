pub mod SessionReading
