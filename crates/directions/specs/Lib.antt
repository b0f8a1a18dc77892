pub mod Rings
pub mod TextRules
pub mod RingFacts
pub mod Openings
