pub mod Numeral
pub mod Grammar
pub mod Call
