pub mod Sizes
pub mod Formulas
pub mod Weathers
pub mod Totals
pub mod Fairness
pub mod Bills
