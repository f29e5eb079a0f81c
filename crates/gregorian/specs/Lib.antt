-- What the calendar is, how the code reckons it, and what its refusals say.
pub mod Calendar
pub mod Reckon
pub mod Faults
