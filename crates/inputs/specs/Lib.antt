-- What messages, records and literals hold, as the code has it.
pub mod Answers
pub mod Noted
pub mod Singles
