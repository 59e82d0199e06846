-- What the set pass gives and writes. No promise to the desk names it.
pub mod Next
pub mod Passes
