-- What the two passes take, and how they write. No promise to the desk names it.
pub mod Standing
pub mod Written
