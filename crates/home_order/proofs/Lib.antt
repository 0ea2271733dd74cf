pub mod Rests
pub mod Firsts
