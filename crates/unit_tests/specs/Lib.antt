pub mod Vials
