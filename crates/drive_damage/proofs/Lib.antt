pub mod Damaging
