pub mod Complement
