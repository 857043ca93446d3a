pub mod OwnLine
