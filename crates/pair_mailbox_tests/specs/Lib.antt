pub mod OnePair
