mod Stills
pub mod OnePlex
