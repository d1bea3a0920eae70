pub mod Contents
pub mod Goods
pub mod Sectors
pub mod Steps
