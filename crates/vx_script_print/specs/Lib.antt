pub mod ReadBack
pub mod Text
