pub mod Trials
pub mod Keys
pub mod Lists
