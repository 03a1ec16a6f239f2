pub mod Strikes
pub mod Alikes
pub mod Laws
