pub mod Laws
pub mod Linear
