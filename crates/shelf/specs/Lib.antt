pub mod Stands
pub mod HeldGate
pub mod Entering
