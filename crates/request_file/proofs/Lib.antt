mod Falling
mod Framing
mod Whole
