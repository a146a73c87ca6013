mod Admitted
mod Listed
mod Onward
