mod Alike
mod Bounded
mod Priced
mod Ranks
mod Totals
