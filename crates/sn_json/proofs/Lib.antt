mod Lookups
mod Numerals
mod Wholes
