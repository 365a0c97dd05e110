mod Gathered
mod InOrder
mod Least
