mod Stack
mod Least
