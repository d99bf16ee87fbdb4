mod Places
mod Readings
