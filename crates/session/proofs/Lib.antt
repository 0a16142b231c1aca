mod Buffers
mod Comparing
mod Effects
