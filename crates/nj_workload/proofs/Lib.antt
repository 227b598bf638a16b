mod Bytes
mod Readable
mod Sizes
